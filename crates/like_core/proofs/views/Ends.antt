-- What the coordinator knows, of the moments of its board.
use Rattle.std.proofs.Common.{◌≡◌, ◌+◌, true, get_or, Option, Some, ap, ◌∙◌, subst, arith}
use Rattle.std.specs.Prelude.{All, IfSome, slice_index}
use mathlib.Core.Option.{some}
use lib.ListN.{get_elem?}
use Rattle.like_core.specs.declared.opening.Opening.{Opening}
use Rattle.like_core.specs.declared.sight.CoordSight.{CoordSight}
use Rattle.like_core.specs.declared.view.CoordSeatView.{CoordSeatView}
use Rattle.like_core.specs.declared.view.PageCount.{PageCount}
use Rattle.like_core.specs.declared.view.View.TheVariants.{Coord}
use Rattle.like_core.specs.core.Numbers.{CoordSees}
use Rattle.like_core.specs.core.State.{numbers}
use Rattle.like_core.specs.word.ShownWord.{shown_word}
use Rattle.like_core.specs.views.Places.{count_after}
use Rattle.like_core.specs.views.Reads.{IsCounted}
use Rattle.like_core.specs.views.Posts.{posts_before, posts_of}
use Rattle.like_core.specs.views.Shows.{FitsCoord, IsLastMoment, IsKnown, Moment}
use Rattle.like_core.proofs.views.Ordered.{past_now}

-- the coordinator's counts of its phase are those of the moment
pub counted_now : (z : Opening) (c : CoordSeatView) (m : Moment z)
    → get_elem? m.views 0 ≡ some (Coord c)
    → All (λ r. r.phase ≡ c.phase → r.count ≡ count_after z.counts m.views r.page) c.counted
counted_now z c m mine = λ k d below at.
    let sh = m.shown.shows in
    let first = sh.seats.first in
    let same : sh.coord ≡ c = cc in
    let fits : FitsCoord z m.shown.state c = sh.seats.each 0 (Coord c) mine in
    let counted : All (IsCounted z.counts (posts_before (posts_of m.views))) c.counted =
    subst (λ (e : CoordSeatView). All (IsCounted z.counts (posts_before (posts_of m.views))) e.counted) same sh.counted in
    let r : PageCount = get_or c.counted k d in
    let present = fits.phase.present in
    counted k d below ∙ ap (λ n. slice_index z.counts r.page + n) (past_now z m (r.phase + 1) r.page (omega arith))

-- if its last sight showed all in at an ending, and all gone, it knows a last moment
pub end_known : (z : Opening) (c : CoordSeatView) (sight : CoordSight)
    → IsKnown z (Coord c)
    → c.last ≡ Some sight
    → sight.ending ≡ true
    → sight.all_in ≡ true
    → sight.all_gone ≡ true
    → IsLastMoment z c
end_known z c sight known last ending all_in all_gone =
    let m = known.moment in
    let fits : FitsCoord z m.shown.state c = m.shown.shows.seats.each known.place (Coord c) known.mine in
    let place : known.place ≡ 0 = m.shown.shows.seats.only known.place c known.mine in
    let sees = subst (λ (o : Option CoordSight). IfSome o (λ s. s.ending ≡ true → s.all_in ≡ true
    → CoordSees (numbers z m.shown.state) s × (c.word ≡ shown_word z m.shown.state))) last fits.phase.stays ending all_in in
    record {
      moment = m;
      mine = subst (λ i. get_elem? m.views i ≡ some (Coord c)) place known.mine;
      gone = sees.0.all_gone.0 all_gone;
    }
