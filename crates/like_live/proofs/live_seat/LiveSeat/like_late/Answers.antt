use Rattle.std.proofs.Common.{◌≡◌, ◌<◌, arith, refl, sym, ap, subst}
use Rattle.like_seat.specs.StationView.{StationView, likes_of}
use Rattle.like_seat.specs.Steps.{CountsLike}
use Rattle.like_live.specs.declared.asked.Asked.{Asked}
use Rattle.like_live.specs.Kept.{AreLiveSeatParts}
use Rattle.like_live.specs.Calls.{full, liked}
use Rattle.like_live.specs.LiveView.{LiveView, with_station}
use Rattle.like_live.proofs.Requests.{accepted_in, after-counted, is-full, not-full}
use Rattle.like_live.proofs.live_seat.LiveSeat.like_late.Goals as goal

pub invariant_of-self : goal.invariant_of-self
invariant_of-self g c =
    let i = c.self.inside in
    subst (λ (t : StationView Asked). AreLiveSeatParts t i.found i.home i.pages i.room i.half) (sym c.store.ensures)
    (after-counted i.station c.count_like_at.new.self i.found i.home i.pages i.room i.half c.args.ranked.user c.args.page
    c.count_like_at.result c.self.invariant
    (accepted_in _ i.station i.station i.found c.args.ranked.user c.args.page c.args.ranked c.self.view_is refl c.requires.accepted).there
    c.count_like_at.ensures.counts c.count_like_at.ensures.station)

pub returns-clause-keeps : goal.returns-clause-keeps
returns-clause-keeps g c = (invariant_of-self g c).live

pub returns-clause-case : goal.returns-clause-case
returns-clause-case g c =
    let s = c.self.inside.station in
    let live = c.self.invariant.live in
    let same : s ≡ c.args.self.now.station = ap (λ (w : LiveView). w.station) c.self.view_is in
    let few = not-full s live.station live.limits (omega (arith, c.likes.ensures.likes, c.if-likes-ge-MAX_LIKES.false)) in
    let counts = subst (λ (t : StationView Asked). CountsLike s c.args.ranked.user c.args.page c.count_like_at.result t)
    (sym c.store.ensures) c.count_like_at.ensures.counts in
    liked c.count_like_at.result c.store.new.station c.requires.accepted.verdict
    (subst (λ (t : StationView Asked). likes_of t < t.post.opening.limits.likes) same few)
    refl
    (subst (λ (t : StationView Asked). CountsLike t c.args.ranked.user c.args.page c.count_like_at.result c.store.new.station)
    same counts)
    (ap (λ (w : LiveView). with_station w c.store.new.station) c.self.view_is)

pub returns-then-likes-ge-MAX_LIKES-clause-case : goal.returns-then-likes-ge-MAX_LIKES-clause-case
returns-then-likes-ge-MAX_LIKES-clause-case g c =
    let s = c.self.inside.station in
    let live = c.self.invariant.live in
    let same : s ≡ c.args.self.now.station = ap (λ (w : LiveView). w.station) c.self.view_is in
    full c.requires.accepted.verdict
    (subst (λ (t : StationView Asked). likes_of t ≡ t.post.opening.limits.likes) same
    (is-full s live.station live.limits (omega (arith, c.likes.ensures.likes, c.if-likes-ge-MAX_LIKES.true)))) refl refl
