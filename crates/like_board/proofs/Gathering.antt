-- A worker's seat is given back to the coordinator, and what the words show where all were.
use Rattle.std.proofs.Common.{◌≡◌, ◌≢◌, ℕ, zero, suc, ◌+◌, ◌<◌, ◌==◌, nat_lt, cond, inl, inr, List, [], ◌∷◌, All, length, get_or, slice_index, set, subst, ap, sym, ◌∙◌, refl, eq-eqb, arith}
use Rattle.std.specs.List.{sum_by}
use Rattle.std.proofs.lemmas.List.Sums.{sum_by-cons}
use Rattle.std.proofs.lemmas.Bool.{cond-true}
use mathlib.Core.Option.{some, some-injective}
use lib.ListN.{get_elem?}
use Rattle.atomic_table.proofs.Lists.{at_set, set_here, set_else}
use Rattle.like_core.specs.declared.opening.Opening.{Opening}
use Rattle.like_core.specs.declared.view.WorkerSeatView.{WorkerSeatView}
use Rattle.like_core.specs.declared.view.CoordSeatView.{CoordSeatView}
use Rattle.like_core.specs.declared.view.View.{View}
use Rattle.like_core.specs.declared.view.View.TheVariants.{Coord, Worker, Spent}
use Rattle.like_core.specs.core.State.{CoreState}
use Rattle.like_core.specs.Additions.{added_to, added_before}
use Rattle.like_core.specs.PageSteps.{additions_among}
use Rattle.like_core.specs.views.Views.{gathered_coord, seats_of}
use Rattle.like_core.specs.views.Reads.{IsCounted}
use Rattle.like_core.specs.views.Posts.{posts_before, posts_of}
use Rattle.like_core.specs.Log.{logged_by}
use Rattle.like_core.specs.views.Order.{HasMade}
use Rattle.like_core.specs.views.PostOrder.{IsOrderOf}
use Rattle.like_core.specs.views.Tallies.{left_to, room}
use Rattle.like_core.proofs.views.ViewSums.{added_posts, before_in, before_posts, paged}
use Rattle.like_core.proofs.views.Ordered.{all_at, applied_now}
use Rattle.like_core.specs.views.Layout.{word_of}
use Rattle.like_core.specs.views.Shows.{Shows, ShowsSome, Fits, FitsWorker, FitsCoord}
use Rattle.like_core.proofs.views.ViewLists.{within, sum_two, sum_lone, sum_gathered, sum_part}
use Rattle.like_core.proofs.views.KeptOrder.{join_keeps_order}
use Rattle.like_core.proofs.views.KeptCounts.{counted_on}
use Rattle.like_board.proofs.worker.Moves.{moment_of, same_coord, has_seat, once_at_most}
use Rattle.like_board.proofs.coordinator.Fitting.{same_phase, same_choice}
use Rattle.like_board.proofs.coordinator.Leads.{of_coord}

-- the views after the seat at `other` was given back to the coordinator's at `place`
abbrev pub gathered : List View → ℕ → ℕ → CoordSeatView → WorkerSeatView → List View
gathered views place other c v = set (set views place (Coord (gathered_coord c v))) other Spent

-- the coordinator's view fits with one worker's view more
fits_gathered : (z : Opening) (s : CoreState) (c : CoordSeatView) (v : WorkerSeatView)
    → FitsCoord z s c
    → FitsWorker z s v
    → FitsCoord z s (gathered_coord c v)
fits_gathered z s c v f g = record {
  seats = record {
    opening = f.seats.opening;
    made = f.seats.made;
    unmade = f.seats.unmade;
    joined = either f g;
  };
  phase = same_phase z s c (gathered_coord c v) refl f.phase;
  choice = same_choice z s c (gathered_coord c v) refl f.choice;
}
  where
    either : FitsCoord z s c → FitsWorker z s v → (at : ℕ) (w : WorkerSeatView) → get_elem? (v ∷ c.joined) at ≡ some w
        → FitsWorker z s w
    either f g zero w found = subst (FitsWorker z s) (some-injective v w found) g
    either f g (suc at) w found = f.seats.joined at w found

-- a seat that is given back changes nothing that is shown
pub gathers : (z : Opening) (words : List ℕ) (views : List View) (place other : ℕ) (c : CoordSeatView)
    (v : WorkerSeatView)
    → ShowsSome z words views
    → get_elem? views place ≡ some (Coord c)
    → other ≢ place
    → get_elem? (set views place (Coord (gathered_coord c v))) other ≡ some (Worker v)
    → ShowsSome z words (gathered views place other c v)
gathers z words views place other c v some_state at apart mine =
    let s = some_state.state in
    let sh = some_state.shows in
    let d : CoordSeatView = gathered_coord c v in
    let changed : List View = set views place (Coord d) in
    let is = same_coord z s words views place c sh at in
    let known = of_coord z s words views place c sh at in
    let old : FitsCoord z s c = sh.seats.each place (Coord c) at in
    let there : get_elem? views other ≡ some (Worker v) = sym (set_else views place other (Coord d) apart) ∙ mine in
    let own : FitsWorker z s v = sh.seats.each other (Worker v) there in
    let fits : FitsCoord z s d = fits_gathered z s c v old own in
    let here : get_elem? changed 0 ≡ some (Coord d) =
    ap (get_elem? changed) (sym is.0) ∙ set_here views place (Coord d) (within views place (Coord c) at)
    in
    record {
      state = s;
      reachable = some_state.reachable;
      shows = record {
        opening = sh.opening;
        merged = sh.merged;
        coord = d;
        published = known.0.published;
        chosen = known.0.chosen;
        slots = known.0.slots;
        all_slots = known.0.all_slots;
        slots_fit = known.0.slots_fit;
        board = sh.board;
        seats = record {
          first = set_else changed other 0 Spent (λ same. apart (sym same ∙ sym is.0)) ∙ here;
          only = λ j e found. elim (at_set changed other j Spent (Coord e) found) [
            | inl spent ↦ let clash = spent.1 in absurd (cc)
            | inr before ↦ elim (at_set views place j (Coord d) (Coord e) before.1) [
              | inl first ↦ first.0 ∙ is.0
              | inr rest ↦ sh.seats.only j e rest.1
            ]
          ];
          each = λ j u found. elim (at_set changed other j Spent u found) [
            | inl spent ↦ subst (Fits z s) spent.1 tt
            | inr before ↦ elim (at_set views place j (Coord d) u before.1) [
              | inl first ↦ subst (Fits z s) first.1 fits
              | inr rest ↦ sh.seats.each j u rest.1
            ]
          ];
          once = λ i.
              sum_gathered (seats_of i) views place other c v at mine refl
              (sum_by-cons (λ (w : WorkerSeatView). cond (w.worker == i) 1 0) v c.joined) ∙
              (sh.seats.once i ∙ ap (λ (e : CoordSeatView). cond (nat_lt i e.made) 1 0) is.1);
          slots = λ j u found. elim (at_set changed other j Spent (Worker u) found) [
            | inl spent ↦ let clash = spent.1 in absurd (cc)
            | inr before ↦ elim (at_set views place j (Coord d) (Worker u) before.1) [
              | inl first ↦ let clash = first.1 in absurd (cc)
              | inr rest ↦ known.0.read j u rest.1
            ]
          ];
        };
        counted = counted_on z.counts (posts_before (posts_of views)) (posts_before (posts_of (gathered views place other c v))) c.counted
            (λ i r inside.
            let k : ℕ = (get_or c.counted i r).phase + 1 in
            let p : ℕ = (get_or c.counted i r).page in
            sym (before_posts k p (gathered views place other c v))
            ∙ sum_gathered (before_in k p) views place other c v at mine refl
            (sum_by-cons (λ (w : WorkerSeatView). added_before k p (additions_among w.did)) v c.joined)
            ∙ before_posts k p views)
            known.1;
      };
      tallied = λ page.
          let before = some_state.tallied page in
          let more = sum_by-cons (λ (w : WorkerSeatView). left_to z.limits.likes page w) v c.joined in
          let same = sum_gathered (room z.limits page) views place other c v at mine refl (omega arith) in
          omega arith;
      log = some_state.log;
      order = join_keeps_order z s views some_state.log place other c v at there some_state.order;
    }

-- beside a coordinator that has all workers' seats back, no view knows anything
others_spent : (z : Opening) (s : CoreState) (words : List ℕ) (views : List View) (place : ℕ) (c : CoordSeatView)
    → Shows z s words views
    → get_elem? views place ≡ some (Coord c)
    → ((i : ℕ) → i < c.made → seats_of i (Coord c) ≡ 1)
    → (j : ℕ) (u : View)
    → j ≢ place
    → get_elem? views j ≡ some u
    → u ≡ Spent
others_spent z s words views place c sh at all j (Coord e) other found =
    absurd (other (sh.seats.only j e found ∙ sym (sh.seats.only place c at)))
others_spent z s words views place c sh at all j (Worker v) other found =
    let is = same_coord z s words views place c sh at in
    let seated = subst (λ (d : CoordSeatView). v.worker < d.made) is.1 (has_seat z s words views j v sh found) in
    let two = sum_two (seats_of v.worker) views place j (Coord c) (Worker v) (λ same. other (sym same)) at found in
    let once = sh.seats.once v.worker in
    let most = once_at_most (nat_lt v.worker sh.coord.made) in
    let one : seats_of v.worker (Worker v) ≡ 1 = cond-true (v.worker == v.worker) 1 0 (eq-eqb v.worker v.worker refl) in
    let back = all v.worker seated in
    absurd (omega arith)
others_spent z s words views place c sh at all j Spent other found = refl

-- a sum over the views is then the coordinator's alone
sum_coord : (f : View → ℕ) (z : Opening) (s : CoreState) (words : List ℕ) (views : List View) (place : ℕ)
    (c : CoordSeatView)
    → f Spent ≡ 0
    → Shows z s words views
    → get_elem? views place ≡ some (Coord c)
    → ((i : ℕ) → i < c.made → seats_of i (Coord c) ≡ 1)
    → sum_by f views ≡ f (Coord c)
sum_coord f z s words views place c none sh at all =
    sum_lone f views place (Coord c) at
    (λ j u other found. ap f (others_spent z s words views place c sh at all j u other found) ∙ none)

-- where all workers' seats were given back, no other worker made anything
pub last_others : (z : Opening) (words : List ℕ) (views : List View) (place : ℕ) (c : CoordSeatView)
    → (shows : ShowsSome z words views)
    → get_elem? views place ≡ some (Coord c)
    → ((i : ℕ) → i < c.made → seats_of i (Coord c) ≡ 1)
    → (i : ℕ)
    → seats_of i (Coord c) ≡ 0
    → logged_by i shows.log ≡ []
last_others z words views place c some_state at all i none =
    some_state.order.others i
    (sum_coord (seats_of i) z some_state.state words views place c refl some_state.shows at all ∙ none)

-- and each page's word is its count at the start and all their additions
pub last_word : (z : Opening) (words : List ℕ) (views : List View) (place : ℕ) (c : CoordSeatView)
    → ShowsSome z words views
    → get_elem? views place ≡ some (Coord c)
    → ((i : ℕ) → i < c.made → seats_of i (Coord c) ≡ 1)
    → (page : ℕ)
    → page < length z.counts
    → get_or words (word_of page) 0 ≡ get_or z.counts page 0 + sum_by (λ w. added_to page (additions_among w.did)) c.joined
last_word z words views place c some_state at all page on =
    let s = some_state.state in
    let sh = some_state.shows in
    let lone = sum_coord (paged page) z s words views place c refl sh at all in
    let sums = applied_now z (moment_of z words views some_state) page in
    let same = added_posts page views in
    let found = sh.board.pages page on in
    omega arith

-- and each count that the coordinator read is the one at the start and what they have added up to its phase
pub last_counted : (z : Opening) (words : List ℕ) (views : List View) (place : ℕ) (c : CoordSeatView)
    → ShowsSome z words views
    → get_elem? views place ≡ some (Coord c)
    → ((i : ℕ) → i < c.made → seats_of i (Coord c) ≡ 1)
    → All (IsCounted z.counts (λ phase page. before_in phase page (Coord c))) c.counted
last_counted z words views place c some_state at all =
    let s = some_state.state in
    let sh = some_state.shows in
    counted_on z.counts (posts_before (posts_of views)) (λ phase page. before_in phase page (Coord c)) c.counted
    (λ i r inside.
    let k : ℕ = (get_or c.counted i r).phase + 1 in
    let p : ℕ = (get_or c.counted i r).page in
    sym (sum_coord (before_in k p) z s words views place c refl sh at all) ∙ before_posts k p views)
    (of_coord z s words views place c sh at).1

-- what all those workers made has one order
pub last_order : (z : Opening) (words : List ℕ) (views : List View) (place : ℕ) (c : CoordSeatView)
    → (shows : ShowsSome z words views)
    → get_elem? views place ≡ some (Coord c)
    → ((i : ℕ) → i < c.made → seats_of i (Coord c) ≡ 1)
    → IsOrderOf (slice_index z.counts) shows.state.phase c.joined shows.log
last_order z words views place c some_state at all = record {
  in_turn = some_state.order.in_turn;
  rising = some_state.order.rising;
  each = all_at (HasMade some_state.log) c.joined (some_state.order.each place (Coord c) at);
  once = λ i.
      let sh = some_state.shows in
      let part = sum_part (seats_of i) views place (Coord c) at in
      let all_seats = sh.seats.once i in
      let most = once_at_most (nat_lt i sh.coord.made) in
      omega arith;
  others = last_others z words views place c some_state at all;
}
