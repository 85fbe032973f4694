-- What is known of a board that one thread owned, once it ends.
use Rattle.std.proofs.Common.{◌≡◌, ◌≢◌, ℕ, zero, suc, ◌+◌, ◌<◌, ◌≤◌, List, [], ◌∷◌, length, map, get_or, refl, ap, sym, ◌∙◌, arith}
use mathlib.Core.Option.{some, some-injective, some-ne-none}
use lib.ListN.{get_elem?}
use Rattle.atomic_table.proofs.Lists.{set_else, set_here}
use Rattle.like_core.specs.declared.opening.Opening.{Opening}
use Rattle.like_core.specs.declared.view.CoordSeatView.{CoordSeatView}
use Rattle.like_core.specs.declared.view.View.{View}
use Rattle.like_core.specs.declared.view.View.TheVariants.{Coord, Worker}
use Rattle.like_core.specs.declared.view.WorkerSeatView.{WorkerSeatView}
use Rattle.like_core.specs.views.Layout.{word_of}
use Rattle.like_core.specs.views.Shows.{ShowsSome}
use Rattle.like_core.specs.views.Views.{gathered_all}
use Rattle.like_board.specs.declared.own_board.worker_seat.OwnWorkerSeat.{OwnWorkerSeat}
use Rattle.like_board.specs.Closed.{IsClosed, count_with}
use Rattle.like_board.specs.Own.{own_view}
use Rattle.like_board.specs.OwnClosed.{all_views, as_shared}
use Rattle.like_board.specs.Seats.{AreAll, seat_view}
use Rattle.like_board.proofs.Gathering.{gathered, gathers}
use Rattle.like_board.proofs.LastCounts.{closes}
use Rattle.like_board.proofs.Lending.{inside}

-- as if each of these workers' seats were given back to the coordinator's
record AllGathered (z : Opening) (words : List ℕ) (views : List View) (c : CoordSeatView) (n : ℕ)
    (vs : List WorkerSeatView) : Type 0 where
  after : List View
  shows : ShowsSome z words after
  lead : get_elem? after 0 ≡ some (Coord (gathered_all c vs))
  same : (place : ℕ) → 1 ≤ place → place ≤ n → get_elem? after place ≡ get_elem? views place

gathers_all : (z : Opening) (words : List ℕ) (views : List View) (c : CoordSeatView) (n : ℕ) (vs : List WorkerSeatView)
    → ShowsSome z words views
    → get_elem? views 0 ≡ some (Coord c)
    → ((i : ℕ) (v : WorkerSeatView) → get_elem? vs i ≡ some v → get_elem? views (n + 1 + i) ≡ some (Worker v))
    → AllGathered z words views c n vs
gathers_all z words views c n [] shows lead each =
    record { after = views; shows = shows; lead = lead; same = λ place some_ few. refl }
gathers_all z words views c n (v ∷ vs) shows lead each =
    let later = gathers_all z words views c (n + 1) vs shows lead (λ i w at.
    let next : n + 1 + 1 + i ≡ n + 1 + suc i = omega arith in
    ap (get_elem? views) next ∙ each (suc i) w at) in
    let d : CoordSeatView = gathered_all c vs in
    let here : n + 1 ≡ n + 1 + 0 = omega arith in
    let mine : get_elem? later.after (n + 1) ≡ some (Worker v) =
    later.same (n + 1) (omega arith) (omega arith) ∙ ap (get_elem? views) here ∙ each 0 v refl in
    let other : n + 1 ≢ 0 = λ none. omega (arith, none) in
    let changed : List View = Rattle.std.proofs.Common.set later.after 0 (Coord (gathered_all c (v ∷ vs))) in
    record {
      after = gathered later.after 0 (n + 1) d v;
      shows = gathers z words later.after 0 (n + 1) d v later.shows later.lead other
          (set_else later.after 0 (n + 1) (Coord (gathered_all c (v ∷ vs))) other ∙ mine);
      lead = set_else changed (n + 1) 0 _ (λ none. omega (arith, none))
          ∙ set_here later.after 0 (Coord (gathered_all c (v ∷ vs))) (inside later.after 0 (Coord d) later.lead);
      same = λ place some_ few.
          set_else changed (n + 1) place _ (λ same. omega (arith, same, few))
          ∙ set_else later.after 0 place (Coord (gathered_all c (v ∷ vs))) (λ none. omega (arith, none, some_))
          ∙ later.same place some_ (omega (arith, few));
    }

-- what the seats know, as seats of a shared board or not
same_views : (seats : List OwnWorkerSeat) → map seat_view (map as_shared seats) ≡ map own_view seats
same_views [] = refl
same_views (s ∷ seats) = ap (λ l. own_view s ∷ l) (same_views seats)

-- each is at its place
view_at : (seats : List OwnWorkerSeat) (i : ℕ) (v : WorkerSeatView) → get_elem? (map own_view seats) i ≡ some v
    → get_elem? (map {B = View} (λ s. Worker (own_view s)) seats) i ≡ some (Worker v)
view_at [] i v at = absurd (some-ne-none v (sym at))
view_at (s ∷ seats) zero v at = ap (λ w. some (Worker w)) (some-injective (own_view s) v at)
view_at (s ∷ seats) (suc i) v at = view_at seats i v at

-- what is known of a closed board is known of this one
pub closes_own : (z : Opening) (words : List ℕ) (views : List View) (c : CoordSeatView) (seats : List OwnWorkerSeat)
    → ShowsSome z words views
    → views ≡ all_views c seats
    → c.joined ≡ []
    → c.made ≡ c.opening.workers
    → AreAll c.opening.workers (map as_shared seats)
    → IsClosed c (map seat_view (map as_shared seats))
    × ((page : ℕ) → page < length c.opening.counts
    → get_or words (word_of page) 0 ≡ count_with c (map as_shared seats) page)
closes_own z words views c seats shows are none made all =
    let vs : List WorkerSeatView = map own_view seats in
    let lead : get_elem? views 0 ≡ some (Coord c) = ap (λ (l : List View). get_elem? l 0) are in
    let g = gathers_all z words views c 0 vs shows lead (λ i v at.
    let next : 0 + 1 + i ≡ suc i = omega arith in
    ap (get_elem? views) next ∙ ap (λ (l : List View). get_elem? l (suc i)) are ∙ view_at seats i v at) in
    closes z words g.after 0 (Coord (gathered_all c vs)) c (map as_shared seats) g.shows g.lead (record {
      view = ap (λ (l : List WorkerSeatView). Coord (gathered_all c l)) (sym (same_views seats));
      none = none;
      made = made;
      all = all;
    })
