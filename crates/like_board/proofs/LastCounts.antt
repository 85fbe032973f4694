-- What the last words are, in terms of the seats that were given back.
use Rattle.std.proofs.Common.{◌≡◌, ℕ, ◌+◌, ◌^◌, ◌<◌, ◌≤◌, ◌==◌, cond, List, [], ◌∷◌, ◌++◌, All, length, map, get_or, slice_index, IfSome, subst, ap, sym, ◌∙◌, refl, arith}
use Rattle.std.specs.List.{sum_by}
use Rattle.std.proofs.lemmas.List.{append-nil, length-append}
use Rattle.std.proofs.lemmas.List.Sums.{sum_by-cons}
use mathlib.Core.Option.{some}
use lib.ListN.{get_elem?}
use Rattle.like_core.specs.declared.sight.Sight.{Sight}
use Rattle.like_core.specs.declared.opening.Opening.{Opening}
use Rattle.like_core.specs.declared.view.WorkerSeatView.{WorkerSeatView}
use Rattle.like_core.specs.declared.view.CoordSeatView.{CoordSeatView}
use Rattle.like_core.specs.declared.view.View.{View}
use Rattle.like_core.specs.declared.view.View.TheVariants.{Coord}
use Rattle.like_core.specs.views.Views.{seats_of}
use Rattle.like_core.specs.views.Reads.{IsCounted}
use Rattle.like_core.specs.PhaseMasks.{mask_of, AreMasksOf}
use Rattle.like_core.specs.views.Layout.{word_of}
use Rattle.like_core.specs.views.Shows.{ShowsSome, FitsWorker, FitsCoord}
use Rattle.like_core.specs.Post.{additions_of}
use Rattle.like_core.specs.WorkerState.{SawNoLater}
use Rattle.like_core.specs.views.PostOrder.{IsOrderOf}
use Rattle.like_core.specs.views.Posts.{posts_before}
use Rattle.like_core.proofs.views.Ordered.{all_at, order_gives_bounds, order_gives_places}
use Rattle.like_board.specs.declared.worker_seat.WorkerSeat.{WorkerSeat}
use Rattle.like_board.specs.Known.{coord_view_of}
use Rattle.like_board.specs.Seats.{seat_view}
use Rattle.like_board.specs.Closed.{HasAllBack, IsClosed, count_with}
use Rattle.like_board.proofs.worker.Moves.{if_some}
use Rattle.like_board.proofs.Gathering.{last_counted, last_order, last_word}

module _ {A B : Type 0} (g : A → B) where
  -- a sum over images
  sum_by-map : (f : B → ℕ) (xs : List A) → sum_by f (map g xs) ≡ sum_by (λ x. f (g x)) xs
  sum_by-map f [] = refl
  sum_by-map f (x ∷ xs) =
      let rest = sum_by-map f xs in
      omega (arith, sum_by-cons f (g x) (map g xs), sum_by-cons (λ y. f (g y)) x xs)

-- where all seats were given back, a page's word is its count at the start and what they mean to have added
closed_word : (z : Opening) (words : List ℕ) (views : List View) (place : ℕ) (c : CoordSeatView)
    → ShowsSome z words views
    → get_elem? views place ≡ some (Coord c)
    → c.made ≡ c.opening.workers
    → ((i : ℕ) → i < c.opening.workers → seats_of i (Coord c) ≡ 1)
    → (page : ℕ)
    → page < length c.opening.counts
    → get_or words (word_of page) 0
    ≡ get_or c.opening.counts page 0 + sum_by (λ w. additions_of w page) c.joined
closed_word z words views place c some_state at made all page on =
    let old : FitsCoord z some_state.state c = some_state.shows.seats.each place (Coord c) at in
    let same : c.opening ≡ z = old.seats.opening in
    let sized = ap (λ (y : Opening). length y.counts) same in
    let word =
    last_word z words views place c some_state at (λ i below. all i (omega arith)) page (omega arith)
    in
    let first = ap (λ (y : Opening). get_or y.counts page 0) same in
    omega arith

-- no worker whose seat was given back saw a later phase
closed_phase : (z : Opening) (words : List ℕ) (views : List View) (place : ℕ) (c : CoordSeatView)
    → ShowsSome z words views
    → get_elem? views place ≡ some (Coord c)
    → (k : ℕ) (w : WorkerSeatView)
    → get_elem? c.joined k ≡ some w
    → IfSome w.last (λ sight. sight.number ≤ c.phase)
closed_phase z words views place c some_state at k w found =
    let old : FitsCoord z some_state.state c = some_state.shows.seats.each place (Coord c) at in
    let fits : FitsWorker z some_state.state w = old.seats.joined k w found in
    let same = old.phase.present in
    if_some w.last (λ (sight : Sight). sight.number ≤ some_state.state.phase)
    (λ (sight : Sight). sight.number ≤ c.phase)
    (λ sight below. omega arith)
    fits.number

-- each count that the coordinator read is the one at the start and what all those workers have added up to its phase
closed_counted : (z : Opening) (words : List ℕ) (views : List View) (place : ℕ) (c : CoordSeatView)
    → ShowsSome z words views
    → get_elem? views place ≡ some (Coord c)
    → c.made ≡ c.opening.workers
    → ((i : ℕ) → i < c.opening.workers → seats_of i (Coord c) ≡ 1)
    → All (IsCounted c.opening.counts (posts_before c.joined)) c.counted
closed_counted z words views place c some_state at made all =
    let old : FitsCoord z some_state.state c = some_state.shows.seats.each place (Coord c) at in
    subst (λ (y : Opening). All (IsCounted y.counts (posts_before c.joined)) c.counted) (sym old.seats.opening)
    (last_counted z words views place c some_state at (λ i below. all i (omega arith)))

-- each mask that a worker whose seat was given back read is the one with which its phase was released
closed_masks : (z : Opening) (words : List ℕ) (views : List View) (place : ℕ) (c : CoordSeatView)
    → ShowsSome z words views
    → get_elem? views place ≡ some (Coord c)
    → (k : ℕ) (w : WorkerSeatView)
    → get_elem? c.joined k ≡ some w
    → AreMasksOf (mask_of c.masks) w.masks
closed_masks z words views place c some_state at k w found =
    let old : FitsCoord z some_state.state c = some_state.shows.seats.each place (Coord c) at in
    let fits : FitsWorker z some_state.state w = old.seats.joined k w found in
    λ i m inside. (fits.masks i m inside).1 ∙ sym (old.choice.masks (get_or w.masks i m).phase)

-- the last words, phases and reads, where the coordinator's seat has all workers' seats
pub closes : (z : Opening) (words : List ℕ) (views : List View) (place : ℕ) (v : View) (c : CoordSeatView)
    (seats : List WorkerSeat)
    → ShowsSome z words views
    → get_elem? views place ≡ some v
    → HasAllBack v c seats
    → IsClosed c (map seat_view seats)
    × ((page : ℕ) → page < length c.opening.counts → get_or words (word_of page) 0 ≡ count_with c seats page)
closes z words views place v c seats shows at_view back =
    let joined : map seat_view seats ++ c.joined ≡ map seat_view seats =
    ap (λ (l : List WorkerSeatView). map seat_view seats ++ l) back.none ∙ append-nil (map seat_view seats)
    in
    let d : CoordSeatView = record c { joined = map seat_view seats } in
    let is : v ≡ Coord d = back.view ∙ ap (λ (l : List WorkerSeatView). Coord (record c { joined = l })) joined in
    let at : get_elem? views place ≡ some (Coord d) = at_view ∙ ap some is in
    let each : (i : ℕ) → i < c.opening.workers → seats_of i (Coord d) ≡ 1 =
    λ i below. sum_by-map seat_view (λ (w : WorkerSeatView). cond (w.worker == i) 1 0) seats ∙ back.all i below
    in
    let posts : List WorkerSeatView = map seat_view seats in
    let first : ℕ → ℕ = slice_index c.opening.counts in
    let old : FitsCoord z shows.state d = shows.shows.seats.each place (Coord d) at in
    let few : length z.counts < 2 ^ 32 =
    (let within = shows.shows.opening.few_pages in
    let fits = shows.shows.opening.limits.pages in
    omega arith)
    in
    let order : IsOrderOf first c.phase posts shows.log =
    subst (λ (y : Opening). IsOrderOf (slice_index y.counts) c.phase posts shows.log) (sym old.seats.opening)
    (subst (λ (k : ℕ). IsOrderOf (slice_index z.counts) k posts shows.log) (sym old.phase.present)
    (last_order z words views place d shows at
    (λ i below. (let made = back.made in each i (omega arith))))) in (
      record {
        few_pages = subst (λ (y : Opening). length y.counts < 2 ^ 32) (sym old.seats.opening) few;
        phases = all_at (λ (w : WorkerSeatView). SawNoLater c.phase w.last) posts
            (closed_phase z words views place d shows at);
        between = order_gives_bounds c.opening.counts c.phase posts shows.log order;
        counted = closed_counted z words views place d shows at back.made each;
        masks = all_at (λ (w : WorkerSeatView). AreMasksOf (mask_of c.masks) w.masks) posts
            (closed_masks z words views place d shows at);
        places = order_gives_places first c.phase posts shows.log order;
        log = shows.log;
        order = order;
      },
      λ page on.
          closed_word z words views place d shows at back.made each page on,
    )

-- a view that is some coordinator's is the coordinator's that it is read as
pub as_coord : (v : View) (c : CoordSeatView) → v ≡ Coord c → v ≡ Coord (coord_view_of v)
as_coord v c is = is ∙ ap Coord (sym (ap coord_view_of is))

last_read : {A : Type 0} (xs : List A) (x : A) → get_or (xs ++ x ∷ []) (length xs) x ≡ x
last_read [] x = refl
last_read (y ∷ ys) x = last_read ys x

-- what holds of each element of a list holds of its last
pub All-last : {A : Type 0} (P : A → Type 0) (all front : List A) (x : A) → all ≡ front ++ x ∷ [] → All P all → P x
All-last {A} P all front x is each =
    let here : All P (front ++ x ∷ []) = subst (All P) is each in
    let long = length-append front (x ∷ []) in
    subst P (last_read front x) (here (length front) x (omega arith))
