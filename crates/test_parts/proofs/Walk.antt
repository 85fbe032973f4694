-- The seats of a board, and the board of tests.
use Rattle.std.specs.Prelude.{◌≡◌, ℕ, ◌<◌, ◌≤◌, Bool, false, List, [], ◌∷◌, ◌++◌, length, replicate, slice_get, slice_index, slice_index_or, Result, Ok, Err, IfOk}
use Rattle.std.proofs.Common.{ap, ◌∙◌, arith}
use Rattle.std.proofs.lemmas.List.{get_or-replicate, length-replicate}
use Rattle.like_board.specs.Rule.{opened_coord}
use Rattle.like_board.specs.Seats.{AreFresh, BoardId, coord_board, coord_view, seat_board, seat_view}
use Rattle.like_board.specs.declared.coord_seat.CoordSeat.{CoordSeat}
use Rattle.like_board.specs.declared.worker_seat.WorkerSeat.{WorkerSeat}
use Rattle.like_limits.specs.Limits.{hot_pages}
use Rattle.like_core.specs.Phase.{is_marked}
use Rattle.like_core.specs.Post.{fresh}
use Rattle.like_core.specs.core.State.{opening_with}
use Rattle.like_core.specs.declared.limits.Limits.{Limits}
use Rattle.like_core.specs.declared.opening.Opening.{Opening}
use Rattle.like_promises.proofs.Lists.{slice_get-at_end}
use Rattle.test_parts.specs.Walk.{AreOpened}

-- the last of the seats made no step yet
pub last_fresh : (board : BoardId) (z : Opening) (seats left : List WorkerSeat) (seat : WorkerSeat)
    → AreFresh board z seats
    → seats ≡ left ++ seat ∷ []
    → (seat_board seat ≡ board) × (seat_view seat ≡ fresh z (length left))
last_fresh board z seats left seat are is =
    are (length left) seat (ap (λ xs. slice_get xs (length left)) is ∙ slice_get-at_end left seat)

-- what three clauses of a result say together
pub if_ok_all : {X E : Type 0} {P Q R S : X → Type 0} (r : Result X E)
    → IfOk r P
    → IfOk r Q
    → IfOk r R
    → ((x : X) → P x → Q x → R x → S x)
    → IfOk r S
if_ok_all (Ok x) p q r all = all x p q r
if_ok_all (Err e) p q r all = tt

-- each of so many equal counts is small
pub equal_small : (pages count bound : ℕ) (counts : List ℕ)
    → counts ≡ replicate pages count
    → count ≤ bound
    → (k d : ℕ)
    → k < length counts
    → slice_index_or counts k d ≤ bound
equal_small pages count bound counts are small k d below =
    let within : k < pages = omega (arith, below, ap length are ∙ length-replicate pages count) in
    let at : slice_index_or counts k d ≡ count =
    ap (λ xs. slice_index_or xs k d) are ∙ get_or-replicate pages k count d within in
    omega (arith, at, small)

-- the count of the first page
pub first_count : (pages count : ℕ) (counts : List ℕ)
    → counts ≡ replicate pages count
    → 1 ≤ pages
    → slice_index counts 0 ≡ count
first_count pages count counts are some =
    ap (λ xs. slice_index xs 0) are ∙ get_or-replicate pages 0 count 0 (omega arith)

-- a board whose pages begin alike was just opened
pub opened_alike : (board : BoardId) (workers pages count : ℕ) (marked : Bool) (limits : Limits) (counts : List ℕ)
    (marks : List Bool) (coord : CoordSeat) (seats : List WorkerSeat)
    → 1 ≤ pages
    → limits.hot ≡ hot_pages
    → counts ≡ replicate pages count
    → marks ≡ replicate pages marked
    → coord_board coord ≡ board
    → coord_view coord ≡ opened_coord (opening_with limits workers counts marks)
    → AreFresh board (opening_with limits workers counts marks) seats
    → AreOpened board pages marked limits coord seats
opened_alike board workers pages count marked limits counts marks coord seats some plain counts_are marks_are here view fresh =
    let z = ap (λ v. v.opening) view in
    record {
      here = here;
      fresh = rw z fresh;
      unseen = ap (λ v. v.last) view;
      limits_are = ap (λ o. o.limits) z;
      plain = plain;
      counted = ap (λ o. length o.counts) z ∙ (ap length counts_are ∙ length-replicate pages count);
      sized = ap (λ o. length o.marks) z ∙ (ap length marks_are ∙ length-replicate pages marked);
      first = ap (λ o. is_marked o.marks 0) z
          ∙ (ap (λ ms. is_marked ms 0) marks_are ∙ get_or-replicate pages 0 marked false (omega arith));
    }
