-- Seats that stand in order of their workers are each worker's once.
use Rattle.std.proofs.Common.{◌≡◌, ℕ, zero, suc, ◌<◌, ◌==◌, cond, List, [], ◌∷◌, length, Some, slice_get, sym, ◌∙◌, refl, eq-eqb, arith}
use Rattle.std.proofs.lemmas.Bool.{cond-true, cond-false, ne_eqb}
use mathlib.Core.Option.{some, some-injective, some-ne-none}
use lib.ListN.{get_elem?}
use Rattle.like_board.specs.declared.worker_seat.WorkerSeat.{WorkerSeat}
use Rattle.like_board.specs.Seats.{seat_view, AreAll}
use Rattle.like_core.proofs.views.ViewLists.{sum_lone}

module _ {A : Type 0} where
  -- a list has an element at each place within it
  element : (xs : List A) (i : ℕ) → i < length xs → ((x : A) × (get_elem? xs i ≡ some x))
  element [] i below = absurd (omega arith)
  element (x ∷ xs) zero below = (x, refl)
  element (x ∷ xs) (suc i) below = element xs i (omega arith)

  -- an element at a place, in std's words
  std_element : (xs : List A) (i : ℕ) (x : A) → get_elem? xs i ≡ some x → slice_get xs i ≡ Some x
  std_element [] i x at = absurd (some-ne-none x (sym at))
  std_element (y ∷ ys) zero x at = λ m. Some (some-injective y x at m)
  std_element (y ∷ ys) (suc i) x at = std_element ys i x at

pub all_in_order : (seats : List WorkerSeat) (workers : ℕ)
    → length seats ≡ workers
    → ((k : ℕ) (seat : WorkerSeat) → slice_get seats k ≡ Some seat → (seat_view seat).worker ≡ k)
    → AreAll workers seats
all_in_order seats workers sized each i below =
    let here = element seats i (omega arith) in
    let f : WorkerSeat → ℕ = λ seat. cond ((seat_view seat).worker == i) 1 0 in
    let own : (seat_view here.0).worker ≡ i = each i here.0 (std_element seats i here.0 here.1) in
    let one : f here.0 ≡ 1 =
    cond-true ((seat_view here.0).worker == i) 1 0 (eq-eqb (seat_view here.0).worker i own) in
    sum_lone f seats i here.0 here.1
    (λ j seat other at.
    cond-false ((seat_view seat).worker == i) 1 0
    (ne_eqb (seat_view seat).worker i (λ same. other (sym (each j seat (std_element seats j seat at)) ∙ same)))) ∙
    one
