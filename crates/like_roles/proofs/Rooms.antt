-- What all workers may still add is at most the room of all views.
use Rattle.std.proofs.Common.{◌≡◌, ℕ, zero, suc, ◌+◌, ◌≤◌, inl, inr, List, [], ◌∷◌, refl, arith}
use Rattle.std.proofs.lemmas.Bool.{cases_lt}
use Rattle.std.proofs.lemmas.List.Sums.{sum_by-cons}
use Rattle.std.specs.List.{sum_by}
use Rattle.like_core.specs.declared.limits.Limits.{Limits}
use Rattle.like_core.specs.declared.view.View.{View}
use Rattle.like_core.specs.declared.view.View.TheVariants.{Coord, Worker, Spent}
use Rattle.like_core.specs.Functions.{sum_below, update}
use Rattle.like_core.specs.views.Tallies.{left_to, room}
use Rattle.like_core.proofs.Sums.{sum_below-same, sum_below-update, sum_below-update_past}

-- how much room of worker i a view has, if it is of a worker's seat
abbrev pub room_of : Limits → ℕ → ℕ → View → ℕ
room_of l page i (Coord c) = 0
room_of l page i (Worker v) = update (λ _. 0) v.worker (left_to l.likes page v) i
room_of l page i Spent = 0

none_below : (n : ℕ) → sum_below (λ _. 0) n ≡ 0
none_below zero = refl
none_below (suc n) = let before = none_below n in omega arith

one_below : (i x n : ℕ) → sum_below (update (λ _. 0) i x) n ≤ x
one_below i x n =
    let none = none_below n in
    elim (cases_lt i n) [
      | inl within ↦ let sum = sum_below-update (λ _. 0) i x n within in omega arith
      | inr past ↦ let sum = sum_below-update_past (λ _. 0) i x n past in omega arith
    ]

both_below : (f g : ℕ → ℕ) (n : ℕ) → sum_below (λ i. f i + g i) n ≡ sum_below f n + sum_below g n
both_below f g zero = refl
both_below f g (suc n) = let before = both_below f g n in omega arith

of_view : (l : Limits) (page n : ℕ) (u : View) → sum_below (λ i. room_of l page i u) n ≤ room l page u
of_view l page n (Coord c) = let none = none_below n in omega arith
of_view l page n (Worker v) = one_below v.worker (left_to l.likes page v) n
of_view l page n Spent = let none = none_below n in omega arith

pub of_views : (l : Limits) (page n : ℕ) (views : List View)
    → sum_below (λ i. sum_by (room_of l page i) views) n ≤ sum_by (room l page) views
of_views l page n [] = let none = none_below n in omega arith
of_views l page n (u ∷ views) =
    let here = of_view l page n u in
    let rest = of_views l page n views in
    let parts =
    sum_below-same (λ i. sum_by (room_of l page i) (u ∷ views))
    (λ i. room_of l page i u + sum_by (room_of l page i) views) n
    (λ i _. sum_by-cons (room_of l page i) u views)
    in
    let sums = both_below (λ i. room_of l page i u) (λ i. sum_by (room_of l page i) views) n in
    omega (arith, sum_by-cons (room l page) u views)
