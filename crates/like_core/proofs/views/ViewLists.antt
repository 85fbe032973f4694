-- The views of all seats as a list: one view changes, and how many seats a worker has stays.
use Rattle.std.proofs.Common.{◌≡◌, ◌≢◌, ℕ, zero, suc, ◌+◌, ◌<◌, ◌≤◌, ◌==◌, ◌⊎◌, inl, inr, cond, List, [], ◌∷◌, length, set, ap, sym, refl, eq-eqb, arith}
use Rattle.std.specs.List.{sum_by}
use Rattle.std.proofs.lemmas.Bool.{cond-true}
use Rattle.std.proofs.lemmas.List.Sums.{sum_by-cons}
use mathlib.Core.Option.{some, some-injective, some-ne-none}
use lib.ListN.{get_elem?}
use Rattle.like_core.specs.declared.view.WorkerSeatView.{WorkerSeatView}
use Rattle.like_core.specs.declared.view.CoordSeatView.{CoordSeatView}
use Rattle.like_core.specs.declared.view.View.{View}
use Rattle.like_core.specs.declared.view.View.TheVariants.{Coord, Worker, Spent}
use Rattle.like_core.specs.views.Views.{gathered_coord, seats_of}

module _ {A : Type 0} where
  -- what stands in a list stands within it
  pub within : (l : List A) (i : ℕ) (a : A) → get_elem? l i ≡ some a → i < length l
  within [] i a e = absurd (some-ne-none a (sym e))
  within (x ∷ xs) zero a e = omega arith
  within (x ∷ xs) (suc i) a e = let rest = within xs i a e in omega arith

  -- what stands in a list after one element was replaced: the new one there, and elsewhere what stood there
  pub replaced : (l : List A) (i j : ℕ) (a b : A) → get_elem? (set l i a) j ≡ some b
      → ((j ≡ i) × (a ≡ b)) ⊎ ((j ≢ i) × (get_elem? l j ≡ some b))
  replaced [] i j a b e = absurd (some-ne-none b (sym e))
  replaced (x ∷ xs) zero zero a b e = inl (refl, some-injective a b e)
  replaced (x ∷ xs) zero (suc j) a b e = inr ((λ same. absurd (omega arith)), e)
  replaced (x ∷ xs) (suc i) zero a b e = inr ((λ same. absurd (omega arith)), e)
  replaced (x ∷ xs) (suc i) (suc j) a b e = elim (replaced xs i j a b e) [
    | inl here ↦ inl (ap suc here.0, here.1)
    | inr there ↦ inr ((λ same. there.0 (omega arith)), there.1)
  ]

  -- the new one stands there
  pub put_here : (l : List A) (i : ℕ) (a b : A) → get_elem? l i ≡ some a → get_elem? (set l i b) i ≡ some b
  put_here [] i a b e = absurd (some-ne-none a (sym e))
  put_here (x ∷ xs) zero a b e = refl
  put_here (x ∷ xs) (suc i) a b e = put_here xs i a b e

  -- what stands at another place than the one that is replaced stays
  pub kept : (l : List A) (i j : ℕ) (a : A) → j ≢ i → get_elem? (set l i a) j ≡ get_elem? l j
  kept [] i j a other = refl
  kept (x ∷ xs) zero zero a other = absurd (other refl)
  kept (x ∷ xs) zero (suc j) a other = refl
  kept (x ∷ xs) (suc i) zero a other = refl
  kept (x ∷ xs) (suc i) (suc j) a other = kept xs i j a (λ same. other (ap suc same))

  -- each element counts in the sum
  pub sum_part : (f : A → ℕ) (l : List A) (i : ℕ) (a : A) → get_elem? l i ≡ some a → f a ≤ sum_by f l
  sum_part f [] i a e = absurd (some-ne-none a (sym e))
  sum_part f (x ∷ xs) zero a e = let here = ap f (some-injective x a e) in omega (arith, sum_by-cons f x xs)
  sum_part f (x ∷ xs) (suc i) a e = let rest = sum_part f xs i a e in omega (arith, sum_by-cons f x xs)

  -- two elements at two places count both
  pub sum_two : (f : A → ℕ) (l : List A) (i j : ℕ) (a b : A) → i ≢ j → get_elem? l i ≡ some a → get_elem? l j ≡ some b
      → f a + f b ≤ sum_by f l
  sum_two f [] i j a b other at_i at_j = absurd (some-ne-none a (sym at_i))
  sum_two f (x ∷ xs) zero zero a b other at_i at_j = absurd (other refl)
  sum_two f (x ∷ xs) zero (suc j) a b other at_i at_j =
      let here = ap f (some-injective x a at_i) in
      let rest = sum_part f xs j b at_j in
      omega (arith, sum_by-cons f x xs)
  sum_two f (x ∷ xs) (suc i) zero a b other at_i at_j =
      let here = ap f (some-injective x b at_j) in
      let rest = sum_part f xs i a at_i in
      omega (arith, sum_by-cons f x xs)
  sum_two f (x ∷ xs) (suc i) (suc j) a b other at_i at_j =
      let rest = sum_two f xs i j a b (λ same. other (ap suc same)) at_i at_j in
      omega (arith, sum_by-cons f x xs)

  -- the sum stays where an element is replaced by one that counts the same
  pub sum_set : (f : A → ℕ) (l : List A) (i : ℕ) (a b : A) → get_elem? l i ≡ some a → f b ≡ f a
      → sum_by f (set l i b) ≡ sum_by f l
  sum_set f [] i a b e same = refl
  sum_set f (x ∷ xs) zero a b e same =
      let here = ap f (some-injective x a e) in
      omega (arith, sum_by-cons f x xs, sum_by-cons f b xs)
  sum_set f (x ∷ xs) (suc i) a b e same =
      let rest = sum_set f xs i a b e same in
      omega (arith, sum_by-cons f x xs, sum_by-cons f x (set xs i b))

  -- the sum changes by what the element counts that is replaced, and by what its replacement does
  pub sum_swap : (f : A → ℕ) (l : List A) (i : ℕ) (a b : A) → get_elem? l i ≡ some a
      → sum_by f (set l i b) + f a ≡ sum_by f l + f b
  sum_swap f [] i a b e = absurd (some-ne-none a (sym e))
  sum_swap f (x ∷ xs) zero a b e =
      let here = ap f (some-injective x a e) in
      omega (arith, sum_by-cons f x xs, sum_by-cons f b xs)
  sum_swap f (x ∷ xs) (suc i) a b e =
      let rest = sum_swap f xs i a b e in
      omega (arith, sum_by-cons f x xs, sum_by-cons f x (set xs i b))

  -- a sum of terms of which none is less
  pub sum_mono : (f g : A → ℕ) (l : List A) → ((a : A) → f a ≤ g a) → sum_by f l ≤ sum_by g l
  sum_mono f g [] each = omega arith
  sum_mono f g (x ∷ xs) each =
      let here = each x in
      let rest = sum_mono f g xs each in
      omega (arith, sum_by-cons f x xs, sum_by-cons g x xs)

  -- a sum in which none counts
  sum_none : (f : A → ℕ) (l : List A) → ((j : ℕ) (b : A) → get_elem? l j ≡ some b → f b ≡ 0) → sum_by f l ≡ 0
  sum_none f [] none = refl
  sum_none f (x ∷ xs) none =
      let first = none zero x refl in
      let rest = sum_none f xs (λ j b at. none (suc j) b at) in
      omega (arith, sum_by-cons f x xs)

  -- an element beside which none counts is the whole sum
  pub sum_lone : (f : A → ℕ) (l : List A) (i : ℕ) (a : A) → get_elem? l i ≡ some a
      → ((j : ℕ) (b : A) → j ≢ i → get_elem? l j ≡ some b → f b ≡ 0) → sum_by f l ≡ f a
  sum_lone f [] i a e none = absurd (some-ne-none a (sym e))
  sum_lone f (x ∷ xs) zero a e none =
      let here = ap f (some-injective x a e) in
      let rest = sum_none f xs (λ j b at. none (suc j) b (λ same. absurd (omega arith)) at) in
      omega (arith, sum_by-cons f x xs)
  sum_lone f (x ∷ xs) (suc i) a e none =
      let first = none zero x (λ same. absurd (omega arith)) refl in
      let rest = sum_lone f xs i a e (λ j b other at. none (suc j) b (λ same. other (omega arith)) at) in
      omega (arith, sum_by-cons f x xs)

-- a sum over the views where the seat at `other` was given back to the coordinator's at `place`
pub sum_gathered : (f : View → ℕ) (views : List View) (place other : ℕ) (c : CoordSeatView) (v : WorkerSeatView)
    → get_elem? views place ≡ some (Coord c)
    → get_elem? (set views place (Coord (gathered_coord c v))) other ≡ some (Worker v)
    → f Spent ≡ 0
    → f (Coord (gathered_coord c v)) ≡ f (Worker v) + f (Coord c)
    → sum_by f (set (set views place (Coord (gathered_coord c v))) other Spent) ≡ sum_by f views
sum_gathered f views place other c v at mine spent more =
    let first = sum_swap f views place (Coord c) (Coord (gathered_coord c v)) at in
    let second = sum_swap f (set views place (Coord (gathered_coord c v))) other (Worker v) Spent mine in
    omega arith

-- a worker of which no seat was given back is none of those whose seats were
pub joined_other : (c : CoordSeatView) (i place : ℕ) (v : WorkerSeatView)
    → seats_of i (Coord c) ≡ 0
    → get_elem? c.joined place ≡ some v
    → v.worker ≢ i
joined_other c i place v none at =
    λ same.
    let part = sum_part (λ (w : WorkerSeatView). cond (w.worker == i) 1 0) c.joined place v at in
    let one : cond {A = ℕ} (v.worker == i) 1 0 ≡ 1 = cond-true (v.worker == i) 1 0 (eq-eqb v.worker i same) in
    absurd (omega arith)

-- a view that is no seat of a worker's is of another
pub worker_other : (i : ℕ) (v : WorkerSeatView) → seats_of i (Worker v) ≡ 0 → v.worker ≢ i
worker_other i v none =
    λ same.
    let one : seats_of i (Worker v) ≡ 1 = cond-true (v.worker == i) 1 0 (eq-eqb v.worker i same) in
    absurd (omega arith)
