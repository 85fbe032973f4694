-- Sums over workers.
use Rattle.std.proofs.Common.{◌≡◌, ◌≢◌, ℕ, zero, suc, ◌+◌, ◌*◌, ◌≤◌, ◌⊎◌, inl, inr, List, [], ◌∷◌, length, get_or, set, Some, slice_get, sum_by, All, subst, ap, sym, ◌∙◌, refl, arith}
use Rattle.std.specs.List.{AllZip, Contains}
use Rattle.std.proofs.lemmas.Bool.{cases_lt}
use Rattle.std.proofs.lemmas.Option.{get_or_from_slice_get, slice_get-get_or, slice_get_within}
use Rattle.std.proofs.lemmas.List.{get_or-set_same, get_or-set_other, length-set, set-get_or}
use Rattle.std.proofs.lemmas.List.Elements.{All-cons}
use Rattle.std.proofs.lemmas.List.Sums.{sum_by-cons, sum_by-set, sum_by-le, get_or-le-sum_by}

-- a sum after one element is replaced
pub sum_set : {X : Type 0} (f : X → ℕ) (xs : List X) (i : ℕ) (before after : X)
    → slice_get xs i ≡ Some before
    → sum_by f (set xs i after) + f before ≡ sum_by f xs + f after
sum_set f xs i before after here =
    let at : get_or xs i before ≡ before = get_or_from_slice_get xs i before before here in
    let more = sum_by-set f xs i after before (slice_get_within xs i before here) in
    subst (λ x. sum_by f (set xs i after) + f x ≡ sum_by f xs + f after) at more

-- an element replaced by itself
pub set_same : {X : Type 0} (xs : List X) (i : ℕ) (before after : X)
    → slice_get xs i ≡ Some before
    → after ≡ before
    → set xs i after ≡ xs
set_same xs i before after here same =
    let at : get_or xs i before ≡ before = get_or_from_slice_get xs i before before here in
    ap (set xs i) (same ∙ sym at) ∙ set-get_or xs i before

-- what holds of the element at a place
pub holds_at : {X : Type 0} (P : X → Type 0) (xs : List X) (i : ℕ) (x : X) → All P xs → slice_get xs i ≡ Some x → P x
holds_at P xs i x all here =
    subst P (get_or_from_slice_get xs i x x here) (all i x (slice_get_within xs i x here))

-- a sum of which each term is 0
pub sum_none : {X : Type 0} (f : X → ℕ) (xs : List X) → All (λ x. f x ≡ 0) xs → sum_by f xs ≡ 0
sum_none f xs none =
    let most : sum_by f xs ≤ length xs * 0 = sum_by-le f 0 xs (λ k d there. let is = none k d there in omega arith) in
    omega arith

-- each term of a sum that is 0
pub none_in_sum : {X : Type 0} (f : X → ℕ) (xs : List X) → sum_by f xs ≡ 0 → All (λ x. f x ≡ 0) xs
none_in_sum f xs none k d there = let most = get_or-le-sum_by f xs k d there in omega arith

-- sums compared term by term
pub sum_most : {X : Type 0} (f g : X → ℕ) (n : ℕ) (xs : List X)
    → ((x : X) → f x ≤ g x + n)
    → sum_by f xs ≤ sum_by g xs + n * length xs
sum_most f g n [] each = omega arith
sum_most f g n (x ∷ xs) each =
    let first = each x in
    let others = sum_most f g n xs each in
    let more = sum_by-cons f x xs in
    let most = sum_by-cons g x xs in
    omega arith

-- a sum that isn't 0 has a term that isn't
pub some_in_sum : {X : Type 0} (f : X → ℕ) (xs : List X)
    → 1 ≤ sum_by f xs
    → (i : ℕ) × ((x : X) × ((slice_get xs i ≡ Some x) × (1 ≤ f x)))
some_in_sum f [] some = absurd (omega (arith, some))
some_in_sum f (x ∷ xs) some =
    elim (cases_lt 0 (f x)) [
      | inl here ↦ (0, (x, (refl, here)))
      | inr none ↦
          let more = sum_by-cons f x xs in
          let found = some_in_sum f xs (omega arith) in
          (suc found.0, (found.1.0, (found.1.1.0, found.1.1.1)))
    ]

-- a sum of pairs: where f of the second and g of the first are together no more than h of the first
pub sum_pairs : {X : Type 0} (f g h : X → ℕ) (xs ys : List X)
    → AllZip (λ x y. f y + g x ≤ h x) xs ys
    → sum_by f ys + sum_by g xs ≤ sum_by h xs
sum_pairs f g h [] [] pairs = omega arith
sum_pairs f g h [] (y ∷ ys) pairs = absurd pairs
sum_pairs f g h (x ∷ xs) [] pairs = absurd pairs
sum_pairs f g h (x ∷ xs) (y ∷ ys) pairs =
    let first = pairs.0 in
    let others = sum_pairs f g h xs ys pairs.1 in
    let fs = sum_by-cons f y ys in
    let gs = sum_by-cons g x xs in
    let hs = sum_by-cons h x xs in
    omega arith

-- the sum of two functions
pub sum_both : {X : Type 0} (f g : X → ℕ) (xs : List X) → sum_by (λ x. f x + g x) xs ≡ sum_by f xs + sum_by g xs
sum_both f g [] = refl
sum_both f g (x ∷ xs) =
    let both = sum_by-cons (λ y. f y + g y) x xs in
    let firsts = sum_by-cons f x xs in
    let seconds = sum_by-cons g x xs in
    let others = sum_both f g xs in
    omega arith

-- pairs that follow from pairs
pub zip_then : {X : Type 0} (R Q : X → X → Type 0) (xs ys : List X)
    → ((x y : X) → R x y → Q x y)
    → AllZip R xs ys
    → AllZip Q xs ys
zip_then R Q [] [] then pairs = tt
zip_then R Q [] (y ∷ ys) then pairs = absurd pairs
zip_then R Q (x ∷ xs) [] then pairs = absurd pairs
zip_then R Q (x ∷ xs) (y ∷ ys) then pairs = (then x y pairs.0, zip_then R Q xs ys then pairs.1)

-- what holds of each second of a pair
pub zip_seconds : {X : Type 0} (P : X → Type 0) (xs ys : List X) → AllZip (λ x y. P y) xs ys → All P ys
zip_seconds P [] [] pairs = λ k d there. absurd (omega (arith, there))
zip_seconds P [] (y ∷ ys) pairs = absurd pairs
zip_seconds P (x ∷ xs) [] pairs = absurd pairs
zip_seconds P (x ∷ xs) (y ∷ ys) pairs = All-cons P y ys pairs.0 (zip_seconds P xs ys pairs.1)

-- pairs by their places
pub zip_from : {X : Type 0} (Q : X → X → Type 0) (xs ys : List X)
    → length ys ≡ length xs
    → ((k : ℕ) (x y : X) → slice_get xs k ≡ Some x → slice_get ys k ≡ Some y → Q x y)
    → AllZip Q xs ys
zip_from Q [] [] long each = tt
zip_from Q [] (y ∷ ys) long each = absurd (omega (arith, long))
zip_from Q (x ∷ xs) [] long each = absurd (omega (arith, long))
zip_from Q (x ∷ xs) (y ∷ ys) long each =
    (each 0 x y refl refl, zip_from Q xs ys (omega (arith, long)) (λ k a b. each (suc k) a b))

-- the element at the place that was written, and at another
pub get_set_same : {X : Type 0} (xs : List X) (i : ℕ) (a x : X)
    → slice_get xs i ≡ Some x
    → slice_get (set xs i a) i ≡ Some a
get_set_same xs i a x here =
    let there = slice_get_within xs i x here in
    let long = length-set xs i a in
    slice_get-get_or (set xs i a) i a (omega arith) ∙ ap Some (get_or-set_same xs i a a there)

pub get_set_other : {X : Type 0} (xs : List X) (i k : ℕ) (a x : X)
    → k ≢ i
    → slice_get xs k ≡ Some x
    → slice_get (set xs i a) k ≡ Some x
get_set_other xs i k a x other here =
    let there = slice_get_within xs k x here in
    let long = length-set xs i a in
    slice_get-get_or (set xs i a) k x (omega arith)
    ∙ ap Some (get_or-set_other xs i k a x other ∙ get_or_from_slice_get xs k x x here)

-- an element of a list is its first or another's
pub contains_cons : {X : Type 0} (y : X) (ys : List X) (x : X) → Contains (y ∷ ys) x → (y ≡ x) ⊎ Contains ys x
contains_cons y ys x (zero, there, is) = inl is
contains_cons y ys x (suc k, there, is) = inr (k, omega (arith, there), is)

pub contains_none : {X : Type 0} (x : X) → Contains [] x → ⊥
contains_none x c = let there = c.1 in omega (arith, there)
