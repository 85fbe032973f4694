-- Sums by recursion.
use Rattle.std.proofs.Common.{◌≡◌, ℕ, ◌+◌, Bool, true, false, cond, List, [], ◌∷◌, ◌++◌, sum_by, filter, ap, ◌∙◌, refl, arith}
use Rattle.std.proofs.lemmas.List.Sums.{sum_by-cons}

abbrev pub weigh : {X : Type 0} → (X → ℕ) → List X → ℕ
weigh f [] = 0
weigh f (x ∷ xs) = f x + weigh f xs

pub sum-weigh : {X : Type 0} (f : X → ℕ) (xs : List X) → sum_by f xs ≡ weigh f xs
sum-weigh f [] = refl
sum-weigh f (x ∷ xs) = sum_by-cons f x xs ∙ ap (λ n. f x + n) (sum-weigh f xs)

pub weigh-append : {X : Type 0} (f : X → ℕ) (xs ys : List X) → weigh f (xs ++ ys) ≡ weigh f xs + weigh f ys
weigh-append f [] ys = omega arith
weigh-append f (x ∷ xs) ys = let more = weigh-append f xs ys in omega arith

-- functions that agree, and one that is the sum of two
pub weigh-alike : {X : Type 0} (f g : X → ℕ) (xs : List X) → ((x : X) → f x ≡ g x) → weigh f xs ≡ weigh g xs
weigh-alike f g [] each = refl
weigh-alike f g (x ∷ xs) each = let first = each x in let more = weigh-alike f g xs each in omega arith

pub weigh-both : {X : Type 0} (f g h : X → ℕ) (xs : List X)
    → ((x : X) → f x ≡ g x + h x)
    → weigh f xs ≡ weigh g xs + weigh h xs
weigh-both f g h [] each = refl
weigh-both f g h (x ∷ xs) each = let first = each x in let more = weigh-both f g h xs each in omega arith

pub weigh-none : {X : Type 0} (f : X → ℕ) (xs : List X) → ((x : X) → f x ≡ 0) → weigh f xs ≡ 0
weigh-none f [] each = refl
weigh-none f (x ∷ xs) each = let first = each x in let more = weigh-none f xs each in omega arith

-- what counts only where a test passes
abbrev pub only : Bool → ℕ → ℕ
only b n = cond b n 0

pub weigh-filter : {X : Type 0} (t : X → Bool) (f : X → ℕ) (xs : List X)
    → weigh f (filter t xs) ≡ weigh (λ x. only (t x) (f x)) xs
weigh-filter t f [] = refl
weigh-filter {X} t f (x ∷ xs) = by (t x) ∙ ap (λ n. only (t x) (f x) + n) (weigh-filter t f xs) where
  by : (b : Bool) → weigh f (cond b (x ∷ filter t xs) (filter t xs)) ≡ only b (f x) + weigh f (filter t xs)
  by true = refl
  by false = omega arith
