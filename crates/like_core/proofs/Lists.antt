-- The first of a list, and a sum over what its elements stand for.
use Rattle.std.proofs.Common.{◌≡◌, ℕ, ◌+◌, List, [], ◌∷◌, drop, map, slice_get, Some, None, ap, sym, ◌∙◌, refl}
use Rattle.std.specs.List.{sum_by}
use Rattle.std.proofs.lemmas.List.Sums.{sum_by-cons}

-- a list whose first element is known
pub first_of : {X : Type 0} (xs : List X) (x : X) → slice_get xs 0 ≡ Some x → xs ≡ x ∷ drop 1 xs
first_of [] x h = cc
first_of (y ∷ ys) x h = let e : y ≡ x = cc h in ap (λ z. z ∷ ys) e

-- a list with no first element
pub none_first : {X : Type 0} (xs : List X) → slice_get xs 0 ≡ None → xs ≡ []
none_first [] h = refl
none_first (y ∷ ys) h = cc

-- a sum over what g gives of each
pub sum-of-map : {A B : Type 0} (f : B → ℕ) (g : A → B) (xs : List A) → sum_by f (map g xs) ≡ sum_by (λ x. f (g x)) xs
sum-of-map f g [] = refl
sum-of-map f g (x ∷ xs) =
    sum_by-cons f (g x) (map g xs) ∙ ap (λ n. f (g x) + n) (sum-of-map f g xs) ∙ sym (sum_by-cons (λ y. f (g y)) x xs)
