-- The front of a list, as it grows.
use Rattle.std.proofs.Common.{◌≡◌, ℕ, zero, suc, List, [], ◌∷◌, ◌++◌, map, take, slice_get, Some, option_map, ap}

-- what f gives of one element more
pub map-more : {A B : Type 0} (f : A → B) (xs : List A) (i : ℕ) (y : B)
    → option_map f (slice_get xs i) ≡ Some y
    → map f (take (suc i) xs) ≡ map f (take i xs) ++ y ∷ []
map-more f [] zero y h = absurd (cc h)
map-more f [] (suc i) y h = absurd (cc h)
map-more f (x ∷ xs) zero y h = let e : f x ≡ y = cc h in ap (λ z. z ∷ []) e
map-more f (x ∷ xs) (suc i) y h = ap (λ ys. f x ∷ ys) (map-more f xs i y h)
