-- What stands in a list that was mapped.
use Rattle.std.proofs.Common.{◌≡◌, ℕ, zero, suc, List, [], ◌∷◌, map, slice_get, Some, refl}

pub mapped-at : {A B : Type 0} (f : A → B) (xs : List A) (k : ℕ) (y : B)
    → slice_get (map f xs) k ≡ Some y
    → (x : A) × ((slice_get xs k ≡ Some x) × (f x ≡ y))
mapped-at f [] k y e = absurd (cc e)
mapped-at f (x ∷ xs) zero y e = (x, (refl, cc e))
mapped-at f (x ∷ xs) (suc k) y e = mapped-at f xs k y e
