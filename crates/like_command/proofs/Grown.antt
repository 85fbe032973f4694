-- Lists as they grow.
use Rattle.std.proofs.Common.{◌≡◌, ℕ, ◌+◌, ◌<◌, List, [], ◌∷◌, ◌++◌, length, get_or, map, take, ap, ◌∙◌}
use Rattle.std.proofs.lemmas.List.{map-append, take_more}

-- what f gives of one element more
pub mapped-more : {A B : Type 0} (f : A → B) (xs : List A) (i : ℕ) (d : A)
    → i < length xs
    → map f (take (i + 1) xs) ≡ map f (take i xs) ++ f (get_or xs i d) ∷ []
mapped-more f xs i d inside = ap (map f) (take_more xs i d inside) ∙ map-append f (take i xs) (get_or xs i d ∷ [])
