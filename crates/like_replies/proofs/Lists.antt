-- Lists that match.
use Rattle.std.proofs.Common.{◌≡◌, ℕ, suc, Some, List, [], ◌∷◌, length, refl, arith}
use Rattle.std.specs.List.{AllZip, slice_get}

-- lists of one length match where they do at each place
pub AllZip-by_place : {A B : Type 0} (R : A → B → Type 0) (xs : List A) (ys : List B) → length ys ≡ length xs
    → ((i : ℕ) (x : A) (y : B) → slice_get xs i ≡ Some x → slice_get ys i ≡ Some y → R x y) → AllZip R xs ys
AllZip-by_place R [] [] same each = tt
AllZip-by_place R [] (y ∷ ys) same each = let no : suc (length ys) ≡ 0 = same in omega (arith, no)
AllZip-by_place R (x ∷ xs) [] same each = let no : 0 ≡ suc (length xs) = same in omega (arith, no)
AllZip-by_place R (x ∷ xs) (y ∷ ys) same each =
    let rest : length ys ≡ length xs = let all : suc (length ys) ≡ suc (length xs) = same in omega (arith, all) in
    (each 0 x y refl refl, AllZip-by_place R xs ys rest (λ i a b at there. each (suc i) a b at there))
