-- Lists, and the words of a table.
use Rattle.std.proofs.Common.{◌≡◌, ℕ, zero, suc, ◌<◌, ◌^◌, List, [], ◌∷◌, length, get_or, slice_index, refl, sym, ap, subst, ◌∙◌, arith}
use mathlib.Core.Option.{some}
use lib.ListN.{get_elem?}

-- a place within a list has an element
pub element : {A : Type 0} (l : List A) (i : ℕ) → i < length l → (x : A) × (get_elem? l i ≡ some x)
element [] i below = absurd (omega arith)
element (x ∷ l) zero below = (x, refl)
element (x ∷ l) (suc i) below = element l i (omega arith)

-- there, what is read doesn't depend on what stands for no element
any_default : {A : Type 0} (l : List A) (i : ℕ) (d e : A) → i < length l → get_or l i d ≡ get_or l i e
any_default [] i d e below = absurd (omega arith)
any_default (x ∷ l) zero d e below = refl
any_default (x ∷ l) (suc i) d e below = any_default l i d e (omega arith)

-- the word that was read
pub found_is : (words items : List ℕ) (word found : ℕ)
    → words ≡ items
    → word < length items
    → found ≡ get_or items word found
    → found ≡ slice_index words word
found_is words items word found same there read =
    read ∙ any_default items word found 0 there ∙ ap (λ l. get_or l word 0) (sym same)

-- and it is a number of 64 bits
pub found_fits : (words items : List ℕ) (word found : ℕ)
    → words ≡ items
    → word < length items
    → found ≡ get_or items word found
    → found < 2 ^ 64
    → slice_index words word < 2 ^ 64
found_fits words items word found same there read fits =
    subst (λ n. n < 2 ^ 64) (found_is words items word found same there read) fits
