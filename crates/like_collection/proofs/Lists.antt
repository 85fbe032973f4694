-- A list in three parts, its front, and the places of its elements.
use Rattle.std.proofs.Common.{◌≡◌, ℕ, suc, ◌+◌, ◌<◌, List, [], ◌∷◌, ◌++◌, length, get_or, take, drop, refl, sym, ap, ◌∙◌, arith, length-append}
use Rattle.std.proofs.lemmas.List.{drop_more, take-append-drop, take_more}
use Rattle.std.specs.List.{enumerate_from}

-- what is before a place, what is there, and what is after it
pub parts_at : {X : Type 0} (xs : List X) (i : ℕ) (d : X)
    → i < length xs
    → xs ≡ take i xs ++ get_or xs i d ∷ drop (i + 1) xs
parts_at xs i d there = sym (take-append-drop i xs) ∙ ap (λ rest. take i xs ++ rest) (drop_more xs i d there)

-- one more element of a list was taken
pub take-more_taken : {X : Type 0} (xs done : List X) (x : X)
    → take (length done) xs ≡ done
    → length done < length xs
    → x ≡ get_or xs (length done) x
    → take (length (done ++ x ∷ [])) xs ≡ done ++ x ∷ []
take-more_taken xs done x front there is =
    let n : length (done ++ x ∷ []) ≡ length done + 1 = length-append done (x ∷ []) in
    rw (n, take_more xs (length done) x there, front, ← is) refl

-- the elements of a second list have the places after those of the first
pub enumerate_from-append : {X : Type 0} (n : ℕ) (xs ys : List X)
    → enumerate_from n (xs ++ ys) ≡ enumerate_from n xs ++ enumerate_from (n + length xs) ys
enumerate_from-append n [] ys = let e : n ≡ n + 0 = omega arith in ap (λ k. enumerate_from k ys) e
enumerate_from-append {X} n (x ∷ xs) ys =
    let e : n + 1 + length xs ≡ n + suc (length xs) = omega arith in
    ap (λ r. (let p : ℕ × X = (n, x) in p) ∷ r)
    (enumerate_from-append (n + 1) xs ys ∙ ap (λ k. enumerate_from (n + 1) xs ++ enumerate_from k ys) e)
