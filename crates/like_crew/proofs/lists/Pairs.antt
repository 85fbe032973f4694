-- Two lists that match place by place.
use Rattle.std.proofs.Common.{◌≡◌, ℕ, zero, suc, ◌+◌, ◌<◌, List, [], ◌∷◌, length, get_or, slice_get, Some, refl, sym, ap, subst, arith, add-zero, add-one}
use Rattle.std.specs.List.{AllZip, range_with_len, sum_by}
use Rattle.std.proofs.lemmas.List.Sums.{sum_by-cons}

-- lists that match have one length
pub pairs-length : {A B : Type 0} (R : A → B → Type 0) (xs : List A) (ys : List B)
    → AllZip R xs ys
    → length xs ≡ length ys
pairs-length R [] [] h = refl
pairs-length R [] (y ∷ ys) h = absurd h
pairs-length R (x ∷ xs) [] h = absurd h
pairs-length R (x ∷ xs) (y ∷ ys) h = ap suc (pairs-length R xs ys h.1)

-- one match after another
pub pairs-both : {A B C : Type 0} (R : A → B → Type 0) (Q : B → C → Type 0) (P : A → C → Type 0) (xs : List A)
    (ys : List B) (zs : List C)
    → ((x : A) (y : B) (z : C) → R x y → Q y z → P x z) → AllZip R xs ys → AllZip Q ys zs → AllZip P xs zs
pairs-both R Q P [] [] [] f a b = tt
pairs-both R Q P [] [] (z ∷ zs) f a b = absurd b
pairs-both R Q P [] (y ∷ ys) zs f a b = absurd a
pairs-both R Q P (x ∷ xs) [] zs f a b = absurd a
pairs-both R Q P (x ∷ xs) (y ∷ ys) [] f a b = absurd b
pairs-both R Q P (x ∷ xs) (y ∷ ys) (z ∷ zs) f a b = (f x y z a.0 b.0, pairs-both R Q P xs ys zs f a.1 b.1)

-- a match that follows at each place
pub pairs-then : {A B : Type 0} (R Q : A → B → Type 0) (xs : List A) (ys : List B)
    → ((k : ℕ) (x : A) (y : B) → slice_get xs k ≡ Some x → R x y → Q x y)
    → AllZip R xs ys
    → AllZip Q xs ys
pairs-then R Q [] [] f h = tt
pairs-then R Q [] (y ∷ ys) f h = absurd h
pairs-then R Q (x ∷ xs) [] f h = absurd h
pairs-then R Q (x ∷ xs) (y ∷ ys) f h = (f zero x y refl h.0, pairs-then R Q xs ys (λ k. f (suc k)) h.1)

-- what matches the numbers from a on stands at its number
pub pairs-at : {B : Type 0} (R : ℕ → B → Type 0) (a n : ℕ) (ys : List B) (k : ℕ) (y : B)
    → AllZip R (range_with_len a n) ys
    → slice_get ys k ≡ Some y
    → R (a + k) y
pairs-at R a zero [] k y h e = cc e
pairs-at R a zero (b ∷ ys) k y h e = absurd h
pairs-at R a (suc n) [] k y h e = absurd h
pairs-at R a (suc n) (b ∷ ys) zero y h e =
    let same : b ≡ y = cc e in
    subst (λ x. R (a + zero) x) same (subst (λ m. R m b) (sym (add-zero a)) h.0)
pairs-at R a (suc n) (b ∷ ys) (suc k) y h e =
    subst (λ m. R m y) (omega (arith, add-one k)) (pairs-at R (a + 1) n ys k y h.1 e)

-- sums over lists that match are the same
pub pairs-sum : {A B : Type 0} (R : A → B → Type 0) (f : A → ℕ) (g : B → ℕ) (xs : List A) (ys : List B)
    → ((x : A) (y : B) → R x y → f x ≡ g y)
    → AllZip R xs ys
    → sum_by f xs ≡ sum_by g ys
pairs-sum R f g [] [] same h = refl
pairs-sum R f g [] (y ∷ ys) same h = absurd h
pairs-sum R f g (x ∷ xs) [] same h = absurd h
pairs-sum R f g (x ∷ xs) (y ∷ ys) same h =
    omega (arith, sum_by-cons f x xs, sum_by-cons g y ys, same x y h.0, pairs-sum R f g xs ys same h.1)

-- lists of one length match where they do place by place
pub pairs-from : {A B : Type 0} (R : A → B → Type 0) (xs : List A) (ys : List B)
    → length ys ≡ length xs
    → ((k : ℕ) (d : A) (e : B) → k < length xs → R (get_or xs k d) (get_or ys k e))
    → AllZip R xs ys
pairs-from R [] [] same h = tt
pairs-from R [] (y ∷ ys) same h = absurd (omega (arith, same))
pairs-from R (x ∷ xs) [] same h = absurd (omega (arith, same))
pairs-from R (x ∷ xs) (y ∷ ys) same h = (
  h zero x y (omega arith),
  pairs-from R xs ys (omega (arith, same)) (λ k d e below. h (suc k) d e (omega (arith, below))),
)
