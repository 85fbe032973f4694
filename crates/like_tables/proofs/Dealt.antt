-- What a worker has of what each submitter has one of.
use Rattle.std.proofs.Common.{◌≡◌, ◌↔◌, ℕ, zero, suc, ◌+◌, ◌-◌, ◌*◌, ◌<◌, ◌≤◌, List, [], ◌∷◌, length, map, slice_get, Some, None, refl, sym, ap, ◌∙◌, arith}
use Rattle.like_tables.specs.Share.{dealt}

-- lists with the same elements at each rank are the same
pub same-lists : {A : Type 0} (xs ys : List A) → ((i : ℕ) → slice_get xs i ≡ slice_get ys i) → xs ≡ ys
same-lists [] [] same = refl
same-lists [] (y ∷ ys) same = absurd (let e : None ≡ Some y = same 0 in cc e)
same-lists (x ∷ xs) [] same = absurd (let e : Some x ≡ None = same 0 in cc e)
same-lists (x ∷ xs) (y ∷ ys) same =
    let first : x ≡ y = (let e : Some x ≡ Some y = same 0 in cc e) in
    rw (first, same-lists xs ys (λ i. same (suc i))) refl

-- the one at a rank is that at k + n * rank
pub get-dealt : {A : Type 0} (n k : ℕ) (xs : List A) (rank : ℕ)
    → 1 ≤ n
    → slice_get (dealt n k xs) rank ≡ slice_get xs (k + n * rank)
get-dealt n k [] rank some = refl
get-dealt n zero (x ∷ xs) zero some = let first : zero + n * zero ≡ 0 = omega arith in rw first refl
get-dealt n zero (x ∷ xs) (suc rank) some =
    let next : zero + n * suc rank ≡ suc (n - 1 + n * rank) = omega arith in
    rw next (get-dealt n (n - 1) xs rank some)
get-dealt n (suc k) (x ∷ xs) rank some =
    let next : suc k + n * rank ≡ suc (k + n * rank) = omega arith in
    rw next (get-dealt n k xs rank some)

-- a list with the right one at each rank is what was dealt
pub is-dealt : {A : Type 0} (n k : ℕ) (xs own : List A)
    → 1 ≤ n
    → ((rank : ℕ) → slice_get own rank ≡ slice_get xs (k + n * rank))
    → own ≡ dealt n k xs
is-dealt n k xs own some same = same-lists own (dealt n k xs) (λ rank. same rank ∙ sym (get-dealt n k xs rank some))

-- there is one at a rank where there is one at k + n * rank
pub there-dealt : {A : Type 0} (n k : ℕ) (xs : List A) (rank : ℕ)
    → 1 ≤ n
    → (rank < length (dealt n k xs)) ↔ (k + n * rank < length xs)
there-dealt n k [] rank some = (λ h. absurd (omega (arith, h)), λ h. absurd (omega (arith, h)))
there-dealt n zero (x ∷ xs) zero some = (λ h. omega arith, λ h. omega arith)
there-dealt n zero (x ∷ xs) (suc rank) some =
    let later = there-dealt n (n - 1) xs rank some in (
      λ h. let there = later.0 (omega (arith, h)) in
          omega (arith, there, some),
      λ h. let there = later.1 (omega (arith, h, some)) in omega (arith, there),
    )
there-dealt n (suc k) (x ∷ xs) rank some =
    let later = there-dealt n k xs rank some in
    (λ h. let there = later.0 h in omega (arith, there), λ h. later.1 (omega (arith, h)))

-- what f gives of each is dealt alike
pub map-dealt : {A B : Type 0} (f : A → B) (n k : ℕ) (xs : List A) → map f (dealt n k xs) ≡ dealt n k (map f xs)
map-dealt f n k [] = refl
map-dealt f n zero (x ∷ xs) = ap (λ ys. f x ∷ ys) (map-dealt f n (n - 1) xs)
map-dealt f n (suc k) (x ∷ xs) = map-dealt f n k xs
