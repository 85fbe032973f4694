-- Locks, passes and keepers, place by place.
use Rattle.std.proofs.Common.{◌≡◌, ℕ, zero, suc, ◌+◌, ◌<◌, List, [], ◌∷◌, ◌++◌, ◌≤◌, get_or, length, map, set, take, sym, ap, ◌∙◌, subst, arith}
use Rattle.std.specs.List.{All, AllZip}
use Rattle.std.proofs.lemmas.List.{get_or-map, get_or-set_same, length-set, map-set, set-get_or, take-set, take_all, take_more}
use Rattle.std.proofs.lemmas.List.Elements.{All-get_or, All-more}
use Rattle.std.proofs.lemmas.Slice.Zip.{all_zipped_more}
use Rattle.told_lock.specs.declared.keeper.Keeper.{Keeper}

module _ {A B : Type 0} (R : A → B → Type 0) where
  -- what is so of two lists is so of what is read at a place
  pub zip-read : (xs : List A) (ys : List B) (i : ℕ) (x : A) (y : B) → AllZip R xs ys → i < length xs
      → x ≡ get_or xs i x → y ≡ get_or ys i y → R x y
  zip-read [] ys i x y zip less at there = absurd (omega arith)
  zip-read (a ∷ xs) [] i x y zip less at there = absurd zip
  zip-read (a ∷ xs) (b ∷ ys) zero x y zip less at there =
      subst (λ u. R u y) (sym at) (subst (R a) (sym there) zip.0)
  zip-read (a ∷ xs) (b ∷ ys) (suc i) x y zip less at there = zip-read xs ys i x y zip.1 (omega arith) at there

  -- and of what is written there
  pub zip-set : (xs : List A) (ys : List B) (i : ℕ) (x : A) (y : B) → AllZip R xs ys → i < length xs
      → x ≡ get_or xs i x → R x y → AllZip R xs (set ys i y)
  zip-set [] ys i x y zip less at is = absurd (omega arith)
  zip-set (a ∷ xs) [] i x y zip less at is = absurd zip
  zip-set (a ∷ xs) (b ∷ ys) zero x y zip less at is = (subst (λ u. R u y) at is, zip.1)
  zip-set (a ∷ xs) (b ∷ ys) (suc i) x y zip less at is = (zip.0, zip-set xs ys i x y zip.1 (omega arith) at is)

  -- one place more
  pub zip-more : (xs : List A) (ys : List B) (i : ℕ) (x : A) (y : B) → i < length xs → x ≡ get_or xs i x
      → AllZip R (take i xs) ys → R x y → AllZip R (take (i + 1) xs) (ys ++ y ∷ [])
  zip-more xs ys i x y less at zip is =
      subst (λ l. AllZip R l (ys ++ y ∷ [])) (ap (λ z. take i xs ++ z ∷ []) at ∙ sym (take_more xs i x less))
      (all_zipped_more R (take i xs) ys x y zip is)

module _ {A B : Type 0} (f : A → B) where
  -- what is read of a list that a function made
  pub map-read : (xs : List A) (i : ℕ) (x : A) (d : B) → i < length xs → x ≡ get_or xs i x → get_or (map f xs) i d ≡ f x
  map-read xs i x d less at = get_or-map f xs i x d less ∙ ap f (sym at)

  -- a write of what the function makes alike changes nothing
  pub map-alike : (xs : List A) (i : ℕ) (x y : A) → i < length xs → x ≡ get_or xs i x → f y ≡ f x
      → map f (set xs i y) ≡ map f xs
  map-alike xs i x y less at is =
      map-set f xs i y ∙ ap (set (map f xs) i) (is ∙ sym (map-read xs i x (f x) less at)) ∙ set-get_or (map f xs) i (f x)

module _ {A : Type 0} (P : A → Type 0) where
  -- what is so before a place, and of what is written there
  pub all-set : (xs : List A) (i : ℕ) (y : A) → i < length xs → All P (take i xs) → P y
      → All P (take (i + 1) (set xs i y))
  all-set xs i y less all is =
      All-more P (set xs i y) i y (omega (arith, length-set xs i y)) (subst (All P) (sym (take-set xs i y)) all)
      (subst P (sym (get_or-set_same xs i y y less)) is)

  -- at the end that is so of all
  pub all-whole : (xs : List A) (i : ℕ) → length xs ≤ i → All P (take i xs) → All P xs
  all-whole xs i long = subst (All P) (take_all i xs long)

-- so many passes of a keeper are out
abbrev pub IsOut : {T C : Type 0} → ℕ → Keeper T C → Type 0
IsOut n k = k.out ≡ n

-- the keeper at a place that wasn't written yet
pub out-at : {T C : Type 0} (before now : List (Keeper T C)) (n i : ℕ) (k : Keeper T C) → i < length before
    → All (IsOut n) before → get_or now i k ≡ get_or before i k → (get_or now i k).out ≡ n
out-at before now n i k less all same = ap (λ x. x.out) same ∙ All-get_or (IsOut n) before i k less all
