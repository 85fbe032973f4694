-- Lists in parts: an element, and what stands before and after it.
use Rattle.std.proofs.Common.{◌≡◌, ℕ, zero, suc, Bool, true, false, cond, List, [], ◌∷◌, ◌++◌, map, reverse, take, drop, length, slice_get, filter, Some, subst, ap, ap₂, sym, ◌∙◌, refl, append_assoc}
use Rattle.std.proofs.lemmas.List.{reverse-append, reverse-reverse}
use mathlib.Core.List.{reverse-cons}
use Rattle.like_serial.proofs.Seen.{not_some, some_is}

-- the elements before a place and after it
pub at_place : {X : Type 0} (xs : List X) (i : ℕ) (x : X)
    → slice_get xs i ≡ Some x
    → xs ≡ take i xs ++ x ∷ drop (suc i) xs
at_place [] i x at = absurd (not_some x at)
at_place (y ∷ xs) zero x at = ap (λ z. z ∷ xs) (some_is y x at)
at_place (y ∷ xs) (suc i) x at = ap (λ zs. y ∷ zs) (at_place xs i x at)

pub place_of_part : {X : Type 0} (before : List X) (x : X) (after : List X)
    → slice_get (before ++ x ∷ after) (length before) ≡ Some x
place_of_part [] x after = refl
place_of_part (y ∷ before) x after = place_of_part before x after

pub take_part : {X : Type 0} (before : List X) (x : X) (after : List X)
    → take (length before) (before ++ x ∷ after) ≡ before
take_part [] x after = refl
take_part (y ∷ before) x after = ap (λ zs. y ∷ zs) (take_part before x after)

-- the same place of two lists that are the same
pub head_is : {X : Type 0} (x y : X) (xs ys : List X) → (x ∷ xs) ≡ (y ∷ ys) → x ≡ y
head_is x y xs ys same = some_is x y (ap (λ zs. slice_get zs 0) same)

pub tail_is : {X : Type 0} (x y : X) (xs ys : List X) → (x ∷ xs) ≡ (y ∷ ys) → xs ≡ ys
tail_is x y xs ys same = ap (drop 1) same

pub not_cons : {X : Type 0} (x : X) (xs : List X) → [] ≡ (x ∷ xs) → ⊥
not_cons x xs same = not_some x (ap (λ zs. slice_get zs 0) same)

-- an element of what a test passes, in the whole list
pub record Passed {X : Type 0} (t : X → Bool) (xs before : List X) (x : X) (after : List X) : Type 0 where
  pub front : List X
  pub rest : List X
  pub is : xs ≡ front ++ x ∷ rest
  pub fronts : filter t front ≡ before
  pub rests : filter t rest ≡ after
  pub passes : t x ≡ true

passed_by : {X : Type 0} (t : X → Bool) (y : X) (xs : List X) (x : X) (after : List X)
    → ((before : List X) → filter t xs ≡ before ++ x ∷ after → Passed t xs before x after)
    → (b : Bool)
    → t y ≡ b
    → (before : List X)
    → cond b (y ∷ filter t xs) (filter t xs) ≡ before ++ x ∷ after
    → Passed t (y ∷ xs) before x after
passed_by t y xs x after more false not before same =
    let p = more before same in
    record {
      front = y ∷ p.front;
      rest = p.rest;
      is = ap (λ zs. y ∷ zs) p.is;
      fronts = ap (λ b. cond b (y ∷ filter t p.front) (filter t p.front)) not ∙ p.fronts;
      rests = p.rests;
      passes = p.passes;
    }
passed_by t y xs x after more true does [] same =
    let here = head_is y x (filter t xs) after same in
    record {
      front = [];
      rest = xs;
      is = ap (λ z. z ∷ xs) here;
      fronts = refl;
      rests = tail_is y x (filter t xs) after same;
      passes = subst (λ z. t z ≡ true) here does;
    }
passed_by t y xs x after more true does (b ∷ before) same =
    let p = more before (tail_is y b (filter t xs) (before ++ x ∷ after) same) in
    record {
      front = y ∷ p.front;
      rest = p.rest;
      is = ap (λ zs. y ∷ zs) p.is;
      fronts = ap (λ c. cond c (y ∷ filter t p.front) (filter t p.front)) does
          ∙ ap₂ (λ z zs. z ∷ zs) (head_is y b (filter t xs) (before ++ x ∷ after) same) p.fronts;
      rests = p.rests;
      passes = p.passes;
    }

pub passed : {X : Type 0} (t : X → Bool) (xs before : List X) (x : X) (after : List X)
    → filter t xs ≡ before ++ x ∷ after
    → Passed t xs before x after
passed t [] [] x after same = absurd (not_cons x after same)
passed t [] (b ∷ before) x after same = absurd (not_cons b (before ++ x ∷ after) same)
passed t (y ∷ xs) before x after same =
    passed_by t y xs x after (λ front is. passed t xs front x after is) (t y) refl before same

-- an element of what a function gives, and the one that it was given
pub record Mapped {X Y : Type 0} (f : X → Y) (xs : List X) (before : List Y) (y : Y) (after : List Y)
    : Type 0 where
  pub front : List X
  pub source : X
  pub rest : List X
  pub is : xs ≡ front ++ source ∷ rest
  pub fronts : map f front ≡ before
  pub gives : f source ≡ y
  pub rests : map f rest ≡ after

pub mapped : {X Y : Type 0} (f : X → Y) (xs : List X) (before : List Y) (y : Y) (after : List Y)
    → map f xs ≡ before ++ y ∷ after
    → Mapped f xs before y after
mapped f [] [] y after same = absurd (not_cons y after same)
mapped f [] (b ∷ before) y after same = absurd (not_cons b (before ++ y ∷ after) same)
mapped f (x ∷ xs) [] y after same = record {
  front = [];
  source = x;
  rest = xs;
  is = refl;
  fronts = refl;
  gives = head_is (f x) y (map f xs) after same;
  rests = tail_is (f x) y (map f xs) after same;
}
mapped f (x ∷ xs) (b ∷ before) y after same =
    let p = mapped f xs before y after (tail_is (f x) b (map f xs) (before ++ y ∷ after) same) in
    record {
      front = x ∷ p.front;
      source = p.source;
      rest = p.rest;
      is = ap (λ zs. x ∷ zs) p.is;
      fronts = ap₂ (λ z zs. z ∷ zs) (head_is (f x) b (map f xs) (before ++ y ∷ after) same) p.fronts;
      gives = p.gives;
      rests = p.rests;
    }

-- an element of two lists, one after the other
pub data Joined {X : Type 0} (us vs before : List X) (x : X) (after : List X) : Type 0 where
  in_first : (rest : List X) → us ≡ before ++ x ∷ rest → after ≡ rest ++ vs → Joined us vs before x after
  in_second : (front : List X) → before ≡ us ++ front → vs ≡ front ++ x ∷ after → Joined us vs before x after

pub joined : {X : Type 0} (us vs before : List X) (x : X) (after : List X)
    → us ++ vs ≡ before ++ x ∷ after
    → Joined us vs before x after
joined [] vs before x after same = in_second before refl same
joined (u ∷ us) vs [] x after same =
    in_first us (ap (λ z. z ∷ us) (head_is u x (us ++ vs) after same)) (sym (tail_is u x (us ++ vs) after same))
joined (u ∷ us) vs (b ∷ before) x after same =
    let here = head_is u b (us ++ vs) (before ++ x ∷ after) same in
    elim (joined us vs before x after (tail_is u b (us ++ vs) (before ++ x ∷ after) same)) [
      | in_first rest is more ↦ in_first rest (ap₂ (λ z zs. z ∷ zs) here is) more
      | in_second front is more ↦ in_second front (ap₂ (λ z zs. z ∷ zs) (sym here) is) more
    ]

-- the element of a reversed list
pub reversed : {X : Type 0} (xs before : List X) (x : X) (after : List X)
    → reverse xs ≡ before ++ x ∷ after
    → xs ≡ reverse after ++ x ∷ reverse before
reversed xs before x after same =
    sym (reverse-reverse xs) ∙ ap reverse same ∙ reverse-append before (x ∷ after)
    ∙ ap (λ zs. zs ++ reverse before) (reverse-cons x after) ∙ snoc (reverse after) x (reverse before) where
      snoc : {X : Type 0} (us : List X) (y : X) (vs : List X) → (us ++ y ∷ []) ++ vs ≡ us ++ y ∷ vs
      snoc us y vs = append_assoc us (y ∷ []) vs
