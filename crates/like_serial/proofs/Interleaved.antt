-- Lists of several workers, merged as an order of their marked elements says.
use Rattle.std.proofs.Common.{◌≡◌, ℕ, zero, suc, ◌<◌, ◌≤◌, inl, inr, Bool, true, false, cond, eqb, ◌==◌, List, [], ◌∷◌, ◌++◌, map, filter, filter_map, Option, Some, None, subst, ap, ap₂, sym, ◌∙◌, refl, arith, eq-eqb, ne_eqb, eqb-true, append-nil}
use Rattle.std.specs.List.{AllByRecursion, cons_option}
use Rattle.std.proofs.lemmas.Bool.{cases_lt}
use Rattle.std.proofs.lemmas.List.Elements.{filter-append, filter_map-append}
use Rattle.like_serial.proofs.Parts.{head_is, not_cons, tail_is}

-- the elements with this key
abbrev pub with_key : {X : Type 0} → (X → ℕ) → ℕ → List X → List X
with_key key w xs = filter (λ x. key x == w) xs

pub key_all : {X : Type 0} (key : X → ℕ) (w : ℕ) (xs : List X)
    → AllByRecursion (λ x. key x ≡ w) xs
    → with_key key w xs ≡ xs
key_all key w [] all = refl
key_all key w (x ∷ xs) all =
    ap (λ b. cond b (x ∷ with_key key w xs) (with_key key w xs)) (eq-eqb (key x) w all.0)
    ∙ ap (λ zs. x ∷ zs) (key_all key w xs all.1)

pub key_none : {X : Type 0} (key : X → ℕ) (w v : ℕ) (xs : List X)
    → AllByRecursion (λ x. key x ≡ w) xs
    → eqb w v ≡ false
    → with_key key v xs ≡ []
key_none key w v [] all other = refl
key_none key w v (x ∷ xs) all other =
    ap (λ b. cond b (x ∷ with_key key v xs) (with_key key v xs)) (ap (λ k. eqb k v) all.0 ∙ other)
    ∙ key_none key w v xs all.1 other

-- what holds of all of two lists
pub all_front : {X : Type 0} (P : X → Type 0) (xs ys : List X) → AllByRecursion P (xs ++ ys) → AllByRecursion P xs
all_front P [] ys all = tt
all_front P (x ∷ xs) ys all = (all.0, all_front P xs ys all.1)

pub all_rest : {X : Type 0} (P : X → Type 0) (xs ys : List X) → AllByRecursion P (xs ++ ys) → AllByRecursion P ys
all_rest P [] ys all = all
all_rest P (x ∷ xs) ys all = all_rest P xs ys all.1

-- up to the first marked element
pub record Cut {X Y : Type 0} (mark : X → Option Y) (xs : List X) (y : Y) (ys : List Y) : Type 0 where
  pub front : List X
  pub first : X
  pub rest : List X
  pub is : xs ≡ front ++ first ∷ rest
  pub none : filter_map mark front ≡ []
  pub marks : mark first ≡ Some y
  pub others : filter_map mark rest ≡ ys

cut_by : {X Y : Type 0} (mark : X → Option Y) (x : X) (xs : List X) (y : Y) (ys : List Y)
    → (filter_map mark xs ≡ y ∷ ys → Cut mark xs y ys)
    → (o : Option Y)
    → mark x ≡ o
    → cons_option o (filter_map mark xs) ≡ y ∷ ys
    → Cut mark (x ∷ xs) y ys
cut_by mark x xs y ys more None is same =
    let c = more same in
    record {
      front = x ∷ c.front;
      first = c.first;
      rest = c.rest;
      is = ap (λ zs. x ∷ zs) c.is;
      none = ap (λ o. cons_option o (filter_map mark c.front)) is ∙ c.none;
      marks = c.marks;
      others = c.others;
    }
cut_by mark x xs y ys more (Some z) is same = record {
  front = [];
  first = x;
  rest = xs;
  is = refl;
  none = refl;
  marks = is ∙ ap Some (head_is z y (filter_map mark xs) ys same);
  others = tail_is z y (filter_map mark xs) ys same;
}

pub cut : {X Y : Type 0} (mark : X → Option Y) (xs : List X) (y : Y) (ys : List Y)
    → filter_map mark xs ≡ y ∷ ys
    → Cut mark xs y ys
cut mark [] y ys same = absurd (not_cons y ys same)
cut mark (x ∷ xs) y ys same =
    cut_by mark x xs y ys (λ is. cut mark xs y ys is) (mark x) refl same

-- a merge of the lists that has their marked elements in the order of the steps
pub record Interleaved {X Y S : Type 0} (key : X → ℕ) (mark : X → Option Y) (tell : S → Y) (steps : List S)
    (runs : ℕ → List X) : Type 0 where
  pub entries : List X
  pub own : (w : ℕ) → with_key key w entries ≡ runs w
  pub marks : filter_map mark entries ≡ map tell steps

-- lists without marked elements, one after the other
abbrev pub all_of : {X : Type 0} → (ℕ → List X) → ℕ → List X
all_of runs zero = []
all_of runs (suc n) = all_of runs n ++ runs n

pub all_of-past : {X : Type 0} (key : X → ℕ) (runs : ℕ → List X) (n w : ℕ)
    → ((v : ℕ) → AllByRecursion (λ x. key x ≡ v) (runs v))
    → n ≤ w
    → with_key key w (all_of runs n) ≡ []
all_of-past key runs zero w own past = refl
all_of-past key runs (suc n) w own past =
    filter-append (λ x. key x == w) (all_of runs n) (runs n)
    ∙ ap₂ (λ xs ys. xs ++ ys) (all_of-past key runs n w own (omega arith))
    (key_none key n w (runs n) (own n) (ne_eqb n w (λ e. absurd (omega (arith, e, past)))))

pub all_of-own : {X : Type 0} (key : X → ℕ) (runs : ℕ → List X) (n w : ℕ)
    → ((v : ℕ) → AllByRecursion (λ x. key x ≡ v) (runs v))
    → w < n
    → with_key key w (all_of runs n) ≡ runs w
all_of-own key runs zero w own below = absurd (omega (arith, below))
all_of-own key runs (suc n) w own below =
    filter-append (λ x. key x == w) (all_of runs n) (runs n)
    ∙ elim (cases_lt w n) [
      | inl less ↦
          ap₂ (λ xs ys. xs ++ ys) (all_of-own key runs n w own less)
          (key_none key n w (runs n) (own n) (ne_eqb n w (λ e. absurd (omega (arith, e, less)))))
          ∙ append-nil (runs w)
      | inr least ↦
          let same : n ≡ w = omega arith in
          ap₂ (λ xs ys. xs ++ ys) (all_of-past key runs n w own (omega arith))
          (ap (λ k. with_key key w (runs k)) same ∙ key_all key w (runs w) (own w))
    ]

pub all_of-unmarked : {X Y : Type 0} (mark : X → Option Y) (runs : ℕ → List X) (n : ℕ)
    → ((v : ℕ) → [] ≡ filter_map mark (runs v))
    → filter_map mark (all_of runs n) ≡ []
all_of-unmarked mark runs zero none = refl
all_of-unmarked mark runs (suc n) none =
    filter_map-append mark (all_of runs n) (runs n)
    ∙ ap₂ (λ xs ys. xs ++ ys) (all_of-unmarked mark runs n none) (sym (none n))

-- one step more
module _ {X Y S : Type 0} (key : X → ℕ) (mark : X → Option Y) (who : S → ℕ) (tell : S → Y) (n : ℕ) (s : S)
    (steps : List S) (runs : ℕ → List X) (own : (w : ℕ) → AllByRecursion (λ x. key x ≡ w) (runs w))
    (past : (w : ℕ) → n ≤ w → runs w ≡ [])
    (told : (w : ℕ) → map tell (with_key who w (s ∷ steps)) ≡ filter_map mark (runs w))
    (c : Cut mark (runs (who s)) (tell s) (map tell (with_key who (who s) steps))) where
  -- the lists after the step
  abbrev left : ℕ → List X
  left v = cond (eqb (who s) v) c.rest (runs v)

  all : AllByRecursion (λ x. key x ≡ who s) (c.front ++ c.first ∷ c.rest)
  all = subst (AllByRecursion (λ x. key x ≡ who s)) c.is (own (who s))

  rest_all : AllByRecursion (λ x. key x ≡ who s) (c.first ∷ c.rest)
  rest_all = all_rest (λ x. key x ≡ who s) c.front (c.first ∷ c.rest) all

  front_all : AllByRecursion (λ x. key x ≡ who s) c.front
  front_all = all_front (λ x. key x ≡ who s) c.front (c.first ∷ c.rest) all

  own_by : (v : ℕ) (b : Bool) → eqb (who s) v ≡ b → AllByRecursion (λ x. key x ≡ v) (cond b c.rest (runs v))
  own_by v true is = subst (λ k. AllByRecursion (λ x. key x ≡ k) c.rest) (eqb-true (who s) v is) rest_all.1
  own_by v false is = own v

  no_part : (xs : List X) (x : X) (ys : List X) → [] ≡ xs ++ x ∷ ys → ⊥
  no_part [] x ys none = not_cons x ys none
  no_part (z ∷ xs) x ys none = not_cons z (xs ++ x ∷ ys) none

  past_by : (v : ℕ) → n ≤ v → (b : Bool) → eqb (who s) v ≡ b → cond b c.rest (runs v) ≡ []
  past_by v beyond true is =
      let same = eqb-true (who s) v is in
      absurd
      (no_part c.front c.first c.rest (sym (past (who s) (subst (λ k. n ≤ k) (sym same) beyond)) ∙ c.is))
  past_by v beyond false is = past v beyond

  told_by : (v : ℕ) (b : Bool)
      → eqb (who s) v ≡ b
      → map tell (with_key who v steps) ≡ filter_map mark (cond b c.rest (runs v))
  told_by v true is =
      subst (λ k. map tell (with_key who k steps) ≡ filter_map mark c.rest) (eqb-true (who s) v is) (sym c.others)
  told_by v false is =
      ap (λ b. map tell (cond b (s ∷ with_key who v steps) (with_key who v steps))) (sym is) ∙ told v

  entries_by : (v : ℕ) (b : Bool)
      → eqb (who s) v ≡ b
      → (entries : List X)
      → with_key key v entries ≡ cond b c.rest (runs v)
      → with_key key v c.front ++ with_key key v (c.first ∷ entries) ≡ runs v
  entries_by v true is entries same =
      let to = eqb-true (who s) v is in
      ap₂ (λ xs ys. xs ++ ys)
      (key_all key v c.front (subst (λ k. AllByRecursion (λ x. key x ≡ k) c.front) to front_all))
      (ap (λ b. cond b (c.first ∷ with_key key v entries) (with_key key v entries))
      (eq-eqb (key c.first) v (rest_all.0 ∙ to)) ∙ ap (λ zs. c.first ∷ zs) same)
      ∙ sym c.is ∙ ap runs to
  entries_by v false is entries same =
      ap₂ (λ xs ys. xs ++ ys) (key_none key (who s) v c.front front_all is)
      (ap (λ b. cond b (c.first ∷ with_key key v entries) (with_key key v entries))
      (ap (λ k. eqb k v) rest_all.0 ∙ is) ∙ same)

  one_more : (((w : ℕ) → AllByRecursion (λ x. key x ≡ w) (left w))
      → ((w : ℕ) → n ≤ w → left w ≡ [])
      → ((w : ℕ) → map tell (with_key who w steps) ≡ filter_map mark (left w))
      → Interleaved key mark tell steps left)
      → Interleaved key mark tell (s ∷ steps) runs
  one_more others =
      let i = others (λ v. own_by v (eqb (who s) v) refl) (λ v beyond. past_by v beyond (eqb (who s) v) refl)
      (λ v. told_by v (eqb (who s) v) refl)
      in
      record {
        entries = c.front ++ c.first ∷ i.entries;
        own = λ v.
            filter-append (λ x. key x == v) c.front (c.first ∷ i.entries)
            ∙ entries_by v (eqb (who s) v) refl i.entries (i.own v);
        marks = filter_map-append mark c.front (c.first ∷ i.entries)
            ∙ ap₂ (λ xs ys. xs ++ ys) c.none (ap₂ cons_option c.marks i.marks);
      }

pub interleaved : {X Y S : Type 0} (key : X → ℕ) (mark : X → Option Y) (who : S → ℕ) (tell : S → Y) (n : ℕ)
    (steps : List S) (runs : ℕ → List X)
    → ((w : ℕ) → AllByRecursion (λ x. key x ≡ w) (runs w))
    → ((w : ℕ) → n ≤ w → runs w ≡ [])
    → ((w : ℕ) → map tell (with_key who w steps) ≡ filter_map mark (runs w))
    → Interleaved key mark tell steps runs
interleaved key mark who tell n [] runs own past told = record {
  entries = all_of runs n;
  own = λ w. elim (cases_lt w n) [
    | inl below ↦ all_of-own key runs n w own below
    | inr least ↦ all_of-past key runs n w own (omega arith) ∙ sym (past w (omega arith))
  ];
  marks = all_of-unmarked mark runs n told;
}
interleaved key mark who tell n (s ∷ steps) runs own past told =
    let here : tell s ∷ map tell (with_key who (who s) steps) ≡ filter_map mark (runs (who s)) =
    ap (λ b. map tell (cond b (s ∷ with_key who (who s) steps) (with_key who (who s) steps)))
    (sym (eq-eqb (who s) (who s) refl))
    ∙ told (who s)
    in
    let c = cut mark (runs (who s)) (tell s) (map tell (with_key who (who s) steps)) (sym here) in
    one_more key mark who tell n s steps runs own past told c
    (λ o p t. interleaved key mark who tell n steps (λ v. cond (eqb (who s) v) c.rest (runs v)) o p t)
