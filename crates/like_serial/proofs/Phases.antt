-- A list sorted by phase, and what counts in it.
use Rattle.std.proofs.Common.{◌≡◌, ℕ, zero, suc, ◌+◌, ◌<◌, ◌≤◌, ◌⊎◌, inl, inr, Bool, true, false, cond, eqb, nat_lt, ◌==◌, List, [], ◌∷◌, ◌++◌, filter, All, AllPairs, ap, ap₂, sym, ◌∙◌, refl, arith, eq-eqb, ne_eqb, eqb-true}
use Rattle.std.specs.List.{AllByRecursion}
use Rattle.std.proofs.lemmas.Bool.{cases_lt, false_from_ne_true, lt-ltb, ltb-true}
use Rattle.std.proofs.lemmas.List.Elements.{All-cons, filter-append}
use Rattle.std.proofs.lemmas.List.Kept.{AllPairs-cons}
use Rattle.like_serial.proofs.Parts.{in_first, in_second, joined, not_cons}
use Rattle.like_serial.proofs.Interleaved.{all_of, with_key}

-- tests of numbers
pub not_below : (p n : ℕ) → n ≤ p → nat_lt p n ≡ false
not_below p n least = false_from_ne_true (nat_lt p n) (λ e. absurd (omega (arith, least, ltb-true p n e)))

pub below : (p n : ℕ) → p < n → nat_lt p n ≡ true
below p n less = lt-ltb p n less

-- two filters change places
pub filter-swap : {X : Type 0} (p q : X → Bool) (xs : List X) → filter p (filter q xs) ≡ filter q (filter p xs)
filter-swap p q [] = refl
filter-swap {X} p q (x ∷ xs) = by (p x) refl (q x) refl (filter-swap p q xs) where
  by : (b : Bool)
      → p x ≡ b
      → (c : Bool)
      → q x ≡ c
      → filter p (filter q xs) ≡ filter q (filter p xs)
      → filter p (cond c (x ∷ filter q xs) (filter q xs)) ≡ filter q (cond b (x ∷ filter p xs) (filter p xs))
  by true is true has same =
      ap (λ d. cond d (x ∷ filter p (filter q xs)) (filter p (filter q xs))) is ∙ ap (λ zs. x ∷ zs) same
      ∙ sym (ap (λ d. cond d (x ∷ filter q (filter p xs)) (filter q (filter p xs))) has)
  by true is false has same =
      same ∙ sym (ap (λ d. cond d (x ∷ filter q (filter p xs)) (filter q (filter p xs))) has)
  by false is true has same =
      ap (λ d. cond d (x ∷ filter p (filter q xs)) (filter p (filter q xs))) is ∙ same
  by false is false has same = same

-- sorted: the elements of the phases below this one, phase by phase
abbrev pub sorted : {X : Type 0} → (X → ℕ) → List X → ℕ → List X
sorted phase xs n = all_of (λ k. with_key phase k xs) n

-- the elements with a key, sorted
pub sorted-key : {X : Type 0} (key phase : X → ℕ) (w : ℕ) (xs : List X) (n : ℕ)
    → with_key key w (sorted phase xs n) ≡ sorted phase (with_key key w xs) n
sorted-key key phase w xs zero = refl
sorted-key key phase w xs (suc n) =
    filter-append (λ x. key x == w) (sorted phase xs n) (with_key phase n xs)
    ∙ ap₂ (λ us vs. us ++ vs) (sorted-key key phase w xs n)
    (filter-swap (λ x. key x == w) (λ x. phase x == n) xs)

-- phases never fall
abbrev pub Rises : {X : Type 0} → (X → ℕ) → List X → Type 0
Rises phase [] = Unit {0}
Rises phase (x ∷ xs) = AllByRecursion (λ y. phase x ≤ phase y) xs × Rises phase xs

pub all_rec : {X : Type 0} (P : X → Type 0) (xs : List X) → All P xs → AllByRecursion P xs
all_rec P [] all = tt
all_rec P (x ∷ xs) all = (all 0 x (omega arith), all_rec P xs (λ k d there. all (suc k) d (omega arith)))

pub rec_all : {X : Type 0} (P : X → Type 0) (xs : List X) → AllByRecursion P xs → All P xs
rec_all P [] all = λ k d there. absurd (omega (arith, there))
rec_all P (x ∷ xs) all = All-cons P x xs all.0 (rec_all P xs all.1)

pub rises_of : {X : Type 0} (phase : X → ℕ) (xs : List X) → AllPairs (λ x y. phase x ≤ phase y) xs → Rises phase xs
rises_of phase [] pairs = tt
rises_of phase (x ∷ xs) pairs = (
  all_rec (λ y. phase x ≤ phase y) xs (λ j d there. pairs zero (suc j) d (omega arith) (omega arith)),
  rises_of phase xs (λ i j d lt there. pairs (suc i) (suc j) d (omega arith) (omega arith)),
)

pub pairs_of : {X : Type 0} (phase : X → ℕ) (xs : List X) → Rises phase xs → AllPairs (λ x y. phase x ≤ phase y) xs
pairs_of phase [] rises = λ i j d lt there. absurd (omega (arith, there))
pairs_of phase (x ∷ xs) rises =
    AllPairs-cons (λ x y. phase x ≤ phase y) x xs (rec_all (λ y. phase x ≤ phase y) xs rises.0)
    (pairs_of phase xs rises.1)

pub all_then : {X : Type 0} (P Q : X → Type 0) (xs : List X)
    → ((x : X) → P x → Q x)
    → AllByRecursion P xs
    → AllByRecursion Q xs
all_then P Q [] then all = tt
all_then P Q (x ∷ xs) then all = (then x all.0, all_then P Q xs then all.1)

pub all_append : {X : Type 0} (P : X → Type 0) (xs ys : List X)
    → AllByRecursion P xs
    → AllByRecursion P ys
    → AllByRecursion P (xs ++ ys)
all_append P [] ys first second = second
all_append P (x ∷ xs) ys first second = (first.0, all_append P xs ys first.1 second)

-- the elements of a phase have it
pub key_is : {X : Type 0} (key : X → ℕ) (w : ℕ) (xs : List X) → AllByRecursion (λ x. key x ≡ w) (with_key key w xs)
key_is key w [] = tt
key_is {X} key w (x ∷ xs) = by (eqb (key x) w) refl (key_is key w xs) where
  by : (b : Bool)
      → eqb (key x) w ≡ b
      → AllByRecursion (λ x. key x ≡ w) (with_key key w xs)
      → AllByRecursion (λ x. key x ≡ w) (cond b (x ∷ with_key key w xs) (with_key key w xs))
  by true is others = (eqb-true (key x) w is, others)
  by false is others = others

pub sorted-below : {X : Type 0} (phase : X → ℕ) (xs : List X) (n : ℕ)
    → AllByRecursion (λ x. phase x < n) (sorted phase xs n)
sorted-below phase xs zero = tt
sorted-below phase xs (suc n) =
    all_append (λ x. phase x < suc n) (sorted phase xs n) (with_key phase n xs)
    (all_then (λ x. phase x < n) (λ x. phase x < suc n) (sorted phase xs n) (λ x less. omega (arith, less))
    (sorted-below phase xs n))
    (all_then (λ x. phase x ≡ n) (λ x. phase x < suc n) (with_key phase n xs) (λ x is. omega (arith, is))
    (key_is phase n xs))

pub rises-same : {X : Type 0} (phase : X → ℕ) (k : ℕ) (xs : List X)
    → AllByRecursion (λ x. phase x ≡ k) xs
    → Rises phase xs
rises-same phase k [] all = tt
rises-same phase k (x ∷ xs) all = (
  all_then (λ y. phase y ≡ k) (λ y. phase x ≤ phase y) xs (λ y is. let here = all.0 in omega (arith, is)) all.1,
  rises-same phase k xs all.1,
)

pub rises-append : {X : Type 0} (phase : X → ℕ) (k : ℕ) (xs ys : List X)
    → Rises phase xs
    → Rises phase ys
    → AllByRecursion (λ x. phase x ≤ k) xs
    → AllByRecursion (λ y. k ≤ phase y) ys
    → Rises phase (xs ++ ys)
rises-append phase k [] ys first second most least = second
rises-append phase k (x ∷ xs) ys first second most least = (
  all_append (λ y. phase x ≤ phase y) xs ys first.0
      (all_then (λ y. k ≤ phase y) (λ y. phase x ≤ phase y) ys (λ y is. let here = most.0 in omega (arith, is)) least),
  rises-append phase k xs ys first.1 second most.1 least,
)

pub sorted-rises : {X : Type 0} (phase : X → ℕ) (xs : List X) (n : ℕ) → Rises phase (sorted phase xs n)
sorted-rises phase xs zero = tt
sorted-rises phase xs (suc n) =
    rises-append phase n (sorted phase xs n) (with_key phase n xs) (sorted-rises phase xs n)
    (rises-same phase n (with_key phase n xs) (key_is phase n xs))
    (all_then (λ x. phase x < n) (λ x. phase x ≤ n) (sorted phase xs n) (λ x is. omega (arith, is))
    (sorted-below phase xs n))
    (all_then (λ x. phase x ≡ n) (λ x. n ≤ phase x) (with_key phase n xs) (λ x is. omega (arith, is))
    (key_is phase n xs))

-- a list that rises is sorted
pub none_below : {X : Type 0} (phase : X → ℕ) (n : ℕ) (xs : List X)
    → AllByRecursion (λ x. n ≤ phase x) xs
    → filter (λ x. nat_lt (phase x) n) xs ≡ []
none_below phase n [] all = refl
none_below phase n (x ∷ xs) all =
    ap (λ b. cond b (x ∷ filter (λ x. nat_lt (phase x) n) xs) (filter (λ x. nat_lt (phase x) n) xs))
    (not_below (phase x) n all.0)
    ∙ none_below phase n xs all.1

pub all_below : {X : Type 0} (phase : X → ℕ) (n : ℕ) (xs : List X)
    → AllByRecursion (λ x. phase x < n) xs
    → filter (λ x. nat_lt (phase x) n) xs ≡ xs
all_below phase n [] all = refl
all_below phase n (x ∷ xs) all =
    ap (λ b. cond b (x ∷ filter (λ x. nat_lt (phase x) n) xs) (filter (λ x. nat_lt (phase x) n) xs))
    (below (phase x) n all.0)
    ∙ ap (λ zs. x ∷ zs) (all_below phase n xs all.1)

next_block : {X : Type 0} (phase : X → ℕ) (n : ℕ) (xs : List X)
    → Rises phase xs
    → filter (λ x. nat_lt (phase x) n) xs ++ with_key phase n xs ≡ filter (λ x. nat_lt (phase x) (suc n)) xs
next_block phase n [] rises = refl
next_block {X} phase n (x ∷ xs) rises =
    by (cases_lt (phase x) n) (cases_lt n (phase x)) (next_block phase n xs rises.1) where
      less : List X
      less = filter (λ x. nat_lt (phase x) n) xs

      here : List X
      here = with_key phase n xs

      most : List X
      most = filter (λ x. nat_lt (phase x) (suc n)) xs

      by : (phase x < n) ⊎ (n ≤ phase x)
          → (n < phase x) ⊎ (phase x ≤ n)
          → filter (λ x. nat_lt (phase x) n) xs ++ with_key phase n xs ≡ filter (λ x. nat_lt (phase x) (suc n)) xs
          → cond (nat_lt (phase x) n) (x ∷ filter (λ x. nat_lt (phase x) n) xs) (filter (λ x. nat_lt (phase x) n) xs)
          ++ cond (eqb (phase x) n) (x ∷ with_key phase n xs) (with_key phase n xs)
          ≡ cond (nat_lt (phase x) (suc n)) (x ∷ filter (λ x. nat_lt (phase x) (suc n)) xs)
          (filter (λ x. nat_lt (phase x) (suc n)) xs)
      by (inl low) other same =
          rw (
            below (phase x) n low,
            ne_eqb (phase x) n (λ e. absurd (omega (arith, low, e))),
            below (phase x) (suc n) (omega (arith, low)),
          ) (ap (λ zs. x ∷ zs) same)
      by (inr least) (inl high) same =
          rw (
            not_below (phase x) n least,
            ne_eqb (phase x) n (λ e. absurd (omega (arith, high, e))),
            not_below (phase x) (suc n) (omega (arith, high)),
          ) same
      by (inr least) (inr top) same =
          let none = none_below phase n xs
          (all_then (λ y. phase x ≤ phase y) (λ y. n ≤ phase y) xs (λ y is. omega (arith, is, least)) rises.0)
          in
          rw (
            not_below (phase x) n least,
            eq-eqb (phase x) n (omega (arith, least, top)),
            below (phase x) (suc n) (omega (arith, top)),
          )
          (ap (λ zs. zs ++ x ∷ with_key phase n xs) none ∙ ap (λ zs. x ∷ zs)
          (sym (ap (λ zs. zs ++ with_key phase n xs) none) ∙ same))

pub sorted-filter : {X : Type 0} (phase : X → ℕ) (xs : List X) (n : ℕ)
    → Rises phase xs
    → sorted phase xs n ≡ filter (λ x. nat_lt (phase x) n) xs
sorted-filter {X} phase xs zero rises = sym (none_below phase 0 xs (everything xs)) where
  everything : (ys : List X) → AllByRecursion (λ x. 0 ≤ phase x) ys
  everything [] = tt
  everything (y ∷ ys) = (omega arith, everything ys)
sorted-filter phase xs (suc n) rises =
    ap (λ zs. zs ++ with_key phase n xs) (sorted-filter phase xs n rises) ∙ next_block phase n xs rises

pub sorted-same : {X : Type 0} (phase : X → ℕ) (xs : List X) (n : ℕ)
    → Rises phase xs
    → AllByRecursion (λ x. phase x < n) xs
    → sorted phase xs n ≡ xs
sorted-same phase xs n rises all = sorted-filter phase xs n rises ∙ all_below phase n xs all

-- an element of a list of blocks
pub record InBlock {X : Type 0} (blocks : ℕ → List X) (n : ℕ) (before : List X) (x : X) : Type 0 where
  pub block : ℕ
  pub front : List X
  pub rest : List X
  pub within : block < n
  pub fronts : before ≡ all_of blocks block ++ front
  pub is : blocks block ≡ front ++ x ∷ rest

pub in_block : {X : Type 0} (blocks : ℕ → List X) (n : ℕ) (before : List X) (x : X) (after : List X)
    → all_of blocks n ≡ before ++ x ∷ after
    → InBlock blocks n before x
in_block blocks zero [] x after same = absurd (not_cons x after same)
in_block blocks zero (b ∷ before) x after same = absurd (not_cons b (before ++ x ∷ after) same)
in_block blocks (suc n) before x after same =
    elim (joined (all_of blocks n) (blocks n) before x after same) [
      | in_first rest is more ↦
          let b = in_block blocks n before x rest is in
          let within = b.within in
          record {
            block = b.block;
            front = b.front;
            rest = b.rest;
            within = omega arith;
            fronts = b.fronts;
            is = b.is;
          }
      | in_second front is more ↦ record {
        block = n;
        front = front;
        rest = after;
        within = omega arith;
        fronts = is;
        is = more;
      }
    ]

-- a number above all
abbrev pub above : {X : Type 0} → (X → ℕ) → List X → ℕ
above key [] = 0
above key (x ∷ xs) = key x + 1 + above key xs

pub all_above : {X : Type 0} (key : X → ℕ) (more : ℕ) (xs : List X) → AllByRecursion (λ x. key x < above key xs + more) xs
all_above key more [] = tt
all_above key more (x ∷ xs) = (
  omega arith,
  all_then (λ y. key y < above key xs + more) (λ y. key y < key x + 1 + above key xs + more) xs
      (λ y less. omega (arith, less))
      (all_above key more xs),
)
