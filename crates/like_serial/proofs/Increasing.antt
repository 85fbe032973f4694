-- Lists in the order of a number, along which it rises strictly, or some elements may share it.
use Rattle.std.proofs.Common.{◌≡◌, ℕ, zero, suc, ◌<◌, ◌≤◌, ◌⊎◌, inl, inr, Bool, true, false, cond, List, [], ◌∷◌, ◌++◌, filter, refl, subst, arith}
use Rattle.std.specs.List.{AllByRecursion, AllPairs}
use Rattle.std.proofs.lemmas.List.Kept.{AllPairs-cons}
use Rattle.like_serial.proofs.Interleaved.{all_of, all_rest, with_key}
use Rattle.like_serial.proofs.Phases.{Rises, all_append, all_rec, all_then, key_is, rec_all, sorted, sorted-below}

-- what is true of all is true of those that pass a test
pub filter_rec : {X : Type 0} (P : X → Type 0) (t : X → Bool) (xs : List X) → AllByRecursion P xs
    → AllByRecursion P (filter t xs)
filter_rec P t [] all = tt
filter_rec {X} P t (x ∷ xs) all = by (t x) (filter_rec P t xs all.1) where
  by : (b : Bool) → AllByRecursion P (filter t xs) → AllByRecursion P (cond b (x ∷ filter t xs) (filter t xs))
  by true rest = (all.0, rest)
  by false rest = rest

-- each element stands so to all behind it
abbrev pub Pairwise : {X : Type 0} → (X → X → Type 0) → List X → Type 0
Pairwise R [] = Unit {0}
Pairwise R (x ∷ xs) = AllByRecursion (R x) xs × Pairwise R xs

-- a number rises strictly
abbrev pub Increases : {X : Type 0} → (X → ℕ) → List X → Type 0
Increases number xs = Pairwise (λ x y. number x < number y) xs

-- an element is earlier than another: its number is less; or they have the same, and both may share theirs
abbrev pub Earlier : {X : Type 0} → (X → ℕ) → (X → Type 0) → X → X → Type 0
Earlier number Shares x y = (number x < number y) ⊎ ((number x ≡ number y) × Shares x × Shares y)

pub pairwise_pairs : {X : Type 0} (R : X → X → Type 0) (xs : List X) → Pairwise R xs → AllPairs R xs
pairwise_pairs R [] up = λ i j d lt there. absurd (omega (arith, there))
pairwise_pairs R (x ∷ xs) up = AllPairs-cons R x xs (rec_all (R x) xs up.0) (pairwise_pairs R xs up.1)

pub pairwise_of : {X : Type 0} (R : X → X → Type 0) (xs : List X) → AllPairs R xs → Pairwise R xs
pairwise_of R [] pairs = tt
pairwise_of R (x ∷ xs) pairs = (
  all_rec (R x) xs (λ j d there. pairs zero (suc j) d (omega arith) (omega arith)),
  pairwise_of R xs (λ i j d lt there. pairs (suc i) (suc j) d (omega arith) (omega arith)),
)

-- how those before an element, and those behind it, stand to it
pub pairwise_at : {X : Type 0} (R : X → X → Type 0) (front : List X) (x : X) (rest : List X)
    → Pairwise R (front ++ x ∷ rest) → AllByRecursion (λ y. R y x) front × AllByRecursion (R x) rest
pairwise_at R [] x rest up = (tt, up.0)
pairwise_at R (y ∷ front) x rest up =
    let more = pairwise_at R front x rest up.1 in
    (((all_rest (R y) front (x ∷ rest) up.0).0, more.0), more.1)

pub pairwise_filter : {X : Type 0} (R : X → X → Type 0) (t : X → Bool) (xs : List X) → Pairwise R xs
    → Pairwise R (filter t xs)
pairwise_filter R t [] up = tt
pairwise_filter {X} R t (x ∷ xs) up = by (t x) (pairwise_filter R t xs up.1) where
  by : (b : Bool) → Pairwise R (filter t xs) → Pairwise R (cond b (x ∷ filter t xs) (filter t xs))
  by true rest = (filter_rec (R x) t xs up.0, rest)
  by false rest = rest

-- one list behind another, if no number of the first is above the second's
pub pairwise_append : {X : Type 0} (R : X → X → Type 0) (number : X → ℕ) (k : ℕ) (xs ys : List X)
    → ((x y : X) → number x < number y → R x y) → Pairwise R xs → Pairwise R ys
    → AllByRecursion (λ x. number x < k) xs → AllByRecursion (λ y. k ≤ number y) ys → Pairwise R (xs ++ ys)
pairwise_append R number k [] ys less first second most least = second
pairwise_append R number k (x ∷ xs) ys less first second most least = (
  all_append (R x) xs ys first.0
      (all_then (λ y. k ≤ number y) (R x) ys
      (λ y is. less x y (let here = most.0 in omega (arith, is, here))) least),
  pairwise_append R number k xs ys less first.1 second most.1 least,
)

-- a list sorted by numbers, if those with the same number stand so
pub pairwise_sorted : {X : Type 0} (R : X → X → Type 0) (number : X → ℕ) (xs : List X)
    → ((x y : X) → number x < number y → R x y) → ((k : ℕ) → Pairwise R (with_key number k xs)) → (n : ℕ)
    → Pairwise R (sorted number xs n)
pairwise_sorted R number xs less same zero = tt
pairwise_sorted R number xs less same (suc n) =
    pairwise_append R number n (sorted number xs n) (with_key number n xs) less
    (pairwise_sorted R number xs less same n) (same n) (sorted-below number xs n)
    (all_then (λ x. number x ≡ n) (λ x. n ≤ number x) (with_key number n xs) (λ x is. omega (arith, is))
    (key_is number n xs))

-- numbers don't fall where elements are earlier than those behind them
pub earlier_rises : {X : Type 0} (number : X → ℕ) (Shares : X → Type 0) (xs : List X)
    → Pairwise (Earlier number Shares) xs → Rises number xs
earlier_rises number Shares [] up = tt
earlier_rises number Shares (x ∷ xs) up = (
  all_then (Earlier number Shares x) (λ y. number x ≤ number y) xs
      (λ y e. elim e [ inl less ↦ omega (arith, less) | inr same ↦ (let is = same.0 in omega (arith, is)) ]) up.0,
  earlier_rises number Shares xs up.1,
)

-- one that shares no number has a greater number than all that are earlier
pub alone_above : {X : Type 0} (number : X → ℕ) (Shares : X → Type 0) (x : X) → (Shares x → ⊥) → (front : List X)
    → AllByRecursion (λ y. Earlier number Shares y x) front → AllByRecursion (λ y. number y < number x) front
alone_above number Shares x alone front early =
    all_then (λ y. Earlier number Shares y x) (λ y. number y < number x) front
    (λ y e. elim e [ inl less ↦ less | inr same ↦ absurd (alone same.2) ]) early

-- so none before it has its number
pub front_none : {X : Type 0} (number : X → ℕ) (x : X) (k : ℕ) → number x ≡ k → (front : List X)
    → AllByRecursion (λ y. number y < number x) front → AllByRecursion (λ y. number y ≡ k) front → front ≡ []
front_none number x k is [] less same = refl
front_none number x k is (y ∷ front) less same =
    let a = less.0 in let b = same.0 in absurd (omega (arith, is, a, b))

-- and of all in lists one after the other
pub blocks_rec : {X : Type 0} (P : X → Type 0) (runs : ℕ → List X) (n : ℕ) → ((w : ℕ) → AllByRecursion P (runs w))
    → AllByRecursion P (all_of runs n)
blocks_rec P runs zero each = tt
blocks_rec P runs (suc n) each = all_append P (all_of runs n) (runs n) (blocks_rec P runs n each) (each n)

-- and of one at a place
pub rec_at : {X : Type 0} (P : X → Type 0) (front : List X) (x : X) (rest xs : List X) → AllByRecursion P xs
    → xs ≡ front ++ x ∷ rest → P x
rec_at {X} P front x rest xs all is = there front (subst (AllByRecursion P) is all) where
  there : (ys : List X) → AllByRecursion P (ys ++ x ∷ rest) → P x
  there [] all = all.0
  there (y ∷ ys) all = there ys all.1

-- another key rises along a list sorted by numbers, if it rises with them
pub rises_with : {X : Type 0} (number phase : X → ℕ) (P : X → Type 0) (xs : List X)
    → ((x y : X) → P x → P y → number x ≤ number y → phase x ≤ phase y) → AllByRecursion P xs → Rises number xs
    → Rises phase xs
rises_with number phase P [] with_it all r = tt
rises_with {X} number phase P (x ∷ xs) with_it all r = (each xs all.1 r.0, rises_with number phase P xs with_it all.1 r.1) where
  each : (ys : List X) → AllByRecursion P ys → AllByRecursion (λ y. number x ≤ number y) ys
      → AllByRecursion (λ y. phase x ≤ phase y) ys
  each [] p least = tt
  each (y ∷ ys) p least = (with_it x y all.0 p.0 least.0, each ys p.1 least.1)
