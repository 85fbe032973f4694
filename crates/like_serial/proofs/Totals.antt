-- Totals of steps and of entries: what agrees for each worker agrees in all, phase by phase.
use Rattle.std.proofs.Common.{◌≡◌, ℕ, zero, suc, ◌+◌, ◌<◌, ◌≤◌, ◌⊎◌, inl, inr, Bool, true, false, eqb, nat_lt, ◌==◌, List, [], ◌∷◌, reverse, filter_map, Option, Some, None, ap, ap₂, sym, ◌∙◌, refl, arith, eq-eqb, ne_eqb}
use Rattle.std.specs.List.{AllByRecursion, cons_option}
use Rattle.std.specs.Option.{option_map_or}
use mathlib.Core.List.{reverse-cons}
use Rattle.std.proofs.lemmas.Bool.{cases_lt}
use Rattle.like_serial.proofs.Interleaved.{with_key}
use Rattle.like_serial.proofs.Phases.{above, all_above, all_then, below, not_below, sorted}
use Rattle.like_serial.proofs.Weigh.{only, weigh, weigh-append, weigh-both, weigh-filter, weigh-none}

pub only-none : (b : Bool) → only b 0 ≡ 0
only-none true = refl
only-none false = refl

-- below the next number: below this one, or at it
pub only-suc : (p n m : ℕ) → only (nat_lt p (suc n)) m ≡ only (nat_lt p n) m + only (eqb p n) m
only-suc p n m = by (cases_lt p n) (cases_lt n p) where
  by : (p < n) ⊎ (n ≤ p)
      → (n < p) ⊎ (p ≤ n)
      → only (nat_lt p (suc n)) m ≡ only (nat_lt p n) m + only (eqb p n) m
  by (inl low) other =
      rw (below p n low, below p (suc n) (omega (arith, low)), ne_eqb p n (λ e. absurd (omega (arith, low, e))))
      (omega arith)
  by (inr least) (inl high) =
      rw (not_below p n least, not_below p (suc n) (omega (arith, high)), ne_eqb p n (λ e. absurd (omega (arith, high, e))))
      refl
  by (inr least) (inr top) =
      rw (not_below p n least, below p (suc n) (omega (arith, top)), eq-eqb p n (omega (arith, least, top)))
      (omega arith)

-- what counts of the keys below the next number
pub weigh-suc : {X : Type 0} (key f : X → ℕ) (n : ℕ) (xs : List X)
    → weigh (λ x. only (nat_lt (key x) (suc n)) (f x)) xs
    ≡ weigh (λ x. only (nat_lt (key x) n) (f x)) xs + weigh (λ x. only (key x == n) (f x)) xs
weigh-suc key f n xs =
    weigh-both (λ x. only (nat_lt (key x) (suc n)) (f x)) (λ x. only (nat_lt (key x) n) (f x))
    (λ x. only (key x == n) (f x)) xs
    (λ x. only-suc (key x) n (f x))

pub weigh-zero : {X : Type 0} (key f : X → ℕ) (xs : List X) → weigh (λ x. only (nat_lt (key x) 0) (f x)) xs ≡ 0
weigh-zero key f xs =
    weigh-none (λ x. only (nat_lt (key x) 0) (f x)) xs
    (λ x. ap (λ b. only b (f x)) (not_below (key x) 0 (omega arith)))

-- where all terms are 0, and where they are those of another function
pub weigh-all_none : {X : Type 0} (f : X → ℕ) (xs : List X) → AllByRecursion (λ x. f x ≡ 0) xs → weigh f xs ≡ 0
weigh-all_none f [] all = refl
weigh-all_none f (x ∷ xs) all = let first = all.0 in let more = weigh-all_none f xs all.1 in omega arith

pub weigh-all_alike : {X : Type 0} (f g : X → ℕ) (xs : List X)
    → AllByRecursion (λ x. f x ≡ g x) xs
    → weigh f xs ≡ weigh g xs
weigh-all_alike f g [] all = refl
weigh-all_alike f g (x ∷ xs) all = let first = all.0 in let more = weigh-all_alike f g xs all.1 in omega arith

pub weigh-all_below : {X : Type 0} (key f : X → ℕ) (n : ℕ) (xs : List X)
    → AllByRecursion (λ x. key x < n) xs
    → weigh (λ x. only (nat_lt (key x) n) (f x)) xs ≡ weigh f xs
weigh-all_below key f n xs all =
    weigh-all_alike (λ x. only (nat_lt (key x) n) (f x)) f xs
    (all_then (λ x. key x < n) (λ x. only (nat_lt (key x) n) (f x) ≡ f x) xs
    (λ x less. ap (λ b. only b (f x)) (below (key x) n less))
    all)

-- two lists that agree at each key below a number agree below it, and if they agree at each key, in all
pub same_below : {X Y : Type 0} (key f : X → ℕ) (other g : Y → ℕ) (xs : List X) (ys : List Y) (n : ℕ)
    → ((k : ℕ) → k < n → weigh (λ x. only (key x == k) (f x)) xs ≡ weigh (λ y. only (other y == k) (g y)) ys)
    → weigh (λ x. only (nat_lt (key x) n) (f x)) xs ≡ weigh (λ y. only (nat_lt (other y) n) (g y)) ys
same_below key f other g xs ys zero each = weigh-zero key f xs ∙ sym (weigh-zero other g ys)
same_below key f other g xs ys (suc n) each =
    weigh-suc key f n xs
    ∙ ap₂ (λ a b. a + b) (same_below key f other g xs ys n (λ k less. each k (omega (arith, less))))
    (each n (omega arith))
    ∙ sym (weigh-suc other g n ys)

pub same_in_all : {X Y : Type 0} (key f : X → ℕ) (other g : Y → ℕ) (xs : List X) (ys : List Y)
    → ((k : ℕ) → weigh (λ x. only (key x == k) (f x)) xs ≡ weigh (λ y. only (other y == k) (g y)) ys)
    → weigh f xs ≡ weigh g ys
same_in_all key f other g xs ys each =
    let n = above key xs + above other ys in
    sym (weigh-all_below key f n xs (all_above key (above other ys) xs))
    ∙ same_below key f other g xs ys n (λ k less. each k)
    ∙ weigh-all_below other g n ys
    (all_then (λ y. other y < above other ys + above key xs) (λ y. other y < n) ys (λ y less. omega (arith, less))
    (all_above other (above key xs) ys))

-- a sorted list counts what its phases do
pub weigh-sorted : {X : Type 0} (phase f : X → ℕ) (xs : List X) (n : ℕ)
    → weigh f (sorted phase xs n) ≡ weigh (λ x. only (nat_lt (phase x) n) (f x)) xs
weigh-sorted phase f xs zero = sym (weigh-zero phase f xs)
weigh-sorted phase f xs (suc n) =
    weigh-append f (sorted phase xs n) (with_key phase n xs)
    ∙ ap₂ (λ a b. a + b) (weigh-sorted phase f xs n) (weigh-filter (λ x. phase x == n) f xs)
    ∙ sym (weigh-suc phase f n xs)

-- a reversed list counts the same
pub weigh-reverse : {X : Type 0} (f : X → ℕ) (xs : List X) → weigh f (reverse xs) ≡ weigh f xs
weigh-reverse f [] = refl
weigh-reverse f (x ∷ xs) =
    ap (weigh f) (reverse-cons x xs) ∙ weigh-append f (reverse xs) (x ∷ [])
    ∙ (let same = weigh-reverse f xs in omega arith)

-- what a function finds in elements
pub weigh-marks : {X Y : Type 0} (f : Y → ℕ) (mark : X → Option Y) (xs : List X)
    → weigh f (filter_map mark xs) ≡ weigh (λ x. option_map_or f (mark x) 0) xs
weigh-marks f mark [] = refl
weigh-marks {X} {Y} f mark (x ∷ xs) =
    by (mark x) ∙ ap (λ n. option_map_or f (mark x) 0 + n) (weigh-marks f mark xs) where
      by : (o : Option Y) → weigh f (cons_option o (filter_map mark xs)) ≡ option_map_or f o 0 + weigh f (filter_map mark xs)
      by None = omega arith
      by (Some y) = refl
