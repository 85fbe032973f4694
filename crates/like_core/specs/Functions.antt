-- Functions of numbers: updates, sums and bits, and how often a number is in a list.
use Rattle.std.specs.Prelude.{ℕ, zero, suc, ◌+◌, ◌*◌, ◌^◌, ◌==◌, Bool, true, false, ◌&&◌, if◌then◌else◌, List, [], ◌∷◌, count_by}
use Rattle.std.specs.Int.{bit_at}

-- the function that is x at i, and f elsewhere
abbrev pub update : {A : Type 0} → (ℕ → A) → ℕ → A → ℕ → A
update f i x j = (if j == i then x else f j)

-- f 0 + f 1 + .. + f (n - 1)
abbrev pub sum_below : (ℕ → ℕ) → ℕ → ℕ
sum_below f zero = 0
sum_below f (suc n) = sum_below f n + f n

-- whether a test says yes of each number below n
abbrev pub each_below : (ℕ → Bool) → ℕ → Bool
each_below test zero = true
each_below test (suc n) = each_below test n && test n

-- each step of a list may be made after those before it, where `next` gives the state after a step
abbrev pub MayAll : {S E : Type 0} → (S → E → S) → (S → E → Type 0) → S → List E → Type 0
MayAll next May s [] = Unit {0}
MayAll next May s (step ∷ steps) = May s step × MayAll next May (next s step) steps

-- whether a mask has bit i
abbrev pub has_bit : ℕ → ℕ → Bool
has_bit mask i = bit_at mask i == 1

-- how often x is in a list
abbrev pub times : ℕ → List ℕ → ℕ
times x xs = count_by (λ y. y == x) xs

-- a bit as a number
abbrev pub weight : Bool → ℕ
weight true = 1
weight false = 0

-- the number whose bit i, for each i below n, is set if the test says yes of i
abbrev pub mask : (ℕ → Bool) → ℕ → ℕ
mask test zero = 0
mask test (suc n) = mask test n + weight (test n) * 2 ^ n

-- of how many numbers below n the test says yes
abbrev pub how_many : (ℕ → Bool) → ℕ → ℕ
how_many test n = sum_below (λ i. weight (test i)) n
