-- The factor of a service's buckets.
use Rattle.std.specs.Prelude.{◌≡◌, ℕ, ◌+◌, ◌*◌, ◌%◌, ◌^◌, ◌<◌, ◌≤◌, List}
use Rattle.like_limits.specs.Buckets.{AreApart}

-- how many factors are tried
abbrev pub max_tries : ℕ
max_tries = 1000

-- the factors, in the order in which they are tried
abbrev pub factor_at : ℕ → ℕ
factor_at n = 2654435769 + 1640534 * n

-- with each of the first `tries` factors two of these pages share a bucket
abbrev pub NoneParts : List ℕ → ℕ → Type 0
NoneParts pages tries = (n : ℕ) → n < tries → ¬ AreApart (factor_at n) pages

-- the factor is the first of all with which no two of these pages share a bucket. It is odd, and page 1 isn't in bucket
-- 0
pub record IsFirstApart (pages : List ℕ) (factor : ℕ) : Type 0 where
  pub apart : AreApart factor pages
  pub odd : factor % 2 ≡ 1
  pub least : 2 ^ 22 ≤ factor
  pub first : (n : ℕ) × (n < max_tries × (factor ≡ factor_at n) × NoneParts pages n)
