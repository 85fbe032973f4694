-- The buckets of a seat's table, where it looks up whether a page is split.
use Rattle.std.specs.Prelude.{◌≡◌, ℕ, ◌*◌, ◌/◌, ◌%◌, ◌^◌, ◌<◌, List, length, slice_index}

-- how many there are
abbrev pub buckets : ℕ
buckets = 1024

-- the bucket of a page, by the factor that an opening chose
abbrev pub bucket : ℕ → ℕ → ℕ
bucket factor page = page * factor % 2 ^ 32 / 2 ^ 22

-- no two of these pages share a bucket
abbrev pub AreApart : ℕ → List ℕ → Type 0
AreApart factor pages =
    (i j : ℕ) → i < length pages → j < length pages
    → bucket factor (slice_index pages i) ≡ bucket factor (slice_index pages j) → i ≡ j

-- the factor of a run: with it, page i has bucket i
abbrev pub run_factor : ℕ
run_factor = 2 ^ 22
