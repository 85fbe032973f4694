-- How a slice is kept: a number for each page, and the set of the pages that have a like.
use Rattle.std.specs.Prelude.{◌≡◌, ℕ, ◌*◌, ◌^◌, ◌<◌, ◌≤◌, List, length, min, slice_index_or, sum}
use Rattle.like_tables.specs.PageSet.{bit_of}

-- just the pages whose number is not 0 are in the set, which has a bit for each page, and the sum is below 2 ^ 63
pub record AreLikedPages (likes pages : List ℕ) : Type 0 where
  pub few : sum likes < 2 ^ 63
  pub room : length likes ≤ 64 * length pages
  pub liked : (page : ℕ) → bit_of pages page ≡ min (slice_index_or likes page 0) 1
