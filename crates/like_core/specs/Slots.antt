-- The slots of a service: 64 places for the pages that are hot in a split phase.
use Rattle.std.specs.Prelude.{◌≡◌, ℕ, zero, suc, ◌^◌, ◌<◌, ◌↔◌, true, bit_or, if◌then◌else◌}
use Rattle.like_limits.specs.{Buckets.bucket, Limits.hot_pages}
use Rattle.like_core.specs.{Functions.has_bit, OpeningLimits.has_slots, Types.Limits}

-- the pages in the slots of a word, as a mask: bit i of the word says that slot i is in use
unfoldable pub mask_of_slots : (ℕ → ℕ) → ℕ → ℕ → ℕ
mask_of_slots slots word zero = 0
mask_of_slots slots word (suc n) =
    bit_or (mask_of_slots slots word n) (if has_bit word n then 2 ^ slots n else 0)

-- the mask that a mask word tells: in a service the mask of the pages in the slots in use, in a run the word itself
abbrev pub mask_by : Limits → (ℕ → ℕ) → ℕ → ℕ
mask_by l slots word = (if has_slots l then mask_of_slots slots word hot_pages else word)

-- a lawful choice: each page in a slot in use exists, and no two of them share a bucket
pub record IsChoice (factor pages : ℕ) (slots : ℕ → ℕ) (word : ℕ) : Type 0 where
  pub there : (i : ℕ) → i < hot_pages → has_bit word i ≡ true → slots i < pages
  pub apart : (i j : ℕ) → i < hot_pages → j < hot_pages → has_bit word i ≡ true → has_bit word j ≡ true
      → bucket factor (slots i) ≡ bucket factor (slots j) → i ≡ j

-- some slot in use, of the first n, holds the page
pub record IsInSlot (slots : ℕ → ℕ) (word n page : ℕ) : Type 0 where
  pub slot : ℕ
  pub below : slot < n
  pub used : has_bit word slot ≡ true
  pub holds : slots slot ≡ page

-- the mask has the bits of exactly those pages
abbrev pub SlotsTell : Type 0
SlotsTell =
    (slots : ℕ → ℕ) (word n page : ℕ)
    → (has_bit (mask_of_slots slots word n) page ≡ true) ↔ IsInSlot slots word n page
