-- Where the words of a board are.
use Rattle.std.specs.Prelude.{ℕ, ◌+◌, ◌-◌, ◌*◌, ◌<◌, ◌≤◌, nat_lt, if◌then◌else◌, List, slice_index}
use Rattle.like_limits.specs.Limits.{hot_pages}

-- the place of the phase word
abbrev pub phase_place : ℕ
phase_place = 0

-- the place of the mask word
abbrev pub mask_place : ℕ
mask_place = 16

-- the place of a slot's word: the 64 slots' words follow one after the other
abbrev pub slot_place : ℕ → ℕ
slot_place slot = 32 + slot

-- what a slot holds on a board with these words
abbrev pub slot_in : List ℕ → ℕ → ℕ
slot_in words slot = slice_index words (slot_place slot)

-- the place of a page's word: the words of the first 64 pages are 16 words, or 128 bytes, apart, and the others follow
-- one after the other
unfoldable pub word_of : ℕ → ℕ
word_of page = (if nat_lt page 64 then 16 * (page + 6) else 16 * 70 + (page - 64))

-- no two words share a place, and the phase word, the mask word and the words of the first 64 pages have 16 places each
pub record WordsStandApart : Type 0 where
  pub mask : phase_place + 16 ≤ mask_place
  pub slots : (slot : ℕ) → mask_place + 16 ≤ slot_place slot
  pub slot_order : (slot later : ℕ) → slot < later → slot_place slot < slot_place later
  pub pages : (slot page : ℕ) → slot < hot_pages → slot_place slot < word_of page
  pub order : (page later : ℕ) → page < later → word_of page < word_of later
  pub apart : (page later : ℕ) → page < later → page < 64 → word_of page + 16 ≤ word_of later
