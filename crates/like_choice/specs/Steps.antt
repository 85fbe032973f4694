-- The steps of a choice: which slots stay in use, and how pages are put into free ones.
use Rattle.std.specs.Prelude.{◌≡◌, ℕ, ◌<◌, ◌≤◌, ◌==◌, ◌&&◌, ◌||◌, ◌⊎◌, nat_lt, Bool, true, List, length, slice_index, Contains}
use Rattle.std.specs.List.{list_any}
use Rattle.like_limits.specs.{Buckets.bucket, Limits.hot_pages}
use Rattle.like_core.specs.{Functions.has_bit, Slots.IsChoice}
use Rattle.like_choice.specs.Slots.{IsInUse}

-- whether a slot stays in use: it is a marked page's, or its page is proposed again
abbrev pub stays : List ℕ → ℕ → ℕ → List ℕ → ℕ → Bool
stays slots bits marks proposed slot =
    has_bit bits slot && (nat_lt slot marks || list_any (λ page. page == slice_index slots slot) proposed)

-- the slots in use stay, with their pages
abbrev pub StayInUse : List ℕ → ℕ → List ℕ → ℕ → Type 0
StayInUse slots bits after bits_after = (slot : ℕ) → IsInUse bits slot
    → (has_bit bits_after slot ≡ true) × (slice_index after slot ≡ slice_index slots slot)

-- the page of a slot was there before, or is on the list at this place or an earlier one
abbrev pub CameBy : List ℕ → ℕ → ℕ → List ℕ → ℕ → Type 0
CameBy proposed k bits slots slot =
    (has_bit bits slot ≡ true) ⊎ ((j : ℕ) × (j ≤ k) × (slice_index proposed j ≡ slice_index slots slot))

-- the page at this place of the list is in, or one that came before it has its bucket, or such have all slots
abbrev pub IsServedBy : ℕ → List ℕ → ℕ → ℕ → List ℕ → ℕ → Type 0
IsServedBy factor proposed k bits after bits_after =
    ((slot : ℕ) × IsInUse bits_after slot
    × (bucket factor (slice_index after slot) ≡ bucket factor (slice_index proposed k))
    × CameBy proposed k bits after slot)
    ⊎ ((slot : ℕ) → slot < hot_pages → (has_bit bits_after slot ≡ true) × CameBy proposed k bits after slot)

-- pages of this list are put into free slots: where the choice was lawful, it is
pub record Fills (factor pages : ℕ) (proposed slots : List ℕ) (bits : ℕ) (after : List ℕ) (bits_after : ℕ)
    : Type 0 where
  pub stay : StayInUse slots bits after bits_after
  pub asked : (slot : ℕ) → IsInUse bits_after slot
      → (has_bit bits slot ≡ true) ⊎ Contains proposed (slice_index after slot)
  pub lawful : IsChoice factor pages (slice_index slots) bits → IsChoice factor pages (slice_index after) bits_after
  pub left_out : (k : ℕ) → k < length proposed → slice_index proposed k < pages
      → IsServedBy factor proposed k bits after bits_after
