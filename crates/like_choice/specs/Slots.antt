-- The slots of a service, and what a choice makes of them.
use Rattle.std.specs.Prelude.{◌≡◌, ℕ, ◌-◌, ◌^◌, ◌<◌, ◌≤◌, ◌⊎◌, true, List, ◌++◌, length, replicate, slice_index, ◌||◌, nat_lt, Bool, filter, map, Contains}
use Rattle.std.specs.List.{list_any, range_with_len}
use Rattle.like_limits.specs.{Buckets.bucket, Limits.hot_pages}
use Rattle.like_core.specs.{Functions.has_bit, Slots.IsChoice}

-- the factor of its buckets; how many pages there are; how many are marked, which are those in the first slots; the
-- page in each slot; and a bit for each slot in use
pub record SlotsView : Type 0 where
  pub factor : ℕ
  pub pages : ℕ
  pub marks : ℕ
  pub slots : List ℕ
  pub bits : ℕ

-- the slots of a new service: only the marked pages have one
abbrev pub new_slots : ℕ → ℕ → List ℕ → SlotsView
new_slots factor pages marks = record {
  factor = factor;
  pages = pages;
  marks = length marks;
  slots = marks ++ replicate (hot_pages - length marks) 0;
  bits = 2 ^ length marks - 1;
}

-- a slot is in use
abbrev pub IsInUse : ℕ → ℕ → Type 0
IsInUse bits slot = (slot < hot_pages) × (has_bit bits slot ≡ true)

-- the page of a slot in use has the same bucket as this one
abbrev pub IsTaken : ℕ → List ℕ → ℕ → ℕ → Type 0
IsTaken factor slots bits page =
    (slot : ℕ) × IsInUse bits slot × (bucket factor (slice_index slots slot) ≡ bucket factor page)

-- all slots are in use
abbrev pub IsFull : ℕ → Type 0
IsFull bits = (slot : ℕ) → slot < hot_pages → has_bit bits slot ≡ true

-- the pages of the slots in use among the first `many`, in order
unfoldable pub pages_below : List ℕ → ℕ → ℕ → List ℕ
pages_below slots bits many = map (slice_index slots) (filter (has_bit bits) (range_with_len 0 many))

-- the pages in the slots in use, in order
abbrev pub pages_in_use : SlotsView → List ℕ
pages_in_use v = pages_below v.slots v.bits hot_pages

-- whether a choice among these pages would leave a slot in use: a page is marked, or one of these is a page of the
-- service
abbrev pub would_use : SlotsView → List ℕ → Bool
would_use v proposed = nat_lt 0 v.marks || list_any (λ page. nat_lt page v.pages) proposed

-- what is always so: the pages in the slots in use are a lawful choice, and the marked ones are in theirs
pub record AreSlots (v : SlotsView) : Type 0 where
  pub choice : IsChoice v.factor v.pages (slice_index v.slots) v.bits
  pub marks : v.marks ≤ hot_pages
  pub marked : (slot : ℕ) → slot < v.marks → has_bit v.bits slot ≡ true
  pub all : length v.slots ≡ hot_pages
  pub below : v.bits < 2 ^ 64

-- a slot keeps its page through a choice
abbrev pub KeepsSlot : SlotsView → SlotsView → ℕ → Type 0
KeepsSlot old new slot =
    (has_bit new.bits slot ≡ true) × (slice_index new.slots slot ≡ slice_index old.slots slot)

-- the page of a slot stayed there, or it is proposed at this place or an earlier one
abbrev pub CameBefore : SlotsView → List ℕ → ℕ → SlotsView → ℕ → Type 0
CameBefore old proposed k new slot =
    ((has_bit old.bits slot ≡ true) × (slice_index new.slots slot ≡ slice_index old.slots slot))
    ⊎ ((j : ℕ) × (j ≤ k) × (slice_index proposed j ≡ slice_index new.slots slot))

-- the page that is proposed at this place is in, or one that came before it has its bucket, or such have all slots
abbrev pub IsServed : SlotsView → List ℕ → ℕ → SlotsView → Type 0
IsServed old proposed k new =
    ((slot : ℕ) × IsInUse new.bits slot
    × (bucket new.factor (slice_index new.slots slot) ≡ bucket new.factor (slice_index proposed k))
    × CameBefore old proposed k new slot)
    ⊎ ((slot : ℕ) → slot < hot_pages → (has_bit new.bits slot ≡ true) × CameBefore old proposed k new slot)

-- what a choice makes of the slots, where these pages are proposed
pub record Chooses (old : SlotsView) (proposed : List ℕ) (new : SlotsView) : Type 0 where
  -- the service is the same
  pub same : (new.factor ≡ old.factor) × (new.pages ≡ old.pages) × (new.marks ≡ old.marks)
  -- a marked page keeps its slot
  pub marked : (slot : ℕ) → slot < old.marks → KeepsSlot old new slot
  -- a page that was in and is proposed again keeps its slot
  pub again : (slot : ℕ) → IsInUse old.bits slot → Contains proposed (slice_index old.slots slot)
      → KeepsSlot old new slot
  -- each page that is in is marked or proposed
  pub asked : (slot : ℕ) → IsInUse new.bits slot
      → (slot < new.marks) ⊎ Contains proposed (slice_index new.slots slot)
  -- a page of the service that is proposed is in, unless one that came before it has its bucket, or such have all slots
  pub left_out : (k : ℕ) → k < length proposed → slice_index proposed k < new.pages → IsServed old proposed k new
