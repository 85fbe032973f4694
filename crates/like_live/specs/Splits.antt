-- Which pages are split in a service, and which are proposed for the next split phase.
use Rattle.std.specs.Prelude.{◌≡◌, ◌≢◌, ◌⊎◌, false, IsSomeAnd, ℕ, ◌-◌, ◌%◌, ◌<◌, ◌≤◌, ◌==◌, if◌then◌else◌, Bool, List, [], length, replicate, slice_index}
use Rattle.like_limits.specs.Limits.{hot_pages}
use Rattle.like_core.specs.{PhaseMasks.mask_of, Slots.IsInSlot, Slots.mask_of_slots, Types.CoordSeatView}
use Rattle.like_choice.specs.Slots.{AreSlots, SlotsView, new_slots, would_use}

-- the slots of the present or last split phase; the pages that its choice is told to propose, and whether it may find
-- others, while it is told none; those that are proposed for the next one, the most popular first; and what the slots of
-- the board hold
pub record SplitsView : Type 0 where
  pub slots : SlotsView
  pub told : List ℕ
  pub finds : Bool
  pub proposed : List ℕ
  pub held : List ℕ

-- the split pages of a new service: the marked pages have slots, none is proposed, and the board's slots hold zeros
abbrev pub new_splits : ℕ → ℕ → List ℕ → List ℕ → Bool → SplitsView
new_splits factor pages marks told finds = record {
  slots = new_slots factor pages marks;
  told = told;
  finds = finds;
  proposed = [];
  held = replicate hot_pages 0;
}

-- whether something would be split in the next split phase: a page is marked, or a page of the service is proposed
abbrev pub would_split : SplitsView → Bool
would_split s = would_use s.slots s.proposed

-- the last look showed the phase running: its end isn't announced
abbrev pub SawRunning : CoordSeatView → Type 0
SawRunning c = IsSomeAnd c.last (λ sight. sight.ending ≡ false)

-- the driver's choice was asked: if it is told which pages to propose, or may find none, these are proposed now
pub record Proposes (s after : SplitsView) : Type 0 where
  pub told : (s.told ≢ []) ⊎ (s.finds ≡ false) → after.proposed ≡ s.told
  pub rest : after ≡ record s { proposed = after.proposed }

-- a slot in use holds the page
abbrev pub IsSlotted : SlotsView → ℕ → Type 0
IsSlotted s page = IsInSlot (slice_index s.slots) s.bits hot_pages page

-- the mask of the pages in the slots in use
abbrev pub slots_mask : SlotsView → ℕ
slots_mask s = mask_of_slots (slice_index s.slots) s.bits hot_pages

-- the present split phase, or the last one
abbrev pub last_split : ℕ → ℕ
last_split phase = (if phase % 2 == 1 then phase else phase - 1)

-- the slots are lawful ones of a board's pages, and the board holds what the driver has put there. The present or last
-- split phase was released with exactly the pages in them
pub record AreSplitsOf (c : CoordSeatView) (s : SplitsView) : Type 0 where
  pub lawful : AreSlots s.slots
  pub factor : s.slots.factor ≡ c.opening.factor
  pub pages : s.slots.pages ≡ length c.opening.counts
  pub held : s.held ≡ c.slots
  pub all : length s.held ≡ hot_pages
  pub released : 1 ≤ c.phase → mask_of c.masks (last_split c.phase) ≡ slots_mask s.slots

-- the marked pages keep their slots
pub record KeepsMarked (s after : SlotsView) : Type 0 where
  pub marks : after.marks ≡ s.marks
  pub slots : (slot : ℕ) → slot < s.marks → slice_index after.slots slot ≡ slice_index s.slots slot
