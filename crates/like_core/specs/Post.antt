-- A post, as contracts see it: what its worker's seat knows, and what each of its calls makes of that.
use Rattle.std.specs.Prelude.{◌≡◌, ℕ, ◌+◌, ◌<◌, ◌≤◌, Bool, true, false, [], ◌∷◌, ◌++◌, length, take, slice_index, Some, None}
use Rattle.like_limits.specs.Limits.{hot_pages}
use Rattle.like_core.specs.Additions.{added_in, added_to, all_added}
use Rattle.like_core.specs.PageSteps.{additions_among, look_after, page_step}
use Rattle.like_core.specs.Types.{Add, Answered, Did, Glance, Gone, Opening, PageCall, Read, Runs, Saw, Sight}
use Rattle.like_core.specs.Types.{WorkerSeatView}
use Rattle.like_core.specs.WorkerState.{IsRunning, RunsSplit, SawEnding, phase_of, running_sight, seen}
use Rattle.like_core.specs.{Log.latest_number, Log.numbered, OpeningLimits.has_slots, Phase.IsSplit, Phase.is_marked}
use Rattle.like_core.specs.{Phase.split_by, PhaseMasks.HasMask, PhaseMasks.mask_of, Slots.mask_of_slots}

-- a worker's view before its seat made a step: it runs phase 0, and did nothing yet
abbrev pub fresh : Opening → ℕ → WorkerSeatView
fresh z worker = record {
  opening = z;
  worker = worker;
  state = Runs 0;
  last = None;
  looks = [];
  did = [];
  logged = [];
  masks = [];
  slots = [];
}

-- no call was made on the post yet
abbrev pub IsFresh : WorkerSeatView → Type 0
IsFresh v = v ≡ fresh v.opening v.worker

-- the number of its latest entry in the board's log
abbrev pub number_of : WorkerSeatView → ℕ
number_of v = latest_number v.logged

-- how many pages there are
abbrev pub pages_of : WorkerSeatView → ℕ
pages_of v = length v.opening.marks

-- how much was added to a page
abbrev pub additions_of : WorkerSeatView → ℕ → ℕ
additions_of v page = added_to page (additions_among v.did)

-- how much of it in one phase
abbrev pub additions_in : WorkerSeatView → ℕ → ℕ → ℕ
additions_in v phase page = added_in phase page (additions_among v.did)

-- whether the page is split in the post's phase
abbrev pub is_split_at : WorkerSeatView → ℕ → Bool
is_split_at v page = split_by v.opening.limits.hot (is_marked v.opening.marks) (mask_of v.masks) (phase_of v.state) page

-- the post knows whether the page is split: an unmarked page that may be hot may be so in a split phase, so there the
-- post has read the phase's mask
abbrev pub KnowsSplit : WorkerSeatView → ℕ → Type 0
KnowsSplit v page =
    IsSplit (phase_of v.state) → is_marked v.opening.marks page ≡ false → page < v.opening.limits.hot
    → HasMask (phase_of v.state) v.masks

-- the post after a look, which has this number. Like each step on the phase word, it forgets the slots that were read
abbrev pub looked_at : WorkerSeatView → Sight → ℕ → WorkerSeatView
looked_at v sight number = record v {
  state = seen v.state sight;
  last = Some sight;
  looks = v.looks ++ look_after sight v.did ∷ [];
  logged = numbered number (Saw v.worker sight.number) ∷ v.logged;
  slots = [];
}

-- the post after an acknowledgement or a report
abbrev pub answered : WorkerSeatView → WorkerSeatView
answered v = record v { state = Answered (phase_of v.state); slots = [] }

-- the post after it retired
abbrev pub retired : WorkerSeatView → WorkerSeatView
retired v = record v { state = Gone; slots = [] }

-- the post after it came back, into this phase, which it saw running; that has this number, like a look
abbrev pub returned : WorkerSeatView → ℕ → ℕ → WorkerSeatView
returned v phase number = record (looked_at v (running_sight phase) number) { state = Runs phase }

-- the post after it did this at a page, whose count was `found` before; the step has this number
abbrev pub stepped : WorkerSeatView → ℕ → ℕ → PageCall → ℕ → WorkerSeatView
stepped v page found call number = record v {
  did = page_step v.worker (phase_of v.state) page found call ∷ v.did;
  logged = numbered number (Did (page_step v.worker (phase_of v.state) page found call)) ∷ v.logged;
}

-- after it added n to the count, read it, or glanced at it
abbrev pub added : WorkerSeatView → ℕ → ℕ → ℕ → ℕ → WorkerSeatView
added v page old n number = stepped v page old (Add n) number

abbrev pub has_read : WorkerSeatView → ℕ → ℕ → ℕ → WorkerSeatView
has_read v page count number = stepped v page count Read number

abbrev pub has_glanced : WorkerSeatView → ℕ → ℕ → ℕ → WorkerSeatView
has_glanced v page count number = stepped v page count Glance number

-- the post after it read the mask of its phase's hot pages, which was this. The slots have told what they had to tell
abbrev pub with_mask : WorkerSeatView → ℕ → WorkerSeatView
with_mask v mask = record v { masks = record { phase = phase_of v.state; mask = mask } ∷ v.masks; slots = [] }

-- the post after it read a slot, which holds this page: it begins anew with slot 0
abbrev pub with_slot : WorkerSeatView → ℕ → ℕ → WorkerSeatView
with_slot v slot page = record v { slots = take slot v.slots ++ page ∷ [] }

-- the mask of the pages in the slots that it read, where this word says which are in use
abbrev pub slots_read : WorkerSeatView → ℕ → ℕ
slots_read v bits = mask_of_slots (slice_index v.slots) bits hot_pages

-- n likes may be added to the page: 1 if it isn't split; if it is, some, once the end of the phase was seen
pub record MayAdd (v : WorkerSeatView) (page n : ℕ) : Type 0 where
  pub runs : IsRunning v.state
  pub there : page < pages_of v
  pub known : KnowsSplit v page
  -- a page that is not split gets one like
  pub like : is_split_at v page ≡ false → n ≡ 1
  -- a slice has likes, and is merged once the end of the phase was seen
  pub merge : is_split_at v page ≡ true → (1 ≤ n) × SawEnding v.last
  -- all additions of the post together stay within the likes of a worker
  pub few : all_added (additions_among v.did) + n ≤ v.opening.limits.likes

-- the page may be read: it is not split
pub record MayRead (v : WorkerSeatView) (page : ℕ) : Type 0 where
  pub runs : IsRunning v.state
  pub there : page < pages_of v
  pub known : KnowsSplit v page
  pub plain : is_split_at v page ≡ false

-- the page may be glanced at: it is split
pub record MayGlance (v : WorkerSeatView) (page : ℕ) : Type 0 where
  pub runs : IsRunning v.state
  pub there : page < pages_of v
  pub known : KnowsSplit v page
  pub split : is_split_at v page ≡ true

-- a slot may be read: the post runs a split phase of a service, and has read those before it
pub record MayReadSlot (v : WorkerSeatView) (slot : ℕ) : Type 0 where
  pub split : RunsSplit v.state
  pub slotted : has_slots v.opening.limits ≡ true
  pub there : slot < hot_pages
  pub next : slot ≤ length v.slots

-- it may be read which of them are in use: all were read
pub record MayReadSlots (v : WorkerSeatView) : Type 0 where
  pub split : RunsSplit v.state
  pub slotted : has_slots v.opening.limits ≡ true
  pub all : length v.slots ≡ hot_pages
