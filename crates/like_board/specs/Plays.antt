-- What the looks of a worker and of the coordinator tell of a phase word, and what each other step tells. The number of a
-- look, a return or a step at a page is in the view after it.
use Rattle.std.specs.Prelude.{◌≡◌, ◌≢◌, ℕ, ◌^◌, ◌<◌, ◌≤◌, true, [], length, slice_index}
use Rattle.like_limits.specs.Limits.{total_bound}
use Rattle.like_core.specs.Post.{added, looked_at, number_of, returned, slots_read, with_mask, with_slot}
use Rattle.like_core.specs.Types.{Coord, CoordLook, CoordSeatView, CoordSight, Look, Opening, Saw, Seen, Sight, View}
use Rattle.like_core.specs.Types.{Worker, WorkerSeatView, WorkerState}
use Rattle.like_core.specs.WorkerState.{IsSightOf, SeesEndingStill, phase_of, seen, turn_of}
use Rattle.like_core.specs.declared.shown.Shown.TheVariants.{Coord as CoordShown}
use Rattle.like_core.specs.views.Actions.{Adds, ComesBack, Counts, ReadsMask}
use Rattle.like_core.specs.views.Views.{counted_coord, looked_coord, slotted_coord}
use Rattle.like_core.specs.views.{Shows.IsEntry, Shows.IsKnown, Shows.IsStep, Sights.coord_sight_in, Sights.sight_in}
use Rattle.like_core.specs.{Additions.added_to, core.Moves.makes, views.Layout.slot_place, word.Forms.form_of}
use Rattle.like_core.specs.{PageSteps.additions_among, Phase.IsSplit, Slots.IsChoice}
use Rattle.like_board.specs.Known.{coord_view_of, worker_view_of}

-- what a worker in this state sees in a phase word of this opening
abbrev pub sight_at : Opening → ℕ → WorkerState → Sight
sight_at z word state = sight_in (form_of z.limits.form) (turn_of state) word

-- what the coordinator sees there
abbrev pub coord_sight_at : Opening → ℕ → CoordSight
coord_sight_at z word = coord_sight_in (form_of z.limits.form) z.workers word

-- the phase that it tells
abbrev pub phase_at : Opening → ℕ → ℕ
phase_at z word = (form_of z.limits.form).phase_in word

-- what a worker's look at this word shows, which has this number
pub record Looked (z : Opening) (found number : ℕ) (v : WorkerSeatView) : Type 0 where
  pub can : IsSightOf v.state (sight_at z found v.state)
  pub within : phase_of (seen v.state (sight_at z found v.state)) ≤ z.limits.last_phase
  pub ending : SeesEndingStill v.state v.last (sight_at z found v.state)
  pub step : let sight = sight_at z found v.state in
      IsEntry z [] (makes (Look v.worker)) (Seen sight) (Saw v.worker sight.number) (Worker v)
      (Worker (looked_at v sight number))

-- what the coordinator's look at this word shows
pub record Surveyed (z : Opening) (found : ℕ) (c : CoordSeatView) : Type 0 where
  pub number : (coord_sight_at z found).number ≡ c.phase
  pub within : c.phase ≤ z.limits.last_phase
  pub ending : (coord_sight_at z found).ending ≡ c.ending
  pub all_in : c.all_in ≡ true → (coord_sight_at z found).all_in ≡ true
  pub gone : IsSplit c.phase → (coord_sight_at z found).all_gone ≡ true → c.gone ≡ true
  pub step : let sight = coord_sight_at z found in
      IsStep z CoordLook (CoordShown sight) (Coord c) (Coord (looked_coord c found sight))

-- what a worker's look tells: of the view before, the word found and the view after
pub record TellsLook (v : View) (found : ℕ) (w : View) : Type 0 where
  pub looked : Looked (worker_view_of v).opening found (number_of (worker_view_of w)) (worker_view_of v)
  pub view : let me = worker_view_of v in
      w ≡ Worker (looked_at me (sight_at me.opening found me.state) (number_of (worker_view_of w)))

-- what the coordinator's look tells
pub record TellsSurvey (v : View) (found : ℕ) (w : View) : Type 0 where
  pub surveyed : Surveyed (coord_view_of v).opening found (coord_view_of v)
  pub view : let me = coord_view_of v in w ≡ Coord (looked_coord me found (coord_sight_at me.opening found))
  pub known : IsKnown (coord_view_of v).opening w

-- what another step of a worker tells: it is this action, and the view after is this
pub record TellsWorker (does : WorkerSeatView → WorkerSeatView → Type 0) (next : WorkerSeatView → WorkerSeatView)
    (v w : View) : Type 0 where
  pub view : w ≡ Worker (next (worker_view_of v))
  pub step : does (worker_view_of v) (next (worker_view_of v))

-- what another step of the coordinator tells
pub record TellsCoord (does : CoordSeatView → CoordSeatView → Type 0) (next : CoordSeatView → CoordSeatView)
    (v w : View) : Type 0 where
  pub view : w ≡ Coord (next (coord_view_of v))
  pub step : does (coord_view_of v) (next (coord_view_of v))

-- a worker came back into this phase: the view after says so, and it is the action
pub record CameBack (phase : ℕ) (v w : View) : Type 0 where
  pub within : phase ≤ (worker_view_of v).opening.limits.last_phase
  pub view : w ≡ Worker (returned (worker_view_of v) phase (number_of (worker_view_of w)))
  pub step : let me = worker_view_of v in ComesBack me (returned me phase (number_of (worker_view_of w)))

-- what the exchange by which a worker comes back tells, where it expected this word and found that one: if they are the
-- same, it came back into the phase that they tell; otherwise nothing changed
pub record TellsReturn (expected : ℕ) (v : View) (found : ℕ) (w : View) : Type 0 where
  pub back : found ≡ expected → CameBack (phase_at (worker_view_of v).opening found) v w
  pub missed : found ≢ expected → w ≡ v

-- what a step on a word tells, where that is the word of something: of a page, or of a slot
abbrev pub OfWord : (ℕ → ℕ) → (ℕ → View → ℕ → View → Type 0) → ℕ → View → ℕ → View → Type 0
OfWord word_for Tells word v found w = (i : ℕ) → word ≡ word_for i → Tells i v found w

-- what an addition of n to a page tells: the view after has it, with the count that it found; the worker's own
-- additions are in that; and it is the action
pub record TellsAdd (page n : ℕ) (v : View) (found : ℕ) (w : View) : Type 0 where
  pub view : w ≡ Worker (added (worker_view_of v) page found n (number_of (worker_view_of w)))
  pub own : added_to page (additions_among (worker_view_of v).did) ≤ found
  pub step : let me = worker_view_of v in
      Adds me page n found (added me page found n (number_of (worker_view_of w)))

-- what a read of a page or a glance tells: the view after has it, with the count that it found; the worker's own
-- additions are in that, and it is within the bound of all counts; and it is the action
pub record TellsRead (does : WorkerSeatView → ℕ → ℕ → WorkerSeatView → Type 0)
    (next : WorkerSeatView → ℕ → ℕ → ℕ → WorkerSeatView) (page : ℕ) (v : View) (found : ℕ) (w : View) : Type 0 where
  pub view : w ≡ Worker (next (worker_view_of v) page found (number_of (worker_view_of w)))
  pub own : added_to page (additions_among (worker_view_of v).did) ≤ found
  pub bounded : found < total_bound
  pub step : let me = worker_view_of v in does me page found (next me page found (number_of (worker_view_of w)))

-- what a read of the mask word tells: the view after has the mask that it found, and it is the action
pub record TellsMask (v : View) (found : ℕ) (w : View) : Type 0 where
  pub view : w ≡ Worker (with_mask (worker_view_of v) found)
  pub step : let me = worker_view_of v in ReadsMask me found (with_mask me found)

-- what a read of a slot's word tells: the view after has the page that it found there, a number of 32 bits
pub record TellsSlot (slot : ℕ) (v : View) (found : ℕ) (w : View) : Type 0 where
  pub view : w ≡ Worker (with_slot (worker_view_of v) slot found)
  pub fits : found < 2 ^ 32

-- what a read of the mask word tells a worker that has read the slots: the view after has the mask of the pages in
-- those that are in use, which are a lawful choice; and it is the action
pub record TellsSlots (v : View) (found : ℕ) (w : View) : Type 0 where
  pub view : let me = worker_view_of v in w ≡ Worker (with_mask me (slots_read me found))
  pub choice : let me = worker_view_of v in
      IsChoice me.opening.factor (length me.opening.marks) (slice_index me.slots) found
  pub step : let me = worker_view_of v in ReadsMask me (slots_read me found) (with_mask me (slots_read me found))

-- what a page that is put into the slot of a word tells: the view after has it there
abbrev pub TellsPutAt : ℕ → ℕ → View → View → Type 0
TellsPutAt word page v w =
    (slot : ℕ) → word ≡ slot_place slot → w ≡ Coord (slotted_coord (coord_view_of v) slot page)

-- what the coordinator's read of a page's count tells: the view after has it, and it is the action
pub record TellsCount (page : ℕ) (v : View) (found : ℕ) (w : View) : Type 0 where
  pub view : w ≡ Coord (counted_coord (coord_view_of v) page found)
  pub known : IsKnown (coord_view_of v).opening w
  pub step : let me = coord_view_of v in Counts me page found (counted_coord me page found)
