-- Which pages are split at a moment of a board.
use Rattle.std.specs.Prelude.{◌≡◌, ℕ, ◌<◌, ◌↔◌, true, false, length, slice_index}
use lib.ListN.{get_elem?}
use mathlib.Core.Option.{some}
use Rattle.like_limits.specs.Limits.{hot_pages}
use Rattle.like_core.specs.views.Layout.{mask_place, slot_in}
use Rattle.like_core.specs.{OpeningLimits.has_slots, Phase.IsSplit, Phase.is_marked, Post.KnowsSplit, Post.is_split_at}
use Rattle.like_core.specs.{Slots.IsChoice, Slots.IsInSlot, Types.Opening, Types.Worker, Types.WorkerSeatView}
use Rattle.like_core.specs.{WorkerState.IsRunning, core.State.is_split_now, views.Shows.Moment}

-- the choice in the slots is lawful, and an unmarked page is split just where a slot in use holds it
pub record AreExact (z : Opening) (m : Moment z) : Type 0 where
  pub choice : IsChoice z.factor (length z.counts) (slot_in m.words) (slice_index m.words mask_place)
  pub split : (page : ℕ) → page < length z.counts → is_marked z.marks page ≡ false
      → (is_split_now z m.shown.state page ≡ true)
      ↔ IsInSlot (slot_in m.words) (slice_index m.words mask_place) hot_pages page

-- at each moment of a split phase of a service the slots are exact
abbrev pub SlotsAreExact : Type 0
SlotsAreExact =
    (z : Opening) (m : Moment z) → has_slots z.limits ≡ true → IsSplit m.shown.state.phase → AreExact z m

-- at each moment, a page is split at a worker that runs a phase, and knows whether it is, just if it is split then
abbrev pub SplitPagesAgree : Type 0
SplitPagesAgree =
    (z : Opening) (m : Moment z) (place : ℕ) (v : WorkerSeatView) (page : ℕ)
    → get_elem? m.views place ≡ some (Worker v) → IsRunning v.state → KnowsSplit v page
    → is_split_at v page ≡ is_split_now z m.shown.state page
