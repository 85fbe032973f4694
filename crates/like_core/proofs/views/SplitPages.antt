-- Which pages are split at a moment of a board.
use Rattle.std.proofs.Common.{◌≡◌, ℕ, ◌%◌, ◌<◌, ◌==◌, ◌&&◌, ◌||◌, nat_lt, inl, Bool, true, false, slice_index, ap, sym, ◌∙◌, refl, eq-eqb, arith}
use Rattle.std.proofs.lemmas.Bool.{lt-ltb}
use Rattle.like_limits.specs.Limits.{hot_pages}
use Rattle.like_core.specs.declared.worker_state.WorkerState.{WorkerState}
use Rattle.like_core.specs.declared.worker_state.WorkerState.TheVariants.{Runs, Answered, Gone}
use Rattle.like_core.specs.declared.opening.Opening.{Opening}
use Rattle.like_core.specs.declared.view.WorkerSeatView.{WorkerSeatView}
use Rattle.like_core.specs.declared.view.View.TheVariants.{Worker}
use Rattle.like_core.specs.Functions.{has_bit}
use Rattle.like_core.specs.Phase.{IsSplit, is_marked, split_by}
use Rattle.like_core.specs.Slots.{mask_of_slots}
use Rattle.like_core.specs.WorkerState.{IsRunning, phase_of}
use Rattle.like_core.specs.core.State.{CoreState, is_split_now}
use Rattle.like_core.specs.views.Layout.{mask_place, slot_in}
use Rattle.like_core.specs.views.Shows.{FitsWorker, Moment}
use Rattle.like_core.specs.views.SplitPages.{SlotsAreExact, SplitPagesAgree}
use Rattle.like_core.proofs.PhaseMasks.{split-known}
use Rattle.like_core.proofs.Slots.{mask_by-slots, slots_tell}
use Rattle.like_core.proofs.core.Moved.{moved_in_phase}

-- an unmarked page that may be hot is split in a split phase just where its bit is set
unmarked : (bound phase page mask : ℕ) (marked : ℕ → Bool)
    → IsSplit phase
    → page < bound
    → marked page ≡ false
    → split_by bound marked (λ _. mask) phase page ≡ has_bit mask page
unmarked bound phase page mask marked odd below none =
    let is_odd : (phase % 2 == 1) ≡ true = eq-eqb (phase % 2) 1 odd in
    let is_below : nat_lt page bound ≡ true = lt-ltb page bound below in
    λ m. is_odd m && (none m || (is_below m && has_bit mask page))

pub slots_are_exact : SlotsAreExact
slots_are_exact z m slotted odd =
    let s : CoreState = m.shown.state in
    let word : ℕ = slice_index m.words mask_place in
    let slots : ℕ → ℕ = slot_in m.words in
    let mask : s.hot s.phase ≡ mask_of_slots slots word hot_pages =
    sym (m.shown.shows.board.mask (inl odd)) ∙ mask_by-slots z.limits slots word slotted
    in
    let limits = m.shown.shows.opening.limits in
    let wide = limits.slotted slotted in
    let few = m.shown.shows.opening.few_pages in
    record {
      choice = m.shown.shows.board.chosen (inl odd) slotted;
      split = λ page there none.
          let bit : is_split_now z s page ≡ has_bit (mask_of_slots slots word hot_pages) page =
          unmarked z.limits.hot s.phase page (s.hot s.phase) (is_marked z.marks) odd (omega arith) none
          ∙ ap (λ n. has_bit n page) mask
          in
          let tells = slots_tell slots word hot_pages page in
          (λ is. tells.0 (sym bit ∙ is), λ known. bit ∙ tells.1 known);
    }

-- who runs a phase runs the present one
runs_present : (z : Opening) (m : Moment z) (v : WorkerSeatView) (state : WorkerState)
    → v.state ≡ state
    → FitsWorker z m.shown.state v
    → IsRunning state
    → phase_of state ≡ m.shown.state.phase
runs_present z m v (Runs j) is f running = (moved_in_phase z m.shown.state m.shown.reachable).runs v.worker j (f.state ∙ is)
runs_present z m v (Answered j) is f running = absurd running
runs_present z m v Gone is f running = absurd running

pub split_pages_agree : SplitPagesAgree
split_pages_agree z m place v page here running knows =
    let f : FitsWorker z m.shown.state v = m.shown.shows.seats.each place (Worker v) here in
    let present = runs_present z m v v.state refl f running in
    sym (split-known v.opening.limits.hot (is_marked v.opening.marks) m.shown.state.hot v.masks (phase_of v.state) page
    (λ i d inside. (f.masks i d inside).1) knows)
    ∙ (λ k. split_by (f.opening k).limits.hot (is_marked (f.opening k).marks) m.shown.state.hot (present k) page)
