-- The pages in a driver's slots are those that its seats slice.
use Rattle.std.proofs.Common.{◌≡◌, ℕ, ◌-◌, ◌%◌, ◌<◌, ◌≤◌, ◌==◌, ◌&&◌, ◌||◌, nat_lt, Bool, true, false, List, length, replicate, get_or, ap, sym, ◌∙◌, subst, arith}
use Rattle.std.proofs.lemmas.Bool.{eq-eqb, lt-ltb}
use Rattle.std.proofs.lemmas.List.{get_or-replicate, get_or_append_left, get_or_default}
use mathlib.Core.Option.{some}
use lib.ListN.{get_elem?}
use Rattle.like_core.specs.declared.opening.Opening.{Opening}
use Rattle.like_core.specs.declared.limits.Limits.{Limits}
use Rattle.like_core.specs.declared.view.CoordSeatView.{CoordSeatView}
use Rattle.like_core.specs.declared.view.View.TheVariants.{Coord}
use Rattle.like_core.specs.declared.worker_state.WorkerState.{WorkerState}
use Rattle.like_core.specs.declared.worker_state.WorkerState.TheVariants as state
use Rattle.like_core.specs.Functions.{has_bit}
use Rattle.like_core.specs.OpeningLimits.{service_limits}
use Rattle.like_core.specs.Phase.{IsSplit, is_marked, split_by}
use Rattle.like_core.specs.PhaseMasks.{mask_of}
use Rattle.like_core.specs.Post.{KnowsSplit, is_split_at}
use Rattle.like_core.specs.WorkerState.{IsRunning, RunsSplit}
use Rattle.like_core.specs.views.Shows.{FitsCoord, Moment}
use Rattle.like_core.proofs.Slots.{slots_tell}
use Rattle.like_core.proofs.core.Moved.{reached_is_exclusive}
use Rattle.like_core.proofs.views.SplitPages.{split_pages_agree}
use Rattle.like_seat.proofs.Moments.{state_at}
use Rattle.like_limits.specs.Limits.{hot_pages}
use Rattle.like_choice.specs.Slots.{SlotsView}
use Rattle.like_live.specs.Driver.{DriverView, IsService}
use Rattle.like_live.specs.Moments.{MarkedKeepSlots, SplitPagesAreSlots}
use Rattle.like_live.specs.Splits.{slots_mask}
use Rattle.like_live.proofs.Moments.{split-now}
use Rattle.like_live.proofs.Turning.{last-split}

-- who runs a split phase runs a phase
running : (of : WorkerState) → RunsSplit of → IsRunning of
running (state.Runs phase) split = tt
running (state.Answered phase) split = absurd split
running state.Gone split = absurd split

-- the mask of a split phase is that of the driver's slots
mask-slots : (z : Opening) (m : Moment z) (v : DriverView)
    → get_elem? m.views 0 ≡ some (Coord v.lead.seat)
    → IsService v
    → IsSplit m.shown.state.phase
    → m.shown.state.hot m.shown.state.phase ≡ slots_mask v.splits.slots
mask-slots z m v driver service odd =
    let c : CoordSeatView = v.lead.seat in
    let fits : FitsCoord z m.shown.state c = m.shown.shows.seats.each 0 (Coord c) driver in
    let present : c.phase ≡ m.shown.state.phase = fits.phase.present in
    let split : IsSplit c.phase = subst IsSplit (sym present) odd in
    let past : 1 ≤ c.phase = omega (arith, split) in
    sym (fits.choice.masks m.shown.state.phase)
    ∙ ap (mask_of c.masks) (sym present ∙ sym (last-split c.phase split))
    ∙ service.splits.released past

-- a page of a board without marks is split in a split phase just where its bit is set
plain-split : (limits : Limits) (phase page many : ℕ) (hot : ℕ → ℕ)
    → limits ≡ service_limits
    → IsSplit phase
    → page < many
    → many ≤ service_limits.hot
    → split_by limits.hot (is_marked (replicate many false)) hot phase page ≡ has_bit (hot phase) page
plain-split limits phase page many hot is odd below few =
    let is_odd : (phase % 2 == 1) ≡ true = eq-eqb (phase % 2) 1 odd in
    let none : is_marked (replicate many false) page ≡ false = get_or-replicate many page false false below in
    let hot_is : limits.hot ≡ service_limits.hot = ap (λ (l : Limits). l.hot) is in
    let is_below : nat_lt page limits.hot ≡ true = lt-ltb page limits.hot (omega (arith, hot_is, below, few)) in
    λ m. is_odd m && (none m || (is_below m && has_bit (hot phase) page))

pub split_pages_are_slots : SplitPagesAreSlots
split_pages_are_slots z m v s driver service at station split page there =
    let c : CoordSeatView = v.lead.seat in
    let fits : FitsCoord z m.shown.state c = m.shown.shows.seats.each 0 (Coord c) driver in
    let opening : c.opening ≡ z = fits.seats.opening in
    let limits : z.limits ≡ service_limits = sym (ap (λ (o : Opening). o.limits) opening) ∙ service.limits in
    let plain : z.marks ≡ replicate (length z.counts) false =
    subst (λ (o : Opening). o.marks ≡ replicate (length o.counts) false) opening service.plain in
    let few : length z.counts ≤ service_limits.pages =
    subst (λ (o : Opening). length o.counts ≤ service_limits.pages) opening service.few_pages in
    let p = (reached_is_exclusive z m.shown.state m.shown.reachable).1 in
    let is = state_at z m s.station.post at in
    let odd : IsSplit m.shown.state.phase = split-now z m.shown.state s.station.post.worker _ p is split in
    let knows : KnowsSplit s.station.post page = λ _ _ _. station.masked split in
    let same : is_split_at s.station.post page ≡ has_bit (slots_mask v.splits.slots) page =
    split_pages_agree z m at.place s.station.post page at.there (running s.station.post.state split) knows
    ∙ ap (λ (marks : List Bool). split_by z.limits.hot (is_marked marks) m.shown.state.hot m.shown.state.phase page) plain
    ∙ plain-split z.limits m.shown.state.phase page (length z.counts) m.shown.state.hot limits odd there few
    ∙ ap (λ n. has_bit n page) (mask-slots z m v driver service odd) in
    let tells = slots_tell (λ i. get_or v.splits.slots.slots i 0) v.splits.slots.bits 64 page in
    (λ is. tells.0 (sym same ∙ is), λ is. same ∙ tells.1 is)

pub marked_keep_slots : MarkedKeepSlots
marked_keep_slots o factor board told finds v same service page there =
    let marks : List ℕ = o.marks.items in
    let slots : SlotsView = v.splits.slots in
    let k : ℕ = there.0 in
    let below : k < length marks = there.1 in
    let many : slots.marks ≡ length marks = same.marked.marks in
    let lawful = service.splits.lawful in
    let holds : get_or slots.slots k 0 ≡ page =
    same.marked.slots k below ∙ get_or_append_left marks (replicate (hot_pages - length marks) 0) 0 k below
    ∙ get_or_default marks k 0 page below ∙ there.2 in
    record {
      slot = k;
      below = omega (arith, below, many, lawful.marks);
      used = lawful.marked k (omega (arith, below, many));
      holds = holds;
    }
