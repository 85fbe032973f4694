-- While a service still runs, all that its seats have done so far is in one order.
use Rattle.std.proofs.Common.{◌≡◌, ℕ, map, get_or, sym, subst}
use Rattle.std.specs.List.{All}
use Rattle.like_core.specs.declared.opening.Opening.{Opening}
use Rattle.like_core.specs.declared.view.WorkerSeatView.{WorkerSeatView}
use Rattle.like_core.specs.declared.worker_state.WorkerState.{WorkerState}
use Rattle.like_core.specs.declared.worker_state.WorkerState.TheVariants as state
use Rattle.like_core.specs.PhaseMasks.{AreMasksOf}
use Rattle.like_core.specs.WorkerState.{RunsSplit, phase_of}
use Rattle.like_core.specs.core.Exclusive.{IsInPhase}
use Rattle.like_core.specs.core.State.{CoreState}
use Rattle.like_core.specs.views.PostOrder.{IsOrderOf}
use Rattle.like_core.specs.views.Posts.{posts_of}
use Rattle.like_core.proofs.core.Moved.{reached_is_exclusive}
use Rattle.like_core.proofs.views.Ordered.{all_fit, moments_are_ordered}
use Rattle.like_live.specs.Opening.{board_opening}
use Rattle.like_live.specs.StrictService.{MomentsAreStrict, MomentsFitEarlier, SeatHistory, deeds_in}
use Rattle.like_live.proofs.Closing.{all-of-map, post_at}
use Rattle.like_live.proofs.Earlier.{deeds_fit_earlier}
use Rattle.like_live.proofs.OneThread.{in_one_order}

-- a worker that runs a split phase runs the present one
runs_present : (z : Opening) (s : CoreState) (i : ℕ) (of : WorkerState) → IsInPhase z s → s.state i ≡ of → RunsSplit of
    → phase_of of ≡ s.phase
runs_present z s i (state.Runs phase) p is runs = p.runs i phase is
runs_present z s i (state.Answered phase) p is runs = absurd runs
runs_present z s i state.Gone p is runs = absurd runs

pub moments_are_strict : MomentsAreStrict
moments_are_strict o factor board hs m opened at =
    let z = board_opening o factor in
    let s = m.shown.state in
    let ends = map (λ (h : SeatHistory). h.last) hs in
    let views = posts_of m.views in
    let HasMasks : WorkerSeatView → Type 0 = λ p. AreMasksOf s.hot p.masks in
    let IsPresent : WorkerSeatView → Type 0 = λ p. RunsSplit p.state → phase_of p.state ≡ s.phase in
    let masks : All HasMasks views =
    (λ k d below. let fits = all_fit z m k d below in λ i e inside. (fits.masks i e inside).1) in
    let present : All IsPresent views =
    (λ k d below. let p = get_or views k d in let fits = all_fit z m k d below in
    runs_present z s p.worker p.state (reached_is_exclusive z s m.shown.reachable).1 fits.state) in
    let one = in_one_order o hs (record {
      factor = factor;
      board = board;
      masks = s.hot;
      phase = s.phase;
      log = m.shown.log;
      opened = opened;
      right = all-of-map HasMasks post_at ends (subst (All HasMasks) (sym at) masks);
      present = all-of-map IsPresent post_at ends (subst (All IsPresent) (sym at) present);
      order = subst (λ posts. IsOrderOf (λ page. get_or z.counts page 0) s.phase posts m.shown.log) (sym at)
          (moments_are_ordered z m);
    }) in
    (one.0, one.1.0, one.1.1)

pub moments_fit_earlier : MomentsFitEarlier
moments_fit_earlier o factor board hs m opened at =
    let strict = moments_are_strict o factor board hs m opened at in
    deeds_fit_earlier o (map deeds_in hs) strict.0 strict.1
