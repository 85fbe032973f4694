-- The calls of all seats of a closed service are those of one thread, in which snapshots stand.
use Rattle.std.proofs.Common.{◌≡◌, ℕ, ◌+◌, ◌==◌, ◌≤◌, nat_lt, List, [], filter, map, get_or, ap, sym, ◌∙◌, subst}
use Rattle.std.proofs.lemmas.List.{get_or_default}
use Rattle.std.proofs.lemmas.List.Kept.{AllPairs-filter}
use Rattle.std.specs.List.{AllPairs}
use Rattle.like_core.specs.declared.opening.Opening.{Opening as CoreOpening}
use Rattle.like_core.specs.Additions.{added_before}
use Rattle.like_core.specs.views.PostOrder.{IsOrderOf}
use Rattle.like_core.specs.PageSteps.{additions_among}
use Rattle.like_core.specs.PhaseMasks.{AreMasksOf, mask_of}
use Rattle.like_core.specs.WorkerState.{RunsSplit}
use Rattle.like_core.specs.views.Posts.{posts_before}
use Rattle.like_core.specs.declared.view.WorkerSeatView.{WorkerSeatView}
use Rattle.like_requests.specs.Verdict.{home}
use Rattle.like_live.specs.declared.opening.Opening.{Opening}
use Rattle.like_live.specs.Driver.{DriverView, IsSameDriver}
use Rattle.like_live.specs.Opening.{board_opening}
use Rattle.like_live.specs.Service.{AreGone, AreOpened, IsClosedService, posts_at}
use Rattle.like_live.specs.Deeds.{Deed}
use Rattle.like_live.specs.StrictService.{HasLastLikes, IsStrictService, SeatHistory, SeatsRise, SnapshotsStand, deeds_in, opened as store_opened}
use Rattle.like_core.proofs.Lists.{sum-of-map}
use Rattle.like_live.proofs.Closing.{all-of-map, post_at}
use Rattle.like_live.proofs.DeedLikes.{count_is}
use Rattle.like_live.proofs.SeatInOrder.{AreInOrder}
use Rattle.like_live.proofs.OneThread.{in_one_order, settled_once_gone}

-- the same of the seats of a service that was opened so and is closed
module _ (o : Opening) (driver now : DriverView) (hs : List SeatHistory) (counts : List ℕ)
    (opened : AreOpened o driver (map (λ (h : SeatHistory). h.first) hs)) (same : IsSameDriver driver now)
    (service : IsClosedService now (map (λ (h : SeatHistory). h.last) hs) counts) where
  pub opening_is : now.lead.seat.opening ≡ board_opening o opened.factor
  opening_is = same.opening ∙ ap (λ (d : DriverView). d.lead.seat.opening) opened.new

  pub closed_order : AreGone (map (λ (h : SeatHistory). h.last) hs) → AreInOrder o hs
  closed_order gone = record {
    factor = opened.factor;
    board = driver.lead.board;
    masks = mask_of now.lead.seat.masks;
    phase = now.lead.seat.phase;
    log = service.closed.log;
    opened = opened.fresh;
    right = all-of-map (λ (p : WorkerSeatView). AreMasksOf (mask_of now.lead.seat.masks) p.masks) post_at
        (map (λ (h : SeatHistory). h.last) hs) service.closed.masks;
    present = λ k d below split. absurd (subst RunsSplit (gone k d below) split);
    order = subst
        (λ (z : CoreOpening). IsOrderOf (λ page. get_or z.counts page 0) now.lead.seat.phase
        (posts_at (map (λ (h : SeatHistory). h.last) hs)) service.closed.log)
        opening_is service.closed.order;
  }

-- there is a strict list, in which snapshots stand, and of last likes
pub strict_service : (o : Opening) (driver now : DriverView) (hs : List SeatHistory) (counts : List ℕ)
    → AreOpened o driver (map (λ (h : SeatHistory). h.first) hs)
    → IsSameDriver driver now
    → IsClosedService now (map (λ (h : SeatHistory). h.last) hs) counts
    → AreGone (map (λ (h : SeatHistory). h.last) hs)
    → (serial : List Deed) × IsStrictService o (map deeds_in hs) serial
    × SnapshotsStand o now.lead.seat.counted serial
    × HasLastLikes o (map (λ (h : SeatHistory). h.last) hs) serial
strict_service o driver now hs counts opened same service gone =
    let ends = map (λ (h : SeatHistory). h.last) hs in
    let order = closed_order o driver now hs counts opened same service gone in
    let one = in_one_order o hs order in (
      one.0,
      one.1.0,
      λ k d below.
          let r = get_or now.lead.seat.counted k d in
          service.closed.counted k d below
          ∙ ap (λ (z : CoreOpening). get_or z.counts r.page 0 + posts_before (posts_at ends) (r.phase + 1) r.page)
          (opening_is o driver now hs counts opened same service)
          ∙ ap (λ n. get_or o.counts.items r.page 0 + n)
          (sum-of-map (λ (p : WorkerSeatView). added_before (r.phase + 1) r.page (additions_among p.did)) post_at ends
          ∙ one.1.2 (r.phase + 1) r.page (λ k less. settled_once_gone o hs order gone k))
          ∙ sym (count_is (store_opened o) (filter (λ (d : Deed). nat_lt d.phase (r.phase + 1)) one.0) r.page),
      one.1.1,
    )

-- phases never fall along each seat's deeds, as they don't along the list
pub seats_rise : SeatsRise
seats_rise o deeds serial strict k ds below =
    subst (AllPairs (λ (d e : Deed). d.phase ≤ e.phase)) (strict.own k ∙ get_or_default deeds k [] ds below)
    (AllPairs-filter (λ (d e : Deed). d.phase ≤ e.phase) (λ (d : Deed). home o.seats d.user == k) serial strict.rising)
