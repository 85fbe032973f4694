-- Deeds, one after the other, leave the same driver and the same seat.
use Rattle.std.proofs.Common.{ℕ, ◌≤◌, List, [], ◌∷◌, length, sym, ap, subst}
use Rattle.told_lock.specs.Deeds.{HasRun}
use Rattle.like_core.specs.declared.opening.Opening.{Opening}
use Rattle.like_live.specs.Driver.{DriverView, IsSameDriver}
use Rattle.like_live.specs.LiveView.{IsSameSeat, LiveView}
use Rattle.like_shared.specs.declared.deed.DriverDeed.{DriverDeed}
use Rattle.like_shared.specs.declared.deed.SeatDeed.{SeatDeed}
use Rattle.like_shared.specs.Deeds.{DriverDoes, SeatDoes, pages_at}
use Rattle.like_live.proofs.Moving.{same_seat, same_seat_both}
use Rattle.like_shared.proofs.Same.{same-driver, same-drivers}

pub driver-runs : (v w : DriverView) (ds : List DriverDeed) → HasRun DriverDoes v ds w → IsSameDriver v w
driver-runs v w [] run = subst (λ u. IsSameDriver v u) (sym run) (same-driver v)
driver-runs v w (d ∷ ds) run = same-drivers v run.0 w run.1.1 (driver-runs run.0 w ds run.2)

pub seat-runs : (v w : LiveView) (ds : List SeatDeed) → HasRun SeatDoes v ds w → IsSameSeat v w
seat-runs v w [] run = subst (λ u. IsSameSeat v u) (sym run) (same_seat v)
seat-runs v w (d ∷ ds) run = same_seat_both v run.0 w run.1.1 (seat-runs run.0 w ds run.2)

-- so a driver to which deeds have led has as many pages as at first
pub pages-reached : (first v : DriverView) (done : List DriverDeed) (n : ℕ) → HasRun DriverDoes first done v
    → n ≤ pages_at first → n ≤ pages_at v
pages-reached first v done n run less =
    let same = driver-runs first v done run in
    subst (λ k. n ≤ k) (sym (ap (λ (z : Opening). length z.counts) same.opening)) less
