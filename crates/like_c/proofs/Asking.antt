-- What calls of a driver's and a client's handle have in common.
use Rattle.std.proofs.Common.{◌≡◌, ℕ, false, length, List, Option, Some, None, Result, Err, ap, refl, subst}
use Rattle.like_live.specs.Driver.{DriverView, ReadsLast, SnapshotCase, TakesLast, TakesSnapshot, counted, none_once_over, not_ended, not_now, reads, taken}
use Rattle.like_live.specs.declared.driver_answer.DriverAnswer.{DriverAnswer}
use Rattle.like_live.specs.declared.driver_end.End.{End}
use Rattle.like_shared.specs.declared.deed.DriverDeed.{DriverDeed}
use Rattle.like_shared.specs.declared.deed.DriverDeed.TheVariants.{Turn}
use Rattle.like_c.specs.Asks.{Turns}
use Rattle.like_c.specs.Status.{status, unknown_end}

module _ {B : Type 0} (calls : (DriverAnswer → DriverDeed) → Result DriverAnswer ℕ → B → B → Type 0) (e : Option End) where
  -- the end is known
  pub known : (end : End) (told : Result DriverAnswer ℕ) (b c : B) → Some end ≡ e → calls (Turn end) told b c
      → Turns calls e told b c
  known end told b c is made = subst (λ (x : Option End). Turns calls x told b c) is made

  -- it isn't
  pub unknown : (b : B) → None ≡ e → Turns calls e (Err (status unknown_end)) b b
  unknown b is = subst (λ (x : Option End). Turns calls x (Err (status unknown_end)) b b) is (refl, refl)

module _ (v w : DriverView) (from : ℕ) (old counts : List ℕ) where
  -- a snapshot has as many counts as there was room for
  pub snapshot-len : (phase : Option ℕ) → TakesSnapshot v from old phase w counts → length counts ≡ length old
  snapshot-len phase (reads on r is) = of-case r.case where
    of-case : SnapshotCase r.seen r.sight from old phase w.lead counts → length counts ≡ length old
    of-case (taken there told len after) = len
    of-case (not_now not told same after) = ap length same
  snapshot-len phase (none_once_over over told same is) = ap length same

  -- and if there is none, none is written
  pub snapshot-none : TakesSnapshot v from old None w counts → counts ≡ old
  snapshot-none (reads on r is) = of-case r.case where
    of-case : SnapshotCase r.seen r.sight from old None w.lead counts → counts ≡ old
    of-case (taken there told len after) = absurd (cc told)
    of-case (not_now not told same after) = same
  snapshot-none (none_once_over over told same is) = same

  -- so with last counts
  pub last-len : (is_done : _) → TakesLast v from old is_done w counts → length counts ≡ length old
  last-len is_done takes = of-case takes.case where
    of-case : ReadsLast v.lead from old is_done w.lead counts → length counts ≡ length old
    of-case (not_ended looks told same) = ap length same
    of-case (counted now looks len after last told) = len

  pub last-none : TakesLast v from old false w counts → counts ≡ old
  last-none takes = of-case takes.case where
    of-case : ReadsLast v.lead from old false w.lead counts → counts ≡ old
    of-case (not_ended looks told same) = same
    of-case (counted now looks len after last told) = absurd (cc told)
