-- What isn't told as written is as it was.
use Rattle.std.proofs.Common.{◌≢◌, ℕ, Bool, true, false, Option, Some, None, Result, Ok, Err, refl}
use Rattle.std.specs.Prelude.{IfNone, IsFalse, MatchResult}
use Rattle.like_c.specs.Status.{HasStatus, counted, last_status, lasts_status, ok, snapshot_status, status}

module _ (P : Type 0) (result : ℕ) where
  pub unwritten-snapshot : (told : Result (Option ℕ) ℕ) → MatchResult told (λ phase. IfNone phase P) (λ _. P)
      → HasStatus snapshot_status result told → result ≢ status counted → P
  unwritten-snapshot (Ok (Some phase)) none is not = absurd (not is)
  unwritten-snapshot (Ok None) same is not = same
  unwritten-snapshot (Err refused) same is not = same

  pub unwritten-last : (told : Result Bool ℕ) → MatchResult told (λ is_done. IsFalse is_done → P) (λ _. P)
      → HasStatus last_status result told → result ≢ status counted → P
  unwritten-last (Ok true) none is not = absurd (not is)
  unwritten-last (Ok false) same is not = same refl
  unwritten-last (Err refused) same is not = same

  pub unwritten-lasts : (told : Result Bool ℕ) → MatchResult told (λ is_done. IsFalse is_done → P) (λ _. P)
      → HasStatus lasts_status result told → result ≢ status ok → P
  unwritten-lasts (Ok true) none is not = absurd (not is)
  unwritten-lasts (Ok false) same is not = same refl
  unwritten-lasts (Err refused) same is not = same
