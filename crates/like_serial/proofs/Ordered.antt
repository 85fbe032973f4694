-- The premises of the law can be met.
use Rattle.std.proofs.Common.{◌≡◌, ℕ, zero, suc, [], All, Some, false, ◌==◌, filter, eqb, ne_eqb, refl, arith}
use Rattle.like_promises.specs.declared.reply.Reply.TheVariants.{Liked, Seen}
use Rattle.like_promises.specs.Likes.{initial_count, likes_within}
use Rattle.like_promises.specs.Replies.{HasRightAnswers}
use Rattle.like_serial.specs.Example.{OrderedLooksFit, crossed, ordered_runs, ordered_steps, ran}
use Rattle.like_core.specs.PageSteps.{AreInTurn, earliest_first, likes_in, steps_by}
use Rattle.like_promises.specs.Serial.{AreRising, run_of}
use Rattle.like_serial.specs.StepsTold.{plain_told, steps_ran}
use Rattle.like_serial.proofs.Crossed.{right_two}
use Rattle.like_serial.proofs.Phases.{pairs_of, rec_all}
use Rattle.like_serial.proofs.Seen.{not_some}
use Rattle.like_serial.proofs.Serial.{phase_of, server_of}

own : (w : ℕ) → All (λ e. server_of 2 e ≡ w) (run_of ordered_runs w)
own zero = rec_all (λ e. server_of 2 e ≡ 0) (run_of ordered_runs 0) (refl, (refl, tt))
own (suc zero) = rec_all (λ e. server_of 2 e ≡ 1) (run_of ordered_runs 1) (refl, (refl, tt))
own (suc (suc w)) = rec_all (λ e. server_of 2 e ≡ suc (suc w)) [] tt

rising : (w : ℕ) → AreRising (run_of ordered_runs w)
rising zero = pairs_of phase_of (run_of ordered_runs 0) ((omega arith, tt), (tt, tt))
rising (suc zero) = pairs_of phase_of (run_of ordered_runs 1) ((omega arith, tt), (tt, tt))
rising (suc (suc w)) = pairs_of phase_of [] tt

answers : (w : ℕ) → HasRightAnswers crossed (run_of ordered_runs w)
answers zero = right_two crossed (ran 0 1 Liked) (ran 0 2 (Seen (Some 0) 0)) refl refl
answers (suc zero) = right_two crossed (ran 1 1 Liked) (ran 1 2 (Seen (Some 1) 1)) refl refl
answers (suc (suc w)) = λ i e at. absurd (not_some e at)

in_turn : AreInTurn (initial_count crossed.pages) 0 ordered_steps
in_turn = (refl, omega arith, tt, (refl, omega arith, omega arith, (refl, omega arith, tt, (refl, omega arith, omega arith, tt))))

-- numbers that differ
first : (n : ℕ) → eqb 0 (suc n) ≡ false
first n = ne_eqb 0 (suc n) (λ e. absurd (omega (arith, e)))

beyond : (n : ℕ) → eqb 1 (suc (suc n)) ≡ false
beyond n = ne_eqb 1 (suc (suc n)) (λ e. absurd (omega (arith, e)))

plain : (w : ℕ) → plain_told crossed (earliest_first (steps_by w ordered_steps)) ≡ steps_ran crossed (run_of ordered_runs w)
plain zero = refl
plain (suc zero) = refl
plain (suc (suc w)) = rw (beyond w, first (suc w)) refl

by_phase : (w phase page : ℕ)
    → likes_in page (filter (λ s. s.phase == phase) (earliest_first (steps_by w ordered_steps)))
    ≡ likes_within crossed page (run_of ordered_runs w) phase
by_phase zero zero zero = refl
by_phase zero zero (suc zero) = refl
by_phase zero zero (suc (suc page)) = rw (beyond page, first (suc page)) refl
by_phase zero (suc phase) page = rw (first phase) refl
by_phase (suc zero) zero zero = refl
by_phase (suc zero) zero (suc zero) = refl
by_phase (suc zero) zero (suc (suc page)) = rw (beyond page, first (suc page)) refl
by_phase (suc zero) (suc phase) page = rw (first phase) refl
by_phase (suc (suc w)) phase page = rw (beyond w, first (suc w)) refl

pub ordered_looks_fit : OrderedLooksFit
ordered_looks_fit = record {
  lists = record { own = own; rising = rising; answers = answers };
  fits = record { in_turn = in_turn; each = λ w. record { plain = plain w; by_phase = by_phase w } };
}
