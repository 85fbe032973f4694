-- What one worker's steps and entries in a log have in their order.
use Rattle.std.proofs.Common.{ℕ, suc, ◌≤◌, ◌<◌, Bool, true, false, cond, ◌==◌, List, [], ◌∷◌, filter, reverse, length, sym, subst, arith}
use Rattle.std.specs.List.{AllByRecursion}
use mathlib.Core.List.{reverse-cons}
use Rattle.like_core.specs.declared.page_step.PageStep.{PageStep}
use Rattle.like_core.specs.Log.{entry_worker, logged_by, numbered}
use Rattle.like_core.specs.declared.log.LogEntry.{LogEntry}
use Rattle.like_core.specs.declared.log.Logged.{Logged}
use Rattle.like_core.specs.PageSteps.{AddsSome, AreInTurn}
use Rattle.like_core.proofs.views.Clock.{IsAt, at_below, logged_are}
use Rattle.like_serial.proofs.Increasing.{Increases, filter_rec, pairwise_append}
use Rattle.like_serial.proofs.InTurn.{turn_below}
use Rattle.like_serial.proofs.Phases.{Rises, all_append, all_rec, all_then, rises-append}
use Rattle.like_live.proofs.DeedPhases.{phase_of_step}

-- what is true of all steps in turn, and of a worker's
pub turn_some : (first : ℕ → ℕ) (last : ℕ) (steps : List PageStep) → AreInTurn first last steps
    → AllByRecursion (λ s. AddsSome s.call) steps
turn_some first last [] turn = tt
turn_some first last (s ∷ steps) turn = (turn.2, turn_some first s.phase steps turn.3)

-- a filter keeps that phases never fall
pub filter_rises : {X : Type 0} (phase : X → ℕ) (t : X → Bool) (xs : List X) → Rises phase xs → Rises phase (filter t xs)
filter_rises phase t [] r = tt
filter_rises {X} phase t (x ∷ xs) r = by (t x) (filter_rises phase t xs r.1) where
  by : (b : Bool) → Rises phase (filter t xs) → Rises phase (cond b (x ∷ filter t xs) (filter t xs))
  by true rest = (filter_rec (λ y. phase x ≤ phase y) t xs r.0, rest)
  by false rest = rest

-- and so does a list turned round
pub reverse_all : {X : Type 0} (P : X → Type 0) (xs : List X) → AllByRecursion P xs → AllByRecursion P (reverse xs)
reverse_all P [] all = tt
reverse_all P (x ∷ xs) all =
    subst (AllByRecursion P) (sym (reverse-cons x xs))
    (all_append P (reverse xs) (x ∷ []) (reverse_all P xs all.1) (all.0, tt))

-- phases never fall along steps in turn, from the first to the last
pub turn_rises : (first : ℕ → ℕ) (last : ℕ) (steps : List PageStep) → AreInTurn first last steps
    → Rises phase_of_step (reverse steps)
turn_rises first last [] turn = tt
turn_rises first last (s ∷ steps) turn =
    subst (Rises phase_of_step) (sym (reverse-cons s steps))
    (rises-append phase_of_step s.phase (reverse steps) (s ∷ []) (turn_rises first s.phase steps turn.3) (tt, tt)
    (reverse_all (λ t. phase_of_step t ≤ s.phase) steps
    (all_then (λ (t : PageStep). t.phase < suc s.phase) (λ t. phase_of_step t ≤ s.phase) steps
    (λ t less. omega (arith, less)) (turn_below first s.phase steps turn.3)))
    (omega arith, tt))

-- the numbers of a worker's entries rise
pub numbers_rise : (i : ℕ) (log : List LogEntry) → Increases (λ e. e.number) (reverse (logged_by i log))
numbers_rise i [] = tt
numbers_rise i (entry ∷ log) = by (entry_worker entry == i) (numbers_rise i log) where
  by : (b : Bool) → Increases (λ e. e.number) (reverse (logged_by i log))
      → Increases (λ e. e.number) (reverse (cond b (numbered (length log) entry ∷ logged_by i log) (logged_by i log)))
  by true rest =
      subst (Increases (λ (e : Logged). e.number)) (sym (reverse-cons (numbered (length log) entry) (logged_by i log)))
      (pairwise_append (λ (e f : Logged). e.number < f.number) (λ e. e.number) (length log) (reverse (logged_by i log))
      (numbered (length log) entry ∷ []) (λ e f less. less) rest (tt, tt)
      (reverse_all (λ (e : Logged). e.number < length log) (logged_by i log)
      (all_then (IsAt log) (λ e. e.number < length log) (logged_by i log) (at_below log)
      (all_rec (IsAt log) (logged_by i log) (logged_are i log))))
      (omega arith, tt))
  by false rest = rest
