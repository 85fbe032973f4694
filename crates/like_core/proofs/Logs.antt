-- What a log has of each worker, and what it applies to pages.
use Rattle.std.proofs.Common.{◌≡◌, ◌≢◌, ℕ, ◌==◌, Bool, true, false, cond, List, [], ◌∷◌, length, replicate, ap, refl, arith, eq-eqb}
use Rattle.std.proofs.lemmas.Bool.{ne_eqb}
use Rattle.std.proofs.lemmas.List.{length-append, length-replicate}
use Rattle.std.proofs.lemmas.List.Sums.{sum_by-cons}
use Rattle.like_core.specs.declared.log.LogEntry.{LogEntry}
use Rattle.like_core.specs.declared.log.LogEntry.TheVariants.{Saw, Did}
use Rattle.like_core.specs.declared.log.Logged.{Logged}
use Rattle.like_core.specs.declared.page_step.PageStep.{PageStep}
use Rattle.like_core.specs.Log.{applied_of, entry_worker, logged_by, numbered, steps_in}
use Rattle.like_core.specs.PageSteps.{adds_to, likes_in, steps_by}
use Rattle.like_core.proofs.core.Labels.{label}

-- a worker's own step comes behind its others
pub by_own : (i : ℕ) (s : PageStep) (steps : List PageStep)
    → s.worker ≡ i
    → steps_by i (s ∷ steps) ≡ s ∷ steps_by i steps
by_own i s steps own =
    ap (λ (b : Bool). cond b (s ∷ steps_by i steps) (steps_by i steps)) (eq-eqb s.worker i own)

-- a step of another worker leaves its steps
pub by_other : (i : ℕ) (s : PageStep) (steps : List PageStep)
    → s.worker ≢ i
    → steps_by i (s ∷ steps) ≡ steps_by i steps
by_other i s steps other =
    ap (λ (b : Bool). cond b (s ∷ steps_by i steps) (steps_by i steps)) (ne_eqb s.worker i other)

-- so does another worker's entry
pub steps_other : (i : ℕ) (entry : LogEntry) (log : List LogEntry)
    → entry_worker entry ≢ i
    → steps_by i (steps_in (entry ∷ log)) ≡ steps_by i (steps_in log)
steps_other i (Saw worker phase) log other = refl
steps_other i (Did s) log other = by_other i s (steps_in log) other

-- a worker's own entry comes behind its others, with its number
pub logged_own : (i : ℕ) (entry : LogEntry) (log : List LogEntry)
    → entry_worker entry ≡ i
    → logged_by i (entry ∷ log) ≡ numbered (length log) entry ∷ logged_by i log
logged_own i entry log own =
    ap (λ (b : Bool). cond b (numbered (length log) entry ∷ logged_by i log) (logged_by i log))
    (eq-eqb (entry_worker entry) i own)

-- and another worker's leaves them
pub logged_other : (i : ℕ) (entry : LogEntry) (log : List LogEntry)
    → entry_worker entry ≢ i
    → logged_by i (entry ∷ log) ≡ logged_by i log
logged_other i entry log other =
    ap (λ (b : Bool). cond b (numbered (length log) entry ∷ logged_by i log) (logged_by i log))
    (ne_eqb (entry_worker entry) i other)

-- the steps at pages among a worker's entries
abbrev pub and_step : LogEntry → List PageStep → List PageStep
and_step (Saw worker phase) steps = steps
and_step (Did s) steps = s ∷ steps

abbrev pub steps_of : List Logged → List PageStep
steps_of [] = []
steps_of (e ∷ es) = and_step e.entry (steps_of es)

-- they are the worker's steps in the log
pub steps_logged : (i : ℕ) (log : List LogEntry) → steps_by i (steps_in log) ≡ steps_of (logged_by i log)
steps_logged i [] = refl
steps_logged i (Saw worker phase ∷ log) = by (worker == i) (steps_logged i log) where
  by : (b : Bool) → steps_by i (steps_in log) ≡ steps_of (logged_by i log)
      → steps_by i (steps_in log)
      ≡ steps_of (cond b (numbered (length log) (Saw worker phase) ∷ logged_by i log) (logged_by i log))
  by true rest = rest
  by false rest = rest
steps_logged i (Did s ∷ log) = by (s.worker == i) (steps_logged i log) where
  by : (b : Bool) → steps_by i (steps_in log) ≡ steps_of (logged_by i log)
      → cond b (s ∷ steps_by i (steps_in log)) (steps_by i (steps_in log))
      ≡ steps_of (cond b (numbered (length log) (Did s) ∷ logged_by i log) (logged_by i log))
  by true rest = ap (λ (ds : List PageStep). s ∷ ds) rest
  by false rest = rest

-- as many likes are applied to a page as the steps add
pub applied-long : (page : ℕ) (log : List LogEntry) → length (applied_of log page) ≡ likes_in page (steps_in log)
applied-long page [] = refl
applied-long page (Saw worker phase ∷ log) = applied-long page log
applied-long page (Did s ∷ log) =
    let rest = applied-long page log in
    let joined = length-append (applied_of log page) (replicate (adds_to page s) (label s.worker s.phase)) in
    let long = length-replicate (adds_to page s) (label s.worker s.phase) in
    let more = sum_by-cons (adds_to page) s (steps_in log) in
    omega arith
