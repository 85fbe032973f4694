-- Run lists, and one order of page steps that fits them.
use Rattle.std.specs.Prelude.{◌≡◌, ℕ, ◌==◌, List, filter, All}
use Rattle.like_core.specs.PageSteps.{AreInTurn, earliest_first, likes_in, steps_by}
use Rattle.like_core.specs.Types.{PageStep}
use Rattle.like_tables.specs.Share.{worker_of}
use Rattle.like_promises.specs.Likes.{initial_count, likes_within}
use Rattle.like_promises.specs.{Replies.HasRightAnswers, Serial.AreRising, Serial.run_of, Types.Ran, Workload.Workload}
use Rattle.like_serial.specs.StepsTold.{plain_told, steps_ran}

-- run lists of workers: each is of its worker's submitters alone, its phases never fall, and its answers are right
pub record AreRunLists (workload : Workload) (workers : ℕ) (runs : List (List Ran)) : Type 0 where
  pub own : (worker : ℕ) → All (λ e. worker_of workers e.submitter ≡ worker) (run_of runs worker)
  pub rising : (worker : ℕ) → AreRising (run_of runs worker)
  pub answers : (worker : ℕ) → HasRightAnswers workload (run_of runs worker)

-- what a worker did at pages fits its run list: its plain steps are those of its entries, and in each phase it added as
-- many likes to each page as were accepted
pub record FitsRunList (workload : Workload) (did : List PageStep) (ran : List Ran) : Type 0 where
  pub plain : plain_told workload did ≡ steps_ran workload ran
  pub by_phase : (phase page : ℕ)
      → likes_in page (filter (λ s. s.phase == phase) did) ≡ likes_within workload page ran phase

-- one order of all page steps, the latest first, which fits the run lists: it is in turn, and what each worker did fits
-- its run list
pub record FitsRuns (workload : Workload) (runs : List (List Ran)) (last : ℕ) (steps : List PageStep)
    : Type 0 where
  pub in_turn : AreInTurn (initial_count workload.pages) last steps
  pub each : (worker : ℕ) → FitsRunList workload (earliest_first (steps_by worker steps)) (run_of runs worker)
