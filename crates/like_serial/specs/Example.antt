-- An example: two workers like a page each, and then each looks at the page that the other liked.
use Rattle.std.specs.Prelude.{ℕ, false, List, [], ◌∷◌, Some, flat_map}
use Rattle.like_requests.specs.{Pages.Page, Types.Known, Types.Like, Types.Look, Types.Request}
use Rattle.like_core.specs.Types.{Add, PageCall, PageStep, Read}
use Rattle.like_promises.specs.Types.{Liked, Ran, Reply, Seen}
use Rattle.like_promises.specs.{Replies.HasRightCounts, Serial.IsSerial, Serial.run_of, Workload.Workload}
use Rattle.like_serial.specs.RunLists.{AreRunLists, FitsRuns}

-- a page that nobody has liked yet
abbrev pub new_page : Page
new_page = record { name = []; count = 0; split = false }

-- a user likes a page and then looks at another
abbrev pub like_and_look : ℕ → ℕ → ℕ → List Request
like_and_look user liked other =
    record { op = Like; user = user; page = Known liked }
    ∷ record { op = Look; user = user; page = Known other }
    ∷ []

-- user 0 likes page 0 and looks at page 1; user 1 likes page 1 and looks at page 0
abbrev pub crossed : Workload
crossed = record {
  users = 2;
  pages = new_page ∷ new_page ∷ [];
  stash = 256;
  hot = λ _. 0;
  plans = like_and_look 0 0 1 ∷ like_and_look 1 1 0 ∷ [];
}

-- an entry of phase 0
abbrev pub ran : ℕ → ℕ → Reply → Ran
ran submitter number reply =
    record { phase = 0; submitter = submitter; number = number; stashed = false; reply = reply }

-- each worker's look shows 0
abbrev pub crossed_runs : List (List Ran)
crossed_runs =
    (ran 0 1 Liked ∷ ran 0 2 (Seen (Some 0) 0) ∷ [])
    ∷ (ran 1 1 Liked ∷ ran 1 2 (Seen (Some 1) 0) ∷ [])
    ∷ []

-- the entries of both
abbrev pub crossed_all : List Ran
crossed_all = flat_map (λ run. run) crossed_runs

-- each run list by itself is right, and each count is between its bounds; but no one thread replies so, and no order of
-- page steps fits
pub record CrossedLooksHaveNoOrder : Type 0 where
  pub lists : AreRunLists crossed 2 crossed_runs
  pub between : (worker : ℕ) → HasRightCounts crossed crossed_all (run_of crossed_runs worker)
  pub apart : (serial : List Ran) → ¬ IsSerial crossed 2 crossed_runs serial
  pub unordered : (last : ℕ) (steps : List PageStep) → ¬ FitsRuns crossed crossed_runs last steps

-- if user 1's look shows 1, the run lists fit an order: user 0 comes first
abbrev pub ordered_runs : List (List Ran)
ordered_runs =
    (ran 0 1 Liked ∷ ran 0 2 (Seen (Some 0) 0) ∷ [])
    ∷ (ran 1 1 Liked ∷ ran 1 2 (Seen (Some 1) 1) ∷ [])
    ∷ []

-- a step of phase 0
abbrev pub step : ℕ → ℕ → ℕ → PageCall → PageStep
step worker page found call =
    record { worker = worker; phase = 0; page = page; found = found; call = call }

-- the steps, the latest first
abbrev pub ordered_steps : List PageStep
ordered_steps = step 1 0 1 Read ∷ step 1 1 0 (Add 1) ∷ step 0 1 0 Read ∷ step 0 0 0 (Add 1) ∷ []

-- each run list is right by itself, and the steps fit them
pub record OrderedLooksFit : Type 0 where
  pub lists : AreRunLists crossed 2 ordered_runs
  pub fits : FitsRuns crossed ordered_runs 0 ordered_steps
