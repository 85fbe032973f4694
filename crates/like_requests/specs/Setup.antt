-- The limits of a run.
use Rattle.std.specs.Prelude.{ℕ, ◌<◌, ◌≤◌, List, [], ◌∷◌, ◌++◌, length, map, slice_index_or, All, Option, ⊤}
use Rattle.std.specs.{List.AllByRecursion, List.range_with_len, Option.ForSome}
use Rattle.like_limits.specs.Limits.{max_hot, max_requests, max_stash, max_submitters, max_turns, max_users}
use Rattle.like_limits.specs.Limits.{max_workers}
use Rattle.like_records.specs.First.{FailsFirst}
use Rattle.like_requests.specs.Pages.{Page}
use Rattle.like_requests.specs.Types.{Known, PageRef, Request, Script, SettingsFault, Setup, Unknown}
use Rattle.like_requests.specs.declared.setup.SettingsFault.TheVariants.{Hot, Plan, Stash, Submitters, Turns, Users}
use Rattle.like_requests.specs.declared.setup.SettingsFault.TheVariants.{Workers}

-- a page that a request knows is one of this many
abbrev pub IsThere : ℕ → PageRef → Type 0
IsThere pages (Known page) = page < pages
IsThere pages Unknown = ⊤

-- a submitter's list is not too long, and each page that it knows exists
pub record IsPlan (pages : List Page) (plan : List Request) : Type 0 where
  pub few : length plan ≤ max_requests
  pub there : All (λ r. IsThere (length pages) r.page) plan

-- how many likes make a page hot, if any do
abbrev pub IsHotLimit : Option ℕ → Type 0
IsHotLimit hot = ForSome hot (λ least. (1 ≤ least) × (least ≤ max_hot))

-- what the limit with this fault asks
abbrev pub Holds : Setup → List (List Request) → SettingsFault → Type 0
Holds s plans Workers = (1 ≤ s.workers) × (s.workers ≤ max_workers)
Holds s plans Submitters = (1 ≤ length plans) × (length plans ≤ max_submitters)
Holds s plans Users = (1 ≤ s.users) × (s.users ≤ max_users)
Holds s plans Stash = (1 ≤ s.stash) × (s.stash ≤ max_stash)
Holds s plans Turns = s.turns ≤ max_turns
Holds s plans (Plan submitter) = IsPlan s.pages (slice_index_or plans submitter [])
Holds s plans (Script at) = ⊤
Holds s plans Hot = IsHotLimit s.hot

-- the limits on numbers, in the order of their tests
abbrev pub number_limits : List SettingsFault
number_limits = Workers ∷ Submitters ∷ Users ∷ Stash ∷ Turns ∷ []

-- all limits of a run with this many submitters, in the order of their tests
abbrev pub limits : ℕ → List SettingsFault
limits submitters = number_limits ++ (map Plan (range_with_len 0 submitters) ++ Hot ∷ [])

-- every limit holds
abbrev pub IsWithinLimits : Setup → List (List Request) → Type 0
IsWithinLimits s plans = AllByRecursion (Holds s plans) (limits (length plans))

-- the first limit that is broken
abbrev pub IsFirstBroken : Setup → List (List Request) → SettingsFault → Type 0
IsFirstBroken s plans fault = FailsFirst (Holds s plans) (limits (length plans)) fault

-- every limit on a number holds
abbrev pub AreNumbersWithin : Setup → List (List Request) → Type 0
AreNumbersWithin s plans = AllByRecursion (Holds s plans) number_limits

-- The limits hold that a worker needs, where the submitters have these numbers of requests. It asks for less than
-- `IsWithinLimits`, since a worker is made of these numbers and not of all lists.
pub record IsWithin (s : Setup) (sizes : List ℕ) : Type 0 where
  pub workers : (1 ≤ s.workers) × (s.workers ≤ max_workers)
  pub submitters : (1 ≤ length sizes) × (length sizes ≤ max_submitters)
  pub stash : (1 ≤ s.stash) × (s.stash ≤ max_stash)
  pub small : All (λ n. n ≤ max_requests) sizes
