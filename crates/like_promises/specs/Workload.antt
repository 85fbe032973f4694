-- What a run serves.
use Rattle.std.specs.Prelude.{ℕ, zero, suc, Bool, List, [], Vec, length, map, slice_get, slice_index_or, Option, None}
use Rattle.std.specs.declared.alloc.Global.{Global}
use Rattle.like_limits.specs.Limits.{hot_pages}
use Rattle.like_requests.specs.{Pages.Page, Pages.marks_of, Types.Request, Types.Setup}
use Rattle.like_core.specs.Phase.{is_marked, split_by}

-- what a run serves: how many users, which pages, how many looks may wait at a worker, hot pages of phases, plans
pub record Workload : Type 0 where
  pub users : ℕ
  pub pages : List Page
  pub stash : ℕ
  pub hot : ℕ → ℕ
  pub plans : List (List Request)

-- how many submitters there are
abbrev pub submitters : Workload → ℕ
submitters workload = length workload.plans

-- the element of a list with this number, counted from 1, if there is one
abbrev pub nth : {X : Type 0} → List X → ℕ → Option X
nth xs zero = None
nth xs (suc n) = slice_get xs n

-- the request of a submitter with this number
abbrev pub request_at : Workload → ℕ → ℕ → Option Request
request_at workload submitter number = nth (slice_index_or workload.plans submitter []) number

-- split pages: whether a page is split in a phase (in an even one no page is)
abbrev pub is_split_in : Workload → ℕ → ℕ → Bool
is_split_in workload phase page =
    split_by hot_pages (is_marked (marks_of workload.pages)) workload.hot phase page

-- the run of these users, pages and stash, and of these lists of requests, in which no page is hot
abbrev pub workload_of : Setup → List (List Request) → Workload
workload_of setup plans =
    record { users = setup.users; pages = setup.pages; stash = setup.stash; hot = λ _. 0; plans = plans }

-- the requests of plans
abbrev pub lists_of : List (Vec Request Global) → List (List Request)
lists_of plans = map (λ plan. plan.items) plans
