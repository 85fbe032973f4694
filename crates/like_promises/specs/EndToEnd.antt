-- What a report says of a whole run.
use Rattle.std.specs.Prelude.{◌≡◌, ℕ, ◌+◌, ◌≤◌, List, length, map, slice_get, All, Option, Some}
use Rattle.std.specs.List.{range_with_len}
use Rattle.like_requests.specs.{Types.Request, Types.Setup, Verdict.home}
use Rattle.like_core.specs.Phase.{IsJoined}
use Rattle.like_tables.specs.Share.{worker_of}
use Rattle.like_promises.specs.{Collected.IsCollected, Collected.entries_in, Collected.rows_of, HotPages.chosen_below}
use Rattle.like_promises.specs.{Likes.initial_count, Likes.likes, Log.IsLog, Replies.HasRightCounts, Report.workload_by}
use Rattle.like_promises.specs.{RunStore.store_after, Serial.HasOneOrder, Serial.run_of, Types.Ran, Types.Report}
use Rattle.like_promises.specs.{Types.WorkerLog, Workload.Workload, Workload.submitters}

-- the run lists of all workers
abbrev pub runs_of : List WorkerLog → List (List Ran)
runs_of logs = map (λ log. log.ran.items) logs

-- the log of each worker is that of its submitters' plans, and nothing was taken after the phase in which the run ended
abbrev pub AreLogs : Workload → ℕ → ℕ → List WorkerLog → Type 0
AreLogs workload workers phases logs =
    (worker : ℕ) (log : WorkerLog) → slice_get logs worker ≡ Some log
    → IsLog workload workers worker log × All (λ t. t.phase ≤ phases) log.taken.items

-- the final count of each page is its initial count and the likes of it
abbrev pub AreCounts : Workload → List (List Ran) → List ℕ → Type 0
AreCounts workload runs counts =
    counts ≡ map (λ page. initial_count workload.pages page + likes workload page runs)
    (range_with_len 0 (length workload.pages))

-- the last like of each user is that of its worker's run list
abbrev pub AreLastLikes : Workload → ℕ → List WorkerLog → List (Option ℕ) → Type 0
AreLastLikes workload workers logs last =
    last ≡ map (λ user. (store_after workload
    (run_of (runs_of logs) (worker_of workers (home (submitters workload) user)))).last user)
    (range_with_len 0 workload.users)

-- end to end: the run lists are those of one thread; logs, answers, final counts, last likes, shown counts, hot pages are
-- right; and the last phase is joined
pub record IsEndToEnd (workload : Workload) (workers : ℕ) (r : Report) : Type 0 where
  pub one_order : HasOneOrder workload workers (runs_of r.logs.items)
  pub workers_all : length r.logs.items ≡ workers
  pub logs : AreLogs workload workers r.phases r.logs.items
  pub replies : IsCollected (map length workload.plans) (entries_in r.logs.items) (rows_of r.replies)
  pub counts : AreCounts workload (runs_of r.logs.items) r.counts.items
  pub last : AreLastLikes workload workers r.logs.items r.last.items
  pub joined : IsJoined r.phases
  pub seen : All (λ log. HasRightCounts workload (entries_in r.logs.items) log.ran.items) r.logs.items
  pub hot : r.hot.items ≡ chosen_below workload.hot r.phases

-- a right report of settings and plans: end to end, with the hot pages that follow from its own run lists
abbrev pub IsRightReport : Setup → List (List Request) → Report → Type 0
IsRightReport setup plans r = IsEndToEnd (workload_by setup plans (entries_in r.logs.items)) setup.workers r
