-- The report of a run or a replay: that of one thread, which has a store.
use Rattle.std.specs.Prelude.{◌≡◌, ℕ, ◌-◌, ◌≤◌, ◌==◌, Bool, false, true, List, [], All, AllPairs, filter, length, map, slice_get, slice_index_or, Some}
use Rattle.std.specs.List.{range_with_len}
use Rattle.like_requests.specs.Types.{Request, Setup}
use Rattle.like_core.specs.Phase.{IsJoined}
use Rattle.like_tables.specs.UserTable.{last_of}
use Rattle.like_promises.specs.Order.{block, entry_of, is_due}
use Rattle.like_promises.specs.RunStore.{count_at, start, store_after}
use Rattle.like_promises.specs.{Asked.asks, Collected.IsCollected, HotPages.chosen_below, HotPages.hot_by}
use Rattle.like_promises.specs.{Log.TakesPlans, Serial.entries_by, Store.replies, Types.Ran, Types.Report}
use Rattle.like_promises.specs.{Types.WorkerLog, Workload.Workload, Workload.workload_of, places.Tiling.ArePlacesTiled}

-- the report of one thread, which ran these entries: those of each worker, in their order, are its run list, and there
-- are no others; phases never fall; the replies are those of the store; final counts and last likes are the store's at
-- the end; and the answer to each request is that of its only entry
pub record IsOneThread (workload : Workload) (workers : ℕ) (r : Report) (serial : List Ran) : Type 0 where
  pub own : (worker : ℕ)
      → entries_by workers worker serial ≡ slice_index_or (map (λ log. log.ran.items) r.logs.items) worker []
  pub rising : AllPairs (λ d e. d.phase ≤ e.phase) serial
  pub replies : map (λ e. e.reply) serial ≡ replies (start workload) (asks workload serial)
  pub counts : r.counts.items ≡ map (store_after workload serial).count (range_with_len 0 (length workload.pages))
  pub last : r.last.items ≡ map (store_after workload serial).last (range_with_len 0 workload.users)
  pub answers : IsCollected (map length workload.plans) serial (map (λ row. row.items) r.replies.rows.items)

-- a worker's log: it took its submitters' plans, in phases that never fall, none later than the last; it ran each phase's
-- block in it; it had room for the looks that waited; and its table has the last likes of what it ran
pub record IsLogOf (workload : Workload) (workers worker phases : ℕ) (log : WorkerLog) : Type 0 where
  pub taken : TakesPlans workload workers worker log.taken.items
  pub rising : AllPairs (λ s t. s.phase ≤ t.phase) log.taken.items
  pub ended : All (λ t. t.phase ≤ phases) log.taken.items
  pub ran : (phase : ℕ)
      → filter (λ e. e.phase == phase) (map entry_of log.ran.items) ≡ block workload log.taken.items phase
  pub stashed : (phase : ℕ) → length (filter (is_due workload phase) log.taken.items) ≤ workload.stash
  pub last : (user : ℕ) → last_of log.last user ≡ (store_after workload log.ran.items).last user

-- the report of a run: that of one thread; each worker ran what it took of its plans; the last phase is joined; and hot
-- pages are right
pub record IsRunOf (workload : Workload) (workers : ℕ) (r : Report) (serial : List Ran) : Type 0 where
  pub one : IsOneThread workload workers r serial
  pub workers_all : length r.logs.items ≡ workers
  pub logs : (worker : ℕ) (log : WorkerLog) → slice_get r.logs.items worker ≡ Some log
      → IsLogOf workload workers worker r.phases log
  pub joined : IsJoined r.phases
  pub hot : r.hot.items ≡ chosen_below workload.hot r.phases

-- how much a page's count grew in the two phases before this one
abbrev pub grew : Workload → List Ran → ℕ → ℕ → ℕ
grew workload serial phase page = count_at workload serial page phase - count_at workload serial page (phase - 2)

-- the run that settings and plans ask for, where this is what the one thread ran: it tells the hot pages of each phase
abbrev pub workload_by : Setup → List (List Request) → List Ran → Workload
workload_by setup plans serial =
    let plain = workload_of setup plans in
    record plain { hot = hot_by setup.hot (length plain.pages) (grew plain serial) }

-- the report of one thread, of settings and plans: with right places if workers note their additions, and else with no
-- places and no noted addition
pub record IsReportOf (setup : Setup) (plans : List (List Request)) (notes : Bool) (r : Report) : Type 0 where
  pub serial : List Ran
  pub right : IsRunOf (workload_by setup plans serial) setup.workers r serial
  pub places : notes ≡ true → ArePlacesTiled (workload_by setup plans serial) r serial
  pub none : notes ≡ false → (r.places.items ≡ []) × All (λ log. log.adds.items ≡ []) r.logs.items
