-- The run of one thread.
use Rattle.std.specs.Prelude.{◌≡◌, ℕ, ◌+◌, ◌≤◌, ◌==◌, List, [], filter, map, take, slice_get, slice_index_or, AllPairs, Some}
use Rattle.like_tables.specs.Share.{worker_of}
use Rattle.like_promises.specs.Likes.{count_in, initial_count, likes_among, look_ran}
use Rattle.like_promises.specs.{Asked.asks, RunStore.start, Store.replies, Types.Ran, Workload.Workload}

-- the run list of a worker
abbrev pub run_of : List (List Ran) → ℕ → List Ran
run_of runs worker = slice_index_or runs worker []

-- the entries of a worker, in their order
abbrev pub entries_by : ℕ → ℕ → List Ran → List Ran
entries_by workers worker entries = filter (λ e. worker_of workers e.submitter == worker) entries

-- phases never fall along the entries
abbrev pub AreRising : List Ran → Type 0
AreRising entries = AllPairs (λ d e. d.phase ≤ e.phase) entries

-- exact counts: the count in the reply to a look is the page's initial count and the likes of the
-- page among the entries before it
abbrev pub HasExactCounts : Workload → List Ran → Type 0
HasExactCounts workload serial =
    (i page : ℕ) (e : Ran) → slice_get serial i ≡ Some e → look_ran workload e ≡ Some page
    → count_in e.reply ≡ initial_count workload.pages page + likes_among workload page (take i serial)

-- serial: the entries of each worker, in their order, are its run list, and there are no others; phases never fall; and
-- the replies are those of the store
pub record IsSerial (workload : Workload) (workers : ℕ) (runs : List (List Ran)) (serial : List Ran)
    : Type 0 where
  pub own : (worker : ℕ) → entries_by workers worker serial ≡ run_of runs worker
  pub rising : AreRising serial
  pub replies : map (λ e. e.reply) serial ≡ replies (start workload) (asks workload serial)

-- one order: the run lists are those of one thread, which ran the same entries one after the other
abbrev pub HasOneOrder : Workload → ℕ → List (List Ran) → Type 0
HasOneOrder workload workers runs = (serial : List Ran) × IsSerial workload workers runs serial
