-- What each worker's log answers, and how the answers of all logs are put together.
use Rattle.std.specs.Prelude.{◌≡◌, ℕ, ◌==◌, ◌%◌, if◌then◌else◌, List, [], length, map, slice_index_or, slice_get, Some}
use Rattle.std.specs.List.{enumerate_from}
use Rattle.like_promises.specs.{Collected.IsCollected, Collected.rows_of, Types.Answer, Types.Replies, Types.WorkerLog}

-- how many requests of a submitter, given with its size, a worker serves: all or none
abbrev pub own : ℕ → ℕ → ℕ × ℕ → ℕ
own workers worker (submitter, size) = if submitter % workers == worker then size else 0

-- how many of each submitter's
abbrev pub own_sizes : ℕ → ℕ → List ℕ → List ℕ
own_sizes workers worker sizes = map (own workers worker) (enumerate_from 0 sizes)

-- the answers of the requests in a worker's log, one of this many
abbrev pub IsPart : ℕ → List ℕ → ℕ → WorkerLog → Replies → Type 0
IsPart workers sizes worker log part =
    IsCollected (own_sizes workers worker sizes) log.ran.items (rows_of part)

-- the parts of all workers, in the order of their logs
pub record AreParts (sizes : List ℕ) (logs : List WorkerLog) (parts : List Replies) : Type 0 where
  pub all : length parts ≡ length logs
  pub each : (worker : ℕ) (log : WorkerLog) (part : Replies) → slice_get logs worker ≡ Some log
      → slice_get parts worker ≡ Some part → IsPart (length logs) sizes worker log part

-- a submitter's row in the part of its worker
abbrev pub row_in : List (List (List Answer)) → ℕ → List Answer
row_in parts submitter = slice_index_or (slice_index_or parts (submitter % length parts) []) submitter []
