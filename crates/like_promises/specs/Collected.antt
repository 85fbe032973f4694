-- What is collected from the entries of run lists: the answer of each request.
use Rattle.std.specs.Prelude.{◌≡◌, ℕ, ◌==◌, ◌&&◌, List, [], filter, length, map, slice_index_or, flat_map, option_to_list}
use Rattle.like_promises.specs.{Types.Answer, Types.Ran, Types.Replies, Types.WorkerLog, Workload.nth}

-- the entries of all logs, in the order of the logs and of their lists
abbrev pub entries_in : List WorkerLog → List Ran
entries_in logs = flat_map (λ log. log.ran.items) logs

-- the entries of a request
abbrev pub entries_of : ℕ → ℕ → List Ran → List Ran
entries_of submitter number entries =
    filter (λ e. (e.submitter == submitter) && (e.number == number)) entries

-- the answer of an entry
abbrev pub answer_of : Ran → Answer
answer_of e = record { phase = e.phase; stashed = e.stashed; reply = e.reply }

-- the answers by submitter and number, as lists
abbrev pub rows_of : Replies → List (List Answer)
rows_of replies = map (λ row. row.items) replies.rows.items

-- there is an answer for each request, and that is the answer of its only entry; nothing else has an entry
pub record IsCollected (sizes : List ℕ) (entries : List Ran) (rows : List (List Answer)) : Type 0 where
  pub sized : map length rows ≡ sizes
  pub each : (submitter number : ℕ)
      → map answer_of (entries_of submitter number entries)
      ≡ option_to_list (nth (slice_index_or rows submitter []) number)
