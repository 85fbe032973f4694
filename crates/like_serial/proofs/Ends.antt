-- The store's counts and last likes at the end are the right ones.
use Rattle.std.proofs.Common.{ℕ, ◌+◌, List, length, map, ap, sym, ◌∙◌}
use Rattle.std.specs.List.{range_with_len}
use Rattle.like_requests.specs.Verdict.{home}
use Rattle.like_tables.specs.Share.{worker_of}
use Rattle.like_promises.specs.declared.log.Ran.{Ran}
use Rattle.like_promises.specs.declared.log.WorkerLog.{WorkerLog}
use Rattle.like_promises.specs.EndToEnd.{AreCounts, AreLastLikes, runs_of}
use Rattle.like_promises.specs.Likes.{initial_count}
use Rattle.like_promises.specs.RunStore.{store_after}
use Rattle.like_promises.specs.Serial.{IsSerial}
use Rattle.like_promises.specs.Workload.{Workload, submitters}
use Rattle.like_serial.proofs.Answers.{last_of_own}
use Rattle.like_serial.proofs.Follows.{likes-serial, map-alike}
use Rattle.like_serial.proofs.OneThread.{count_is}

pub end_is_store : (workload : Workload) (workers : ℕ) (logs : List WorkerLog) (serial : List Ran)
    → IsSerial workload workers (runs_of logs) serial
    → AreCounts workload (runs_of logs)
    (map (store_after workload serial).count (range_with_len 0 (length workload.pages)))
    × AreLastLikes workload workers logs (map (store_after workload serial).last (range_with_len 0 workload.users))
end_is_store workload workers logs serial is = (
  map-alike (store_after workload serial).count _ (range_with_len 0 (length workload.pages))
      (λ page. count_is workload serial page
      ∙ ap (λ n. initial_count workload.pages page + n) (sym (likes-serial workload workers (runs_of logs) serial page is))),
  map-alike (store_after workload serial).last _ (range_with_len 0 workload.users)
      (λ user. last_of_own workload workers user serial
      ∙ ap (λ run. (store_after workload run).last user) (is.own (worker_of workers (home (submitters workload) user)))),
)
