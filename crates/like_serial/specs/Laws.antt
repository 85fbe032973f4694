-- The laws of run lists, and of reports by a store.
use Rattle.std.specs.Prelude.{◌≡◌, ℕ, ◌+◌, List, map}
use Rattle.like_requests.specs.Types.{Request, Setup}
use Rattle.like_core.specs.Types.{PageStep}
use Rattle.like_promises.specs.Serial.{HasExactCounts, HasOneOrder, IsSerial, run_of}
use Rattle.like_promises.specs.{Asked.asks, EndToEnd.IsRightReport, Likes.likes_within, Replies.HasRightAnswers}
use Rattle.like_promises.specs.{Replies.HasRightCounts, Report.IsRunOf, Report.grew, Report.workload_by, RunStore.start}
use Rattle.like_promises.specs.{Store.replies, Types.Ran, Types.Report, Workload.Workload}
use Rattle.like_serial.specs.RunLists.{AreRunLists, FitsRuns}

-- where one order of page steps fits the run lists, there is a serial list of their entries
abbrev pub RunsAreSerial : Type 0
RunsAreSerial =
    (workload : Workload) (workers last : ℕ) (runs : List (List Ran)) (steps : List PageStep)
    → AreRunLists workload workers runs → FitsRuns workload runs last steps
    → HasOneOrder workload workers runs

-- each count in a serial run's lists has the bounds of Between
abbrev pub SerialIsBetween : Type 0
SerialIsBetween =
    (workload : Workload) (workers worker : ℕ) (runs : List (List Ran)) (serial : List Ran)
    → IsSerial workload workers runs serial → HasRightCounts workload serial (run_of runs worker)

-- where the replies of a list are the store's, each answer is right after the entries before it, and counts are exact
abbrev pub OneThreadIsSerial : Type 0
OneThreadIsSerial =
    (workload : Workload) (serial : List Ran)
    → map (λ e. e.reply) serial ≡ replies (start workload) (asks workload serial)
    → HasRightAnswers workload serial × HasExactCounts workload serial

-- a report that is right end to end is that of one thread
abbrev pub RightIsOneThread : Type 0
RightIsOneThread =
    (setup : Setup) (plans : List (List Request)) (r : Report)
    → IsRightReport setup plans r
    → (serial : List Ran) × IsRunOf (workload_by setup plans serial) setup.workers r serial

-- a report that is that of one thread is right end to end
abbrev pub OneThreadIsRight : Type 0
OneThreadIsRight =
    (setup : Setup) (plans : List (List Request)) (r : Report) (serial : List Ran)
    → IsRunOf (workload_by setup plans serial) setup.workers r serial → IsRightReport setup plans r

-- a page is hot by how much its count grew: by as many likes of it as ran in the two phases before, or in phase 0 before
-- phase 1
abbrev pub GrowthIsLikes : Type 0
GrowthIsLikes =
    (workload : Workload) (entries : List Ran) (phase page : ℕ)
    → (grew workload entries 1 page ≡ likes_within workload page entries 0)
    × (grew workload entries (phase + 2) page
    ≡ likes_within workload page entries phase + likes_within workload page entries (phase + 1))
