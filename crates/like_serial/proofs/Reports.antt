-- A report that is right end to end is that of one thread, and the other way round.
use Rattle.std.proofs.Common.{◌≡◌, ℕ, Bool, true, false, zero, suc, ◌+◌, ◌<◌, ◌==◌, List, [], ◌∷◌, filter, map, length, get_or, slice_get, Some, subst, ap, sym, ◌∙◌, refl, arith}
use Rattle.std.specs.List.{All}
use Rattle.like_requests.specs.declared.request.Request.{Request}
use Rattle.like_requests.specs.declared.setup.Setup.{Setup}
use Rattle.like_core.specs.declared.view.Addition.{Addition}
use Rattle.like_promises.specs.declared.log.Ran.{Ran}
use Rattle.like_promises.specs.declared.log.WorkerLog.{WorkerLog}
use Rattle.like_promises.specs.declared.report.Report.{Report}
use Rattle.like_promises.specs.Collected.{answer_of, entries_in}
use Rattle.like_promises.specs.EndToEnd.{IsEndToEnd, IsRightReport, runs_of}
use Rattle.like_promises.specs.HotPages.{hot_by}
use Rattle.like_promises.specs.Likes.{count_in}
use Rattle.like_promises.specs.Order.{Entry, entry_of}
use Rattle.like_promises.specs.Replies.{HasRightAnswers, HasRightCounts}
use Rattle.like_promises.specs.Report.{IsReportOf, IsRunOf, workload_by}
use Rattle.like_promises.specs.Serial.{IsSerial, entries_by, run_of}
use Rattle.like_promises.specs.Workload.{Workload, workload_of}
use Rattle.like_promises.specs.places.Calls.{calls_of}
use Rattle.like_promises.specs.places.Tiling.{ArePlacesTiled}
use Rattle.like_serial.specs.Laws.{OneThreadIsRight, RightIsOneThread}
use Rattle.like_serial.proofs.Answers.{own_answers}
use Rattle.like_serial.proofs.Collected.{entries_same}
use Rattle.like_serial.proofs.Ends.{end_is_store}
use Rattle.like_serial.proofs.Follows.{same_counts, serial_is_between}
use Rattle.like_serial.proofs.Growth.{between_same, count_same, grew_same}
use Rattle.like_serial.proofs.OneThread.{one_thread_is_serial, serial_in}
use Rattle.like_serial.proofs.Phases.{Rises, rises_of}
use Rattle.like_serial.proofs.RunOrder.{block_of, in_order, rises_filter, rises_map}
use Rattle.like_serial.proofs.Seen.{not_some, some_is}
use Rattle.like_serial.proofs.Serial.{phase_of, server_of}
use Rattle.like_serial.proofs.Weigh.{weigh, weigh-append}

-- all logs together have the entries of their run lists, and of a serial list
entries_weigh : (f : Ran → ℕ) (logs : List WorkerLog) → weigh f (entries_in logs) ≡ weigh (weigh f) (runs_of logs)
entries_weigh f [] = refl
entries_weigh f (log ∷ logs) =
    weigh-append f log.ran.items (entries_in logs) ∙ ap (λ n. weigh f log.ran.items + n) (entries_weigh f logs)

entries_count : (workload : Workload) (workers : ℕ) (logs : List WorkerLog) (serial : List Ran)
    → IsSerial workload workers (runs_of logs) serial
    → (f : Ran → ℕ)
    → weigh f serial ≡ weigh f (entries_in logs)
entries_count workload workers logs serial is f =
    same_counts workload workers (runs_of logs) serial is f ∙ sym (entries_weigh f logs)

-- so each count in a run list has its bounds by the entries of all
pub seen_counts : (workload : Workload) (workers worker : ℕ) (logs : List WorkerLog) (serial : List Ran)
    → IsSerial workload workers (runs_of logs) serial
    → HasRightCounts workload (entries_in logs) (run_of (runs_of logs) worker)
seen_counts workload workers worker logs serial is i page e at seen =
    between_same workload serial (entries_in logs) (entries_count workload workers logs serial is) e.phase page
    (count_in e.reply) _ _ (serial_is_between workload workers worker (runs_of logs) serial is i page e at seen)

-- a report that is right end to end is that of its serial list
is_run : (workload : Workload) (workers : ℕ) (r : Report) (e : IsEndToEnd workload workers r)
    → IsRunOf workload workers r e.one_order.0
is_run workload workers r e =
    let serial = e.one_order.0 in
    let is = e.one_order.1 in
    let end = end_is_store workload workers r.logs.items serial is in
    record {
      one = record {
        own = is.own;
        rising = is.rising;
        replies = is.replies;
        counts = e.counts ∙ sym end.0;
        last = e.last ∙ sym end.1;
        answers = record {
          sized = e.replies.sized;
          each = λ submitter number.
              ap (map answer_of) (sym (entries_same workload workers r.logs.items serial is submitter number))
              ∙ e.replies.each submitter number;
        };
      };
      workers_all = e.workers_all;
      logs = λ worker log at.
          let l = e.logs worker log at in
          record {
            taken = l.0.taken;
            rising = l.0.rising;
            ended = l.1;
            ran = λ phase.
                ap (filter (λ (x : Entry). x.phase == phase)) l.0.ran ∙ block_of workload log.taken.items phase;
            stashed = l.0.stashed;
            last = l.0.last;
          };
      joined = e.joined;
      hot = e.hot;
    }

-- the run list of a log
run_at : (logs : List WorkerLog) (w : ℕ) (log : WorkerLog)
    → slice_get logs w ≡ Some log
    → run_of (runs_of logs) w ≡ log.ran.items
run_at [] w log at = absurd (not_some log at)
run_at (l ∷ logs) zero log at = ap (λ (x : WorkerLog). x.ran.items) (some_is l log at)
run_at (l ∷ logs) (suc w) log at = run_at logs w log at

run_there : (logs : List WorkerLog) (w : ℕ) (d : WorkerLog)
    → w < length logs
    → run_of (runs_of logs) w ≡ (get_or logs w d).ran.items
run_there [] w d there = absurd (omega (arith, there))
run_there (l ∷ logs) zero d there = refl
run_there (l ∷ logs) (suc w) d there = run_there logs w d (omega (arith, there))

-- and the report of one thread is right end to end
module _ (workload : Workload) (workers : ℕ) (r : Report) (serial : List Ran) (h : IsRunOf workload workers r serial)
  where
    is : IsSerial workload workers (runs_of r.logs.items) serial
    is = serial_in workload workers r serial h.one

    own : (worker : ℕ) (log : WorkerLog)
        → slice_get r.logs.items worker ≡ Some log
        → entries_by workers worker serial ≡ log.ran.items
    own worker log at = is.own worker ∙ run_at r.logs.items worker log at

    rises : (worker : ℕ) (log : WorkerLog)
        → slice_get r.logs.items worker ≡ Some log
        → Rises (λ (e : Entry). e.phase) (map entry_of log.ran.items)
    rises worker log at =
        rises_map (λ (e : Entry). e.phase) entry_of log.ran.items
        (subst (Rises phase_of) (own worker log at)
        (rises_filter phase_of (λ (e : Ran). server_of workers e == worker) serial (rises_of phase_of serial is.rising)))

    is_right : IsEndToEnd workload workers r
    is_right =
        let end = end_is_store workload workers r.logs.items serial is in
        record {
          one_order = (serial, is);
          workers_all = h.workers_all;
          logs = λ worker log at.
              let l = h.logs worker log at in (
                record {
                  taken = l.taken;
                  rising = l.rising;
                  ran = in_order workload log.taken.items (map entry_of log.ran.items) (rises worker log at) l.ran;
                  stashed = l.stashed;
                  answers = subst (HasRightAnswers workload) (own worker log at)
                      (own_answers workload workers worker serial (one_thread_is_serial workload serial is.replies).0);
                  last = l.last;
                },
                l.ended,
              );
          replies = record {
            sized = h.one.answers.sized;
            each = λ submitter number.
                ap (map answer_of) (entries_same workload workers r.logs.items serial is submitter number)
                ∙ h.one.answers.each submitter number;
          };
          counts = h.one.counts ∙ end.0;
          last = h.one.last ∙ end.1;
          joined = h.joined;
          seen = λ worker d there.
              subst (HasRightCounts workload (entries_in r.logs.items)) (run_there r.logs.items worker d there)
              (seen_counts workload workers worker r.logs.items serial is);
          hot = h.hot;
        }

-- the hot pages by all entries are those by the serial list
same_hot : (setup : Setup) (plans : List (List Request)) (entries serial : List Ran)
    → ((f : Ran → ℕ) → weigh f serial ≡ weigh f entries)
    → workload_by setup plans serial ≡ workload_by setup plans entries
same_hot setup plans entries serial same =
    let plain = workload_of setup plans in
    ap (λ got. record plain { hot = hot_by setup.hot (length plain.pages) got }) (grew_same plain serial entries same)

pub right_is_one_thread : RightIsOneThread
right_is_one_thread setup plans r e =
    let entries = entries_in r.logs.items in
    let workload = workload_by setup plans entries in
    let serial = e.one_order.0 in
    let same = same_hot setup plans entries serial
    (entries_count workload setup.workers r.logs.items serial e.one_order.1) in
    (serial, subst (λ w. IsRunOf w setup.workers r serial) (sym same) (is_run workload setup.workers r e))

-- the places of a report of settings and plans are right, with the hot pages that follow from its own run lists
abbrev pub HasRightPlaces : Setup → List (List Request) → Report → Type 0
HasRightPlaces setup plans r =
    ArePlacesTiled (workload_by setup plans (entries_in r.logs.items)) r (entries_in r.logs.items)

-- so they are by the serial list
places_by_one : (setup : Setup) (plans : List (List Request)) (r : Report) (serial : List Ran)
    → IsRunOf (workload_by setup plans serial) setup.workers r serial
    → HasRightPlaces setup plans r
    → ArePlacesTiled (workload_by setup plans serial) r serial
places_by_one setup plans r serial run places =
    let entries = entries_in r.logs.items in
    let workload = workload_by setup plans serial in
    let is = serial_in workload setup.workers r serial run.one in
    let same = entries_count workload setup.workers r.logs.items serial is in
    let old = subst (λ w. ArePlacesTiled w r entries) (sym (same_hot setup plans entries serial same)) places in
    record {
      likes = old.likes;
      tiles = old.tiles;
      placed = old.placed;
      in_time = λ worker d within i c inside.
          let was = old.in_time worker d within i c inside in
          let call : Addition =
          get_or (calls_of workload (get_or r.logs.items worker d).adds.items (get_or r.logs.items worker d).ran.items) i c in
          let first = count_same workload serial entries same call.page call.phase in
          let next = count_same workload serial entries same call.page (call.phase + 1) in
          (omega (arith, first, was.0), omega (arith, next, was.1));
      rows = old.rows;
    }

-- a right report is what a run promises
pub right_is_report : (setup : Setup) (plans : List (List Request)) (notes : Bool) (r : Report)
    → IsRightReport setup plans r
    → (notes ≡ true → HasRightPlaces setup plans r)
    → (notes ≡ false → (r.places.items ≡ []) × All (λ log. log.adds.items ≡ []) r.logs.items)
    → IsReportOf setup plans notes r
right_is_report setup plans notes r right places none =
    let one = right_is_one_thread setup plans r right in
    record {
      serial = one.0;
      right = one.1;
      places = λ noted. places_by_one setup plans r one.0 one.1 (places noted);
      none = none;
    }

pub one_thread_is_right : OneThreadIsRight
one_thread_is_right setup plans r serial run =
    let entries = entries_in r.logs.items in
    let workload = workload_by setup plans serial in
    let is = serial_in workload setup.workers r serial run.one in
    let same = same_hot setup plans entries serial (entries_count workload setup.workers r.logs.items serial is) in
    subst (λ w. IsEndToEnd w setup.workers r) same (is_right workload setup.workers r serial run)
