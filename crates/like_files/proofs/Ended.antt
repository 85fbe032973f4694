-- Why a run or a replay ended without its report.
use Rattle.std.proofs.Common.{◌≡◌, ◌∙◌, Bool, ◌+◌, ◌*◌, ◌<◌, ◌≤◌, ◌^◌, ℕ, List, [], ◌∷◌, Vec, Global, Option, All, ap, arith, length, map, refl, sym}
use Rattle.std.proofs.lemmas.List.{length-map}
use Rattle.std.proofs.lemmas.List.Elements.{All-head, All-tail}
use Rattle.std.specs.List.{fold}
use Rattle.like_requests.specs.declared.setup.Setup.{Setup}
use Rattle.like_promises.specs.declared.answer.Answer.{Answer}
use Rattle.like_promises.specs.declared.place.Place.{Place}
use Rattle.like_promises.specs.declared.report.Report.{Report}
use Rattle.like_promises.specs.declared.log.Ran.{Ran}
use Rattle.like_promises.specs.places.Tiling.{ArePlacesTiled}
use Rattle.like_promises.specs.Report.{IsReportOf, workload_by}
use Rattle.like_limits.specs.Limits.{max_requests}
use Rattle.like_requests.specs.Pages.{Page}
use Rattle.like_requests.specs.PagesFile.{IsPagesFile}
use Rattle.like_requests.proofs.Planned.{worker-within}
use Rattle.like_requests.specs.Setup.{IsWithinLimits}
use Rattle.like_requests.specs.declared.request.Request.{Request}
use Rattle.like_replies.specs.declared.write_fault.WriteFault.{WriteFault}
use Rattle.like_replies.specs.declared.write_fault.WriteFault.TheVariants as write
use Rattle.like_run.specs.Rounds as run
use Rattle.like_run.specs.declared.rounds.fault.ReplayFault.{ReplayFault}
use Rattle.like_run.specs.declared.rounds.fault.ReplayFault.TheVariants as why
use Rattle.like_promises.specs.RunFault as on_threads
use Rattle.like_promises.specs.declared.run_fault.RunFault.{RunFault}
use Rattle.like_promises.specs.declared.run_fault.RunFault.TheVariants as threads
use Rattle.like_requests.specs.declared.script.Turned.{Turned}
use Rattle.like_replies.specs.Summary.{requests_in}
use Rattle.like_files.specs.Faults.{IsBeforeOutput, fault_of, fault_of_replay, fault_of_run}
use Rattle.like_files.specs.Inputs.{GivesScript, OfRecords, RefusesLists, RefusesPlans}
use Rattle.like_files.specs.Replay.{IsReplayListsFault, IsReplayScriptFault}
use Rattle.like_files.specs.Run.{IsRunListsFault}
use Rattle.like_files.specs.declared.fault.DriverFault.{DriverFault}
use Rattle.like_files.specs.declared.fault.DriverFault.TheVariants.{Pages, Requests, Script, Settings, Start, Unfinished, Write, Memory}

-- right places are one list for each page
pub one_list_a_page : (setup : Setup) (plans : List (List Request)) (report : Report)
    (serial : List Ran)
    → ArePlacesTiled (workload_by setup plans serial) report serial
    → length report.places.items ≡ length setup.pages
one_list_a_page setup plans report serial right =
    sym (length-map report.places.items (λ (row : Vec Place Global). row.items)) ∙ right.rows.sized

-- numbers of at most so many sum up to at most that for each
sum-≤ : (xs : List ℕ) (a : ℕ) → All (λ n. n ≤ max_requests) xs → fold (λ s n. s + n) a xs ≤ a + length xs * max_requests
sum-≤ [] a all = omega arith
sum-≤ (x ∷ xs) a all =
    omega (
      arith,
      sum-≤ xs (a + x) (All-tail (λ n. n ≤ max_requests) x xs all),
      All-head (λ n. n ≤ max_requests) x xs all,
    )

lengths : (rows : List (Vec Answer Global)) (a : ℕ)
    → fold (λ s (row : Vec Answer Global). s + length row.items) a rows
    ≡ fold (λ s n. s + n) a (map length (map (λ (row : Vec Answer Global). row.items) rows))
lengths [] a = refl
lengths (row ∷ rows) a = lengths rows (a + length row.items)

-- the replies of a right report are no more than the requests that a run takes
pub few_requests : (setup : Setup) (plans : List (List Request)) (notes : Bool) (report : Report)
    → IsWithinLimits setup plans
    → IsReportOf setup plans notes report
    → requests_in report.replies < 2 ^ 64
few_requests setup plans notes report within is =
    let sizes : List ℕ = map length plans in
    let same : requests_in report.replies ≡ fold (λ s n. s + n) 0 sizes =
    lengths report.replies.rows.items 0 ∙ ap (fold (λ (s n : ℕ). s + n) 0) is.right.one.answers.sized in
    let numbers = worker-within setup plans within in
    omega (arith, same, sum-≤ sizes 0 numbers.small, numbers.submitters.1)

-- request files that were refused, where the pages file gives these pages
pub lists-refused : (file : Option (List ℕ)) (files : List (Option (List ℕ))) (pages : List Page) (fault : DriverFault)
    → OfRecords file (λ rows. IsPagesFile rows pages)
    → RefusesPlans pages files fault
    → RefusesLists file files fault
lists-refused file files pages (Pages fault) given refused = absurd refused
lists-refused file files pages (Requests submitter fault) given refused = (pages, given, refused)
lists-refused file files pages (Script fault) given refused = absurd refused
lists-refused file files pages (Settings fault) given refused = absurd refused
lists-refused file files pages Start given refused = absurd refused
lists-refused file files pages Unfinished given refused = absurd refused
lists-refused file files pages Write given refused = absurd refused
lists-refused file files pages Memory given refused = absurd refused

-- a fault of writing is no fault before the output
pub not-before : {P : Type 0} (fault : WriteFault) → IsBeforeOutput (fault_of fault) → P
not-before write.Write before = absurd before
not-before write.Memory before = absurd before

module _ (setup : Setup) (plans : List (List Request)) where
  -- a replay gave no report, or its report was not written
  pub replay-refused : (script : List Turned) (fault : ReplayFault) → run.IsReplayFault setup plans script fault
      → IsReplayListsFault setup plans script (fault_of_replay fault)
  replay-refused script (why.Settings fault) refused = refused
  replay-refused script why.Unfinished refused = refused
  replay-refused script why.Memory refused = refused

  pub replay-unwritten : (script : List Turned) (fault : WriteFault) → run.CanReplayScript setup plans script
      → IsReplayListsFault setup plans script (fault_of fault)
  replay-unwritten script write.Write fits = fits
  replay-unwritten script write.Memory fits = fits

  -- the run on threads gave no report, or its report was not written
  pub run-refused : (fault : RunFault) → on_threads.IsRunFault setup plans fault
      → IsRunListsFault setup plans (fault_of_run fault)
  run-refused (threads.Settings fault) refused = refused
  run-refused threads.Start refused = refused
  run-refused threads.Memory refused = refused

  pub run-unwritten : (fault : WriteFault) → IsWithinLimits setup plans → IsRunListsFault setup plans (fault_of fault)
  run-unwritten write.Write within = within
  run-unwritten write.Memory within = within

-- the replay of a script file's entries gave no report
pub replay-fault : (source : Option (Option (List ℕ))) (setup : Setup) (plans : List (List Request))
    (script : List Turned) (fault : DriverFault)
    → GivesScript source script
    → IsReplayListsFault setup plans script fault → IsReplayScriptFault source setup plans fault
replay-fault source setup plans script (Pages fault) given refused = absurd refused
replay-fault source setup plans script (Requests submitter fault) given refused = absurd refused
replay-fault source setup plans script (Script fault) given refused = absurd refused
replay-fault source setup plans script (Settings fault) given refused = (script, given, refused)
replay-fault source setup plans script Start given refused = absurd refused
replay-fault source setup plans script Unfinished given refused = (script, given, refused)
replay-fault source setup plans script Write given fits = (script, given, fits)
replay-fault source setup plans script Memory given fits = (script, given, fits)
