use Rattle.std.proofs.Common.{◌≡◌, ◌≤◌, ◌+◌, ◌∙◌, ℕ, List, Result, Ok, Err, IfOk, OnOk, length, map, refl, sym, subst, ap, arith}
use Rattle.std.proofs.lemmas.List.{length-map}
use Rattle.std.proofs.lemmas.Result.{IfOk-weaker}
use Rattle.like_limits.specs.Limits.{max_submitters}
use Rattle.like_requests.specs.Setup.{IsWithinLimits}
use Rattle.like_requests.specs.declared.request.Request.{Request}
use Rattle.like_requests.specs.declared.setup.Setup.{Setup}
use Rattle.like_board.specs.Seats.{board_id, board_numbers}
use Rattle.like_queue.specs.Line.{Sender, Taker, inbox_of}
use Rattle.like_crew.specs.declared.ended.Ended.{Ended}
use Rattle.like_crew.specs.declared.site.Site.{Site}
use Rattle.like_promises.specs.Workload.{lists_of, workload_of}
use Rattle.like_crew.specs.Crew.{CrewView, IsCrew, crew_of}
use Rattle.like_crew.specs.Ended.{IsEnded}
use Rattle.like_crew.specs.Server.{plans_of}
use Rattle.like_crew.specs.Site.{IsSite}
use Rattle.like_crew.proofs.Asked.{requests_of}
use Rattle.like_crew.proofs.Ending.{as-many}
use Rattle.like_crew.proofs.Makings.{all-small, are-untouched, plans-are}
use Rattle.like_promises.specs.declared.run_fault.RunFault.{RunFault}
use Rattle.like_queue.specs.declared.lines.Lines.{Lines}
use Rattle.like_queue.specs.Lines.{AreLines, new_sender, new_taker}
use Rattle.like_run.specs.Threads.{HasEndedOn}
use Rattle.like_run.proofs.Lines.{ends-new, inboxes-of, many-ends}
use Rattle.like_run.proofs.threads.run_at.Goals as goal

-- the inboxes at which the workers take have the plans of the lines
plans-taken : (plans : List (List Request)) (l : Lines) (takes : List Taker)
    → AreLines plans l
    → takes ≡ map new_taker l.lines.items
    → plans_of (map inbox_of takes) ≡ plans
plans-taken plans l takes are is = plans-are (map inbox_of takes) plans (inboxes-of plans l takes are is)

-- a crew of these plans that has ended on threads has ended at its site
ended-at : (setup : Setup) (plans : List (List Request)) (site : Site) (starts : ℕ) (crew : CrewView)
    (ends : List Sender) (r : Result Ended RunFault)
    → IsCrew setup plans site crew
    → IfOk r (HasEndedOn starts crew ends)
    → IfOk r (IsEnded (IsCrew setup plans site))
ended-at setup plans site starts crew ends r is h =
    IfOk-weaker r (HasEndedOn starts crew ends) (IsEnded (IsCrew setup plans site))
    (λ e on. record {
      crew = on.ended.crew;
      of = subst (IsCrew setup plans site) (sym on.ended.of) is;
      left = on.ended.left;
      coordinator = on.ended.coordinator;
      later = on.ended.later;
      coordinator_is = on.ended.coordinator_is;
    }) h

-- and enough threads could be started
enough-started : (setup : Setup) (plans : List (List Request)) (site : Site) (starts : ℕ) (crew : CrewView)
    (ends : List Sender) (r : Result Ended RunFault)
    → IsCrew setup plans site crew
    → length ends ≡ length plans
    → IfOk r (HasEndedOn starts crew ends) → OnOk r (setup.workers + length plans ≤ starts)
enough-started setup plans site starts crew ends (Ok e) is many on =
    omega (
      arith,
      on.enough,
      many,
      as-many (workload_of setup plans) setup.workers
          (board_numbers (board_id site.board)) site.notes crew.servers is.crew.servers,
    )
enough-started setup plans site starts crew ends (Err fault) is many h = tt

pub new-requires : goal.new-requires
new-requires g c = all-small c.args.setup.now c.args.plans.items c.requires.within

pub of_inboxes-requires-clause-within : goal.of_inboxes-requires-clause-within
of_inboxes-requires-clause-within g c =
    let plans = plans-taken
    (lists_of c.args.plans.items) c.in_ok-lines.field-0 c.in_ok-sends.takes.items c.in_ok-lines.ensures
    (c.in_ok-sends.ensures.takes ∙ ap (map new_taker) c.deref.ensures.value) in
    subst (IsWithinLimits c.args.setup.now) (sym plans) c.requires.within

pub of_inboxes-requires-clause-untouched : goal.of_inboxes-requires-clause-untouched
of_inboxes-requires-clause-untouched g c =
    are-untouched (map inbox_of c.in_ok-sends.takes.items) (lists_of c.args.plans.items)
    (inboxes-of (lists_of c.args.plans.items) c.in_ok-lines.field-0 c.in_ok-sends.takes.items c.in_ok-lines.ensures
    (c.in_ok-sends.ensures.takes ∙ ap (map new_taker) c.deref.ensures.value))

pub of_inboxes-requires-clause-closed : goal.of_inboxes-requires-clause-closed
of_inboxes-requires-clause-closed g c = λ k d there. refl

pub of_inboxes-requires-clause-site : goal.of_inboxes-requires-clause-site
of_inboxes-requires-clause-site g c =
    let plans = plans-taken
    (lists_of c.args.plans.items) c.in_ok-lines.field-0 c.in_ok-sends.takes.items c.in_ok-lines.ensures
    (c.in_ok-sends.ensures.takes ∙ ap (map new_taker) c.deref.ensures.value) in
    subst (λ asked. IsSite c.args.setup.now asked c.args.site.now) (sym plans) c.requires.site

pub on_threads-requires-after_bounds : goal.on_threads-requires-after_bounds
on_threads-requires-after_bounds g c κs within =
    let few : length (lists_of c.args.plans.items) ≤ max_submitters = c.requires.within.1.0.1 in
    ends-new (lists_of c.args.plans.items) c.in_ok-lines.field-0 c.in_ok-sends.sends.items c.in_ok-lines.ensures few
    (c.in_ok-sends.ensures.sends ∙ ap (map new_sender) c.deref.ensures.value)

pub returns-clause-ended : goal.returns-clause-ended
returns-clause-ended g c =
    let plans = plans-taken
    (lists_of c.args.plans.items) c.in_ok-lines.field-0 c.in_ok-sends.takes.items c.in_ok-lines.ensures
    (c.in_ok-sends.ensures.takes ∙ ap (map new_taker) c.deref.ensures.value) in
    let crew = subst (λ asked. IsCrew c.args.setup.now asked c.args.site.now (crew_of c.in_ok-crew.crew)) plans
    c.in_ok-crew.ensures.crew in
    ended-at c.args.setup.now
    (lists_of c.args.plans.items) c.args.site.now c.args.starts (crew_of c.in_ok-crew.crew) c.in_ok-sends.sends.items
    c.on_threads.result crew c.on_threads.ensures.ended

pub returns-clause-enough : goal.returns-clause-enough
returns-clause-enough g c =
    let plans = plans-taken
    (lists_of c.args.plans.items) c.in_ok-lines.field-0 c.in_ok-sends.takes.items c.in_ok-lines.ensures
    (c.in_ok-sends.ensures.takes ∙ ap (map new_taker) c.deref.ensures.value) in
    let crew = subst (λ asked. IsCrew c.args.setup.now asked c.args.site.now (crew_of c.in_ok-crew.crew)) plans
    c.in_ok-crew.ensures.crew in
    let many = many-ends
    (lists_of c.args.plans.items) c.in_ok-lines.field-0 c.in_ok-sends.sends.items c.in_ok-lines.ensures
    (c.in_ok-sends.ensures.sends ∙ ap (map new_sender) c.deref.ensures.value) in
    let same = length-map c.args.plans.items requests_of in
    subst (λ (n : ℕ). OnOk c.on_threads.result (c.args.setup.now.workers + n ≤ c.args.starts)) same
    (enough-started c.args.setup.now
    (lists_of c.args.plans.items) c.args.site.now c.args.starts (crew_of c.in_ok-crew.crew) c.in_ok-sends.sends.items
    c.on_threads.result crew many c.on_threads.ensures.ended)
