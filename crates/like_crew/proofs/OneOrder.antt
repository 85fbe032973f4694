-- The run lists that a run leaves are those of one thread.
use Rattle.std.proofs.Common.{◌≡◌, ℕ, ◌+◌, ◌≤◌, ◌==◌, ◌&&◌, Bool, true, false, cond, List, [], ◌∷◌, length, filter, get_or, slice_get, slice_index, Some, All, count_by, inl, inr, refl, sym, ap, ◌∙◌, subst, arith, ne_eqb}
use Rattle.std.proofs.lemmas.Bool.{cases_lt}
use Rattle.std.proofs.lemmas.List.{length-map}
use Rattle.std.proofs.lemmas.Option.{slice_get-get_or}
use Rattle.like_requests.specs.declared.request.Request.{Request}
use Rattle.like_requests.specs.declared.setup.Setup.{Setup}
use Rattle.like_core.specs.declared.log.LogEntry.{LogEntry}
use Rattle.like_core.specs.declared.opening.Opening.{Opening}
use Rattle.like_core.specs.declared.page_step.PageCall.{PageCall}
use Rattle.like_core.specs.declared.page_step.PageCall.TheVariants.{Add, Read, Glance}
use Rattle.like_core.specs.declared.page_step.PageStep.{PageStep}
use Rattle.like_core.specs.declared.view.Addition.{Addition}
use Rattle.like_core.specs.Additions.{added_in}
use Rattle.like_core.specs.Log.{steps_in}
use Rattle.like_core.specs.PageSteps.{AreInTurn, additions_among, adds_to, and_addition, earliest_first, likes_in, likes_of, steps_by}
use Rattle.like_core.specs.views.Order.{HasDone, HasMade}
use Rattle.like_core.specs.views.PostOrder.{IsOrderOf}
use Rattle.like_core.proofs.core.Labels.{added_in-push}
use Rattle.like_core.proofs.views.Ordered.{no_steps}
use Rattle.like_board.specs.declared.worker_seat.WorkerSeat.{WorkerSeat}
use Rattle.like_board.specs.Seats.{seat_view}
use Rattle.like_core.specs.declared.view.WorkerSeatView.{WorkerSeatView}
use Rattle.like_promises.specs.declared.log.Ran.{Ran}
use Rattle.like_promises.specs.declared.log.WorkerLog.{WorkerLog}
use Rattle.like_promises.specs.Collected.{entries_in}
use Rattle.like_promises.specs.EndToEnd.{runs_of}
use Rattle.like_promises.specs.Likes.{initial_count, likes_within}
use Rattle.like_promises.specs.Replies.{HasRightCounts}
use Rattle.like_promises.specs.Serial.{HasOneOrder, run_of}
use Rattle.like_promises.specs.Workload.{Workload}
use Rattle.like_roles.proofs.notes.Noted.{count-none}
use Rattle.like_serial.specs.RunLists.{FitsRunList}
use Rattle.like_serial.specs.StepsTold.{plain_told, steps_ran}
use Rattle.like_serial.proofs.Logs.{logs_are_run_lists}
use Rattle.like_serial.proofs.Reports.{seen_counts}
use Rattle.like_serial.proofs.Serial.{no_run, runs_are_serial}
use Rattle.like_serial.proofs.Weigh.{only, sum-weigh, weigh, weigh-append, weigh-filter}
use Rattle.like_crew.specs.declared.outcome.Outcome.{Outcome}
use Rattle.like_crew.specs.Crew.{IsCrewOf}
use Rattle.like_crew.specs.Outcome.{IsOutcome}
use Rattle.like_crew.specs.Server.{IsLogOf}
use Rattle.like_core.proofs.Lists.{sum-of-map}
use Rattle.like_crew.proofs.Whole.{HasCounted, HaveMasks, SawNoneLater, at-post, initial-at, known, left-at, log-there, logs-are, logs-size, posts, right, run-at, seat-worker, seats-size, served, server-at}

-- nothing is added to a page in a phase
none-added : (a b : Bool) → only a (cond b 0 0) ≡ 0
none-added true true = refl
none-added true false = refl
none-added false b = refl

-- one call more adds this
call_adds : (xs : List Addition) (phase page k q found : ℕ) (call : PageCall)
    → added_in phase page (and_addition xs k q found call)
    ≡ added_in phase page xs + only (k == phase) (cond (q == page) (likes_of call) 0)
call_adds xs phase page k q found (Add n) =
    added_in-push xs k q found n phase page ∙ ap (λ m. added_in phase page xs + m) (both (k == phase) (q == page)) where
      both : (a b : Bool) → cond (a && b) n 0 ≡ only a (cond b n 0)
      both true b = refl
      both false b = refl
call_adds xs phase page k q found Read = let none = none-added (k == phase) (q == page) in omega arith
call_adds xs phase page k q found Glance = let none = none-added (k == phase) (q == page) in omega arith

-- steps of a phase add what the additions among them do
steps_add : (did : List PageStep) (phase page : ℕ)
    → likes_in page (filter (λ s. s.phase == phase) (earliest_first did)) ≡ added_in phase page (additions_among did)
steps_add did phase page =
    sum-weigh (adds_to page) (filter (λ (s : PageStep). s.phase == phase) (earliest_first did))
    ∙ weigh-filter (λ (s : PageStep). s.phase == phase) (adds_to page) (earliest_first did)
    ∙ all did
  where
    all : (steps : List PageStep)
        → weigh (λ s. only (s.phase == phase) (adds_to page s)) (earliest_first steps)
        ≡ added_in phase page (additions_among steps)
    all [] = refl
    all (s ∷ before) =
        let rest = all before in
        let both = weigh-append (λ (t : PageStep). only (t.phase == phase) (adds_to page t)) (earliest_first before) (s ∷ []) in
        let here = call_adds (additions_among before) phase page s.phase s.page s.found s.call in
        omega arith

-- what a worker did fits its run list, if its plain steps and its additions do
pub fits-run : (workload : Workload) (did : List PageStep) (ran : List Ran)
    → plain_told workload (earliest_first did) ≡ steps_ran workload ran
    → ((phase page : ℕ) → likes_within workload page ran phase ≡ added_in phase page (additions_among did))
    → FitsRunList workload (earliest_first did) ran
fits-run workload did ran plain by_phase = record {
  plain = plain;
  by_phase = λ phase page. steps_add did phase page ∙ sym (by_phase phase page);
}

-- where nothing ran, nothing was done
fits-none : (workload : Workload) → FitsRunList workload [] []
fits-none workload = record { plain = refl; by_phase = λ phase page. refl }

module _ (setup : Setup) (plans : List (List Request)) (notes : Bool) (e : Outcome) (h : IsOutcome (IsCrewOf setup plans notes) e)
    (masks : HaveMasks setup plans notes e h) (log : List LogEntry)
    (order : IsOrderOf (slice_index h.crew.coordinator.seat.opening.counts) h.crew.coordinator.seat.phase
    (posts setup plans notes e h) log) where
  -- its steps at pages
  abbrev steps : List PageStep
  steps = steps_in log

  -- what the worker of a log did
  fits-log : (worker : ℕ) (l : WorkerLog) → slice_get e.logs.items worker ≡ Some l
      → FitsRunList (known setup plans notes e h) (earliest_first (steps_by worker steps)) l.ran.items
  fits-log worker l at =
      let s = left-at IsLogOf h.crew.servers e.logs.items worker l h.logs at in
      let is = server-at setup plans notes e h worker s.0 s.1.0 in
      let post : HasDone steps s.0.worker.post =
      (at-post setup plans notes e h (HasMade log) order.each worker s.0 s.1.0).done in
      let its = right setup plans notes e h masks worker s.0 l s.1.0 s.1.1 in
      subst (λ did. FitsRunList (known setup plans notes e h) (earliest_first did) l.ran.items)
      (sym post ∙ ap (λ i. steps_by i steps) is.whose)
      (fits-run (known setup plans notes e h) s.0.worker.post.did l.ran.items its.steps its.by_phase)

  -- no seat is of a worker that is not there
  none-seated : (worker : ℕ) → length e.logs.items ≤ worker
      → count_by (λ seat. (seat_view seat).worker == worker) h.seats ≡ 0
  none-seated worker past =
      count-none (λ (seat : WorkerSeat). (seat_view seat).worker == worker) h.seats
      (λ k d within.
      let own = seat-worker setup plans notes e h k (get_or h.seats k d)
      (slice_get-get_or h.seats k d within) in
      ne_eqb (seat_view (get_or h.seats k d)).worker worker
      (λ same. absurd
      (omega (arith, own, same, within, past, seats-size setup plans notes e h, logs-size setup plans notes e h))))

  fits-worker : (worker : ℕ)
      → FitsRunList (known setup plans notes e h) (earliest_first (steps_by worker steps)) (run_of (runs_of e.logs.items) worker)
  fits-worker worker = elim (cases_lt worker (length e.logs.items)) [
    | inl within ↦
        let found = log-there e.logs.items worker within in
        subst (FitsRunList (known setup plans notes e h) (earliest_first (steps_by worker steps)))
        (sym (run-at e.logs.items worker found.0 found.1))
        (fits-log worker found.0 found.1)
    | inr past ↦
        subst (λ did. FitsRunList (known setup plans notes e h) (earliest_first did) (run_of (runs_of e.logs.items) worker))
        (sym (no_steps (slice_index h.crew.coordinator.seat.opening.counts) h.crew.coordinator.seat.phase (posts setup plans notes e h) log order worker
        (sum-of-map (λ (p : WorkerSeatView). cond {A = ℕ} (p.worker == worker) 1 0) seat_view h.seats
        ∙ none-seated worker past)))
        (subst (FitsRunList (known setup plans notes e h) [])
        (sym (no_run (runs_of e.logs.items) worker
        (omega (arith, past, length-map e.logs.items (λ (log : WorkerLog). log.ran.items)))))
        (fits-none (known setup plans notes e h)))
  ]

  -- each page's count at the start
  first-same : (λ page. get_or h.crew.coordinator.seat.opening.counts page 0) ≡ initial_count setup.pages
  first-same =
      λ i page. (ap (λ (x : Opening). get_or x.counts page 0) h.of.at.opening
      ∙ initial-at (known setup plans notes e h) page) i

  pub one-order : HasCounted setup plans notes e h → SawNoneLater setup plans notes e h
      → HasOneOrder (served setup plans notes e h) setup.workers (runs_of e.logs.items)
  one-order counted phases =
      let lists = logs_are_run_lists (served setup plans notes e h) setup.workers e.phases e.logs.items
      (logs-are setup plans notes e h masks counted phases) in
      let last : ℕ = h.crew.coordinator.seat.phase in
      let found = runs_are_serial (known setup plans notes e h) setup.workers last (runs_of e.logs.items) steps
      (record { own = lists.own; rising = lists.rising; answers = lists.answers })
      (record {
        in_turn = subst (λ (first : ℕ → ℕ). AreInTurn first last steps) first-same order.in_turn;
        each = fits-worker;
      }) in (
        found.0,
        record { own = found.1.own; rising = found.1.rising; replies = found.1.replies },
      )

-- so each count that a look was answered is between its bounds
pub seen-counts : (workload : Workload) (workers : ℕ) (logs : List WorkerLog)
    → HasOneOrder workload workers (runs_of logs)
    → All (λ log. HasRightCounts workload (entries_in logs) log.ran.items) logs
seen-counts workload workers logs order worker d within =
    subst (HasRightCounts workload (entries_in logs))
    (run-at logs worker (get_or logs worker d) (slice_get-get_or logs worker d within))
    (seen_counts workload workers worker logs order.0 order.1)
