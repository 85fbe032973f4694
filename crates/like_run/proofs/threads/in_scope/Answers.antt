use Rattle.std.proofs.Common.{◌≡◌, ◌≤◌, ◌∙◌, ℕ, Vec, Global, length, subst, sym, refl, arith}
use Rattle.like_board.specs.declared.worker_seat.WorkerSeat.{WorkerSeat}
use Rattle.like_promises.specs.declared.log.WorkerLog.{WorkerLog}
use Rattle.like_crew.specs.Crew.{crew_of}
use Rattle.like_crew.specs.Ended.{HaveLeft}
use Rattle.like_run.proofs.Started.{threads-fit}
use Rattle.like_run.proofs.threads.in_scope.Goals as goal

-- a list's elements fit where there is room for as many
fits : (size many room : ℕ) → many ≡ size → room ≡ many → size ≤ room
fits size many room sized roomy = omega arith

pub start_all-all-requires-clause-workers : goal.start_all-all-requires-clause-workers
start_all-all-requires-clause-workers g c κs within = (
  c.in-Ok.ensures.workers.0,
  fits (length c.args.crew.servers.items) _ _ (c.len.ensures ∙ c.args.crew.servers.ok.0)
      c.in-Ok.ensures.workers.1,
)

pub start_all-all-requires-clause-submitters : goal.start_all-all-requires-clause-submitters
start_all-all-requires-clause-submitters g c κs within = (
  c.in-Ok.ensures.submitters.0,
  fits (length c.args.ends.items) _ _ (c.len-2.ensures ∙ c.args.ends.ok.0) c.in-Ok.ensures.submitters.1,
)

pub join_all-requires-clause-goes : goal.join_all-requires-clause-goes
join_all-requires-clause-goes g c = c.in-Some.ensures.goes

pub join_all-requires-clause-told : goal.join_all-requires-clause-told
join_all-requires-clause-told g c = λ k d below. c.start_all-all.ensures.told k d below ∙ sym c.in-Some.ensures.of

pub join_all-requires-clause-logs : goal.join_all-requires-clause-logs
join_all-requires-clause-logs g c = (
  c.in-Ok.ensures.logs.0,
  threads-fit c.start_all-all.new.workers.items c.args.crew.servers.items _ _
      (c.start_all-all.ensures.servers c.in-Some.ensures.all) (c.len.ensures ∙ c.args.crew.servers.ok.0)
      c.in-Ok.ensures.logs.1,
)

pub join_all-requires-clause-seats : goal.join_all-requires-clause-seats
join_all-requires-clause-seats g c = (
  c.in-Ok.ensures.seats.0,
  threads-fit c.start_all-all.new.workers.items c.args.crew.servers.items _ _
      (c.start_all-all.ensures.servers c.in-Some.ensures.all) (c.len.ensures ∙ c.args.crew.servers.ok.0)
      c.in-Ok.ensures.seats.1,
)

pub returns-clause-ended : goal.returns-clause-ended
returns-clause-ended g c =
    let servers = c.args.crew.servers.items in
    let left : HaveLeft servers c.join_all.new.logs.items c.join_all.new.seats.items =
    subst (λ xs. HaveLeft xs c.join_all.new.logs.items c.join_all.new.seats.items)
    (c.start_all-all.ensures.servers c.in-Some.ensures.all) c.join_all.ensures in
    record {
      ended = record {
        crew = crew_of c.args.crew;
        of = refl;
        left = subst (λ (logs : Vec WorkerLog Global). HaveLeft servers logs.items c.new-2.result.seats.items)
            (sym c.new-2.ensures.logs)
            (subst (λ (seats : Vec WorkerSeat Global). HaveLeft servers c.join_all.new.logs.items seats.items)
            (sym c.new-2.ensures.seats) left);
        coordinator = c.coordinate.new.coordinator;
        later = c.coordinate.ensures.goes_on;
        coordinator_is = c.new-2.ensures.coordinator;
      };
      enough = c.start_all-all.ensures.enough c.in-Some.ensures.all;
    }
