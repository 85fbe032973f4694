use Rattle.std.proofs.Common.{sym, subst}
use Rattle.like_requests.specs.declared.script.Turned.{Turned}
use Rattle.like_crew.specs.Steps.{Makes}
use Rattle.like_run.specs.Rounds.{CanMake}
use Rattle.like_run.proofs.rounds.make.Goals as goal

pub open_one-requires : goal.open_one-requires
open_one-requires c = subst (λ (entry : Turned). CanMake c.args.crew.now.servers entry) c.in-OpenOne.is c.requires

pub turn_of-requires : goal.turn_of-requires
turn_of-requires c = subst (λ (entry : Turned). CanMake c.args.crew.now.servers entry) c.in-Worker.is c.requires

pub returns-in-OpenOne : goal.returns-in-OpenOne
returns-in-OpenOne c = record {
  makes = subst (λ (entry : Turned). Makes entry c.args.crew.now c.open_one.new.self) (sym c.in-OpenOne.is)
      (c.open_one.ensures.opens, c.open_one.ensures.rest);
  goes_on = c.open_one.ensures.goes_on;
}

pub returns-in-Worker : goal.returns-in-Worker
returns-in-Worker c =
    let t = c.turn_of.ensures.case in
    record {
      makes = subst (λ (entry : Turned). Makes entry c.args.crew.now c.turn_of.new.self) (sym c.in-Worker.is) (
        record {
          before =
              t.before;
          after = t.after;
          here = t.here;
          step = (c.turn_of.result, t.step);
          rest = t.rest;
        },
        c.turn_of.ensures.rest,
      );
      goes_on = c.turn_of.ensures.goes_on;
    }

pub returns-in-Coordinator : goal.returns-in-Coordinator
returns-in-Coordinator c = record {
  makes = subst (λ (entry : Turned). Makes entry c.args.crew.now c.turn.new.self) (sym c.in-Coordinator.is)
      (c.turn.result, c.turn.ensures.leads);
  goes_on = c.turn.ensures.goes_on;
}
