use Rattle.std.proofs.Common.{◌≡◌, ◌∙◌, subst, sym, ap}
use Rattle.like_core.specs.declared.opening.Opening.{Opening}
use Rattle.like_crew.specs.Crew.{CrewView, GoesOn}
use Rattle.like_crew.proofs.Closing.{outcome-as}
use Rattle.like_crew.proofs.Coordinated.{crew-further}
use Rattle.like_crew.proofs.lists.Pairs.{pairs-length}
use Rattle.like_crew.specs.Server.{ServerGoesOn}
use Rattle.like_run.specs.Rounds.{HasNotEnded, IsReplayFaultUnderWay}
use Rattle.like_run.specs.Script.{PlaysToEnd}
use Rattle.like_run.proofs.rounds.play.Goals as goal

pub finish-requires-clause-all : goal.finish-requires-clause-all
finish-requires-clause-all c =
    let first = c.args.crew in
    let last = c.make_rounds.new.crew in
    let on : GoesOn first last =
    crew-further first c.open_all.new.self last
    (crew-further first c.make_all.new.crew c.open_all.new.self c.make_all.ensures.goes_on c.open_all.ensures.goes_on)
    c.make_rounds.ensures.goes_on in
    sym (pairs-length ServerGoesOn first.servers last.servers on.servers) ∙ c.requires.all
    ∙ sym (ap (λ (z : Opening). z.workers) on.coordinator.opening)

pub finish-requires-clause-ended : goal.finish-requires-clause-ended
finish-requires-clause-ended c = c.in-Ok.ensures.ended

pub returns-in_ok-finish-in-Ok-clause-script : goal.returns-in_ok-finish-in-Ok-clause-script
returns-in_ok-finish-in-Ok-clause-script c =
    let first = c.args.crew in
    let last = c.make_rounds.new.crew in
    let Played : CrewView → Type 0 = λ crew. GoesOn first crew × PlaysToEnd c.args.script.now first crew in
    let played : Played last = (
      crew-further first c.open_all.new.self last
          (crew-further first c.make_all.new.crew c.open_all.new.self c.make_all.ensures.goes_on
          c.open_all.ensures.goes_on) c.make_rounds.ensures.goes_on,
      record {
        opened = c.open_all.new.self;
        plays = record {
          made = c.make_all.new.crew;
          entries = c.make_all.ensures.makes;
          opens = c.open_all.ensures.opens;
          waits = c.open_all.ensures.rest;
        };
        ends = c.in-Ok.ensures.rounds;
      },
    ) in
    outcome-as (λ crew. crew ≡ last) Played _ (λ crew same. subst Played (sym same) played)
    c.in_ok-finish-in-Ok.ensures

pub returns-in-Err-clause-fault : goal.returns-in-Err-clause-fault
returns-in-Err-clause-fault c =
    subst (IsReplayFaultUnderWay (HasNotEnded c.args.script.now c.args.crew)) (sym c.in-Err.ensures.fault) (record {
      opened = c.open_all.new.self;
      plays = record {
        made = c.make_all.new.crew;
        entries = c.make_all.ensures.makes;
        opens = c.open_all.ensures.opens;
        waits = c.open_all.ensures.rest;
      };
      last = c.make_rounds.new.crew;
      most = c.in-Err.ensures.all;
    })
