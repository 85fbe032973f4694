use Rattle.std.proofs.Common.{add-one, refl, subst, sym, arith}
use Rattle.like_crew.proofs.Coordinated.{crew-further, crew-same}
use Rattle.like_crew.specs.Steps.{FreshRound}
use Rattle.like_run.specs.Script.{MakesRounds}
use Rattle.like_run.proofs.Scripts.{rounds-more}
use Rattle.like_run.proofs.rounds.make_rounds.Goals as goal

pub loop-init : goal.loop-init
loop-init c = record { rounds = refl; goes_on = crew-same c.args.crew.now }

pub loop-preserved : goal.loop-preserved
loop-preserved c = record {
  rounds = subst (λ n. MakesRounds n c.args.crew.now c.round.new.self) (sym (add-one c.loop.counter))
      (rounds-more c.loop.counter c.args.crew.now c.loop.crew c.round.new.self c.loop.invariant.rounds
      (subst (λ b. FreshRound b c.loop.crew c.round.new.self) c.if-round.false c.round.ensures.round));
  goes_on = crew-further _ c.loop.crew c.round.new.self c.loop.invariant.goes_on c.round.ensures.goes_on;
}

pub returns-then-round-clause-rounds : goal.returns-then-round-clause-rounds
returns-then-round-clause-rounds c = record {
  rounds = c.loop.counter;
  few = omega arith;
  before = c.loop.crew;
  goes_round = c.loop.invariant.rounds;
  ends = subst (λ b. FreshRound b c.loop.crew c.round.new.self) c.if-round.true c.round.ensures.round;
}

pub returns-then-round-clause-goes_on : goal.returns-then-round-clause-goes_on
returns-then-round-clause-goes_on c =
    crew-further _ c.loop.crew c.round.new.self c.loop.invariant.goes_on c.round.ensures.goes_on

pub returns-clause-goes_on : goal.returns-clause-goes_on
returns-clause-goes_on c = c.loop.invariant.goes_on

pub returns-clause-all : goal.returns-clause-all
returns-clause-all c =
    record { rounds = c.loop.counter; all = omega arith; goes_round = c.loop.invariant.rounds }
