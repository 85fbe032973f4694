use Rattle.like_core.proofs.core.EventLists.{takes_states}
use Rattle.like_core.proofs.core.CoreReached.{keeps_reachable, core_is_exclusive}
use Rattle.like_core.proofs.pure_core.Core.step.Goals as goal

pub returns-in-Some-clause-exclusive : goal.returns-in-Some-clause-exclusive
returns-in-Some-clause-exclusive c = core_is_exclusive c.args.self.now

pub returns-in-None-clause-states : goal.returns-in-None-clause-states
returns-in-None-clause-states c = takes_states c.args.self.now c.apply.new.self c.args.event c.apply.ensures.next

pub returns-in-None-clause-reachable : goal.returns-in-None-clause-reachable
returns-in-None-clause-reachable c =
    keeps_reachable c.args.self.now c.apply.new.self c.args.event c.in-None.ensures c.apply.ensures.next

pub returns-in-None-clause-exclusive : goal.returns-in-None-clause-exclusive
returns-in-None-clause-exclusive c = core_is_exclusive c.apply.new.self
