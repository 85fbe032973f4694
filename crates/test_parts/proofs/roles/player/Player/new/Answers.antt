use Rattle.std.proofs.Common.{sym, subst}
use Rattle.like_requests.proofs.Planned.{worker-within}
use Rattle.like_requests.specs.Setup.{IsWithin}
use Rattle.test_parts.proofs.Playing.{plays_new}
use Rattle.like_promises.specs.Workload.{lists_of}
use Rattle.test_parts.proofs.roles.player.Player.new.Goals as goal

pub worker_of-requires-clause-within : goal.worker_of-requires-clause-within
worker_of-requires-clause-within g c =
    subst (IsWithin c.args.setup.now) (sym c.requires.sizes)
    (worker-within c.args.setup.now (lists_of c.args.plans.now) c.requires.within)

pub invariant_of-result : goal.invariant_of-result
invariant_of-result g c =
    plays_new c.args.setup.now (lists_of c.args.plans.now) c.args.terms c.args.number _ _ _ c.requires.within
    c.requires.sizes c.requires.few c.own_plan-plan.ensures c.requires.post c.in-Ok.ensures.new
