use Rattle.std.proofs.Common.{◌≡◌, length, map, take}
use Rattle.test_parts.proofs.roles.sizes_of.Given as goal

abbrev pub invariant-loop-plan : goal.invariant-loop-plan
invariant-loop-plan l = l.sizes.items ≡ map (λ plan. length plan.items) (take l.plan-index l.plans)
