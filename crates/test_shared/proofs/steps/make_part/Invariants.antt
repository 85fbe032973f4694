use Rattle.like_shared.specs.Shared.{IsClient}
use Rattle.test_shared.proofs.steps.make_part.Given as goal

abbrev pub invariant-loop-number : goal.invariant-loop-number
invariant-loop-number g l = record {
  client : IsClient l.service l.client;
}
