use Rattle.like_shared.specs.Shared.{IsClient}
use Rattle.test_shared.proofs.steps.make_parts.Given as goal

abbrev pub invariant-loop-number : goal.invariant-loop-number
invariant-loop-number g l = record {
  one : IsClient l.service l.one;
  two : IsClient l.service l.two;
}
