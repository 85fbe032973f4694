use Rattle.std.proofs.Common.{arith}
use Rattle.std.proofs.lemmas.Grind.{common_steps}
use Rattle.like_core.proofs.phase_word.PhaseWord.new.Goals as goal

pub invariant_of-result : goal.invariant_of-result
invariant_of-result c = record {
  lawful = record {
    some_worker = omega arith;
    few_workers = omega arith;
    answered = grind (arith, common_steps);
    retired = grind (arith, common_steps);
    apart = omega arith;
    kind = grind (arith, common_steps);
    joined = grind (arith, common_steps);
    running = grind (arith, common_steps);
    number = omega arith;
    last = grind (arith, common_steps);
  };
}
