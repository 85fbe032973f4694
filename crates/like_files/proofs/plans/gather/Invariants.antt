use Rattle.std.proofs.Common.{◌≡◌, Ok, length, map, take}
use Rattle.like_files.proofs.plans.gather.Given as goal

abbrev pub invariant-loop-answer : goal.invariant-loop-answer
invariant-loop-answer l = (l.yielded ≡ map Ok l.plans.items) × (take (length l.yielded) l.fn.answers.items ≡ l.yielded)
