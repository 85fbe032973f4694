use Rattle.std.proofs.Common.{◌≡◌, map}
use Rattle.like_queue.specs.Lines.{new_ends}
use Rattle.like_queue.proofs.lines.Lines.new.Given as goal

abbrev pub invariant-loop-plan : goal.invariant-loop-plan
invariant-loop-plan l = record {
  plans_are : map (λ line. line.plan) l.lines.items ≡ map (λ plan. plan.items) l.yielded;
  passes : l.passes.items ≡ map new_ends l.lines.items;
}
