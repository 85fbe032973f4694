use Rattle.std.proofs.Common.{ap}
use Rattle.like_queue.specs.declared.known.Known.{Known}
use Rattle.like_queue.proofs.Steps.{splits}
use Rattle.like_queue.proofs.line.split.Goals as goal

pub another-requires-clause-rule : goal.another-requires-clause-rule
another-requires-clause-rule g c = splits g.J.Planned.plan _ _ (ap (λ (v : Known). v.role) c.requires.new)
