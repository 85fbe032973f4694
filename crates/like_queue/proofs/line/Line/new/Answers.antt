use Rattle.like_queue.proofs.Steps.{begins}
use Rattle.like_queue.proofs.line.Line.new.Goals as goal

pub ruled-requires-clause-rule : goal.ruled-requires-clause-rule
ruled-requires-clause-rule c = begins
