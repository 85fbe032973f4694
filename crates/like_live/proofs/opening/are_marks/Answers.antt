use Rattle.std.proofs.Common.{rules}
use Rattle.like_live.proofs.opening.are_marks.Goals as goal

pub returns-then-all : goal.returns-then-all
returns-then-all c = search rules
