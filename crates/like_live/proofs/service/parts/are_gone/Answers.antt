use Rattle.std.proofs.Common.{rules}
use Rattle.like_live.proofs.service.parts.are_gone.Goals as goal

pub returns : goal.returns
returns c = search rules
