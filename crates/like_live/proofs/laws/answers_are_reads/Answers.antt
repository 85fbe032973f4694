use Rattle.like_live.proofs.Answering.{answers_are_reads}
use Rattle.like_live.proofs.laws.answers_are_reads.Goals as goal

pub returns : goal.returns
returns c = answers_are_reads
