use Rattle.std.proofs.Common.{◌<◌, length}
use Rattle.like_tables.specs.Ranks.{AreTaken}
use Rattle.like_tables.proofs.Walk.{IsAt}
use Rattle.like_tables.proofs.share.UserShare.take.Given as goal

abbrev pub invariant-loop-rank : goal.invariant-loop-rank
invariant-loop-rank l = record {
  taken : AreTaken l.self l.lasts l.pages l.rank;
  at : l.rank < length l.pages → IsAt l.self l.round l.submitter l.rank;
}
