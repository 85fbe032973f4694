use Rattle.std.proofs.Common.{◌<◌, length}
use Rattle.like_tables.specs.Ranks.{IsGiven}
use Rattle.like_tables.proofs.Walk.{IsAt}
use Rattle.like_tables.proofs.share.UserShare.give.Given as goal

abbrev pub invariant-loop-page : goal.invariant-loop-page
invariant-loop-page l = record {
  given : IsGiven l.self l.pages l.initial.last l.last l.page-index;
  at : l.page-index < length l.pages → IsAt l.self l.round l.submitter l.page-index;
}
