use Rattle.like_tables.proofs.PageSets.{IsScanned}
use Rattle.like_tables.proofs.page_set.PageSet.next.Given as goal

abbrev pub invariant-loop-place : goal.invariant-loop-place
invariant-loop-place l = IsScanned l.self l.from l.place l.counted
