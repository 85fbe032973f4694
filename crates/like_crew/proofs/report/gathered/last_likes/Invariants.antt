use Rattle.like_crew.proofs.LastLikes.{AreGiven}
use Rattle.like_crew.proofs.report.gathered.last_likes.Given as goal

abbrev pub invariant-loop-log : goal.invariant-loop-log
invariant-loop-log l = AreGiven l.users l.submitters l.logs l.last.items l.log-index
