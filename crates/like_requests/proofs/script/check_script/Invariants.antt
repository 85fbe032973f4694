use Rattle.std.proofs.Common.{ℕ, ◌<◌, slice_index_or}
use Rattle.like_requests.specs.declared.script.Turned.{Turned}
use Rattle.like_requests.specs.Script.{IsInRun}
use Rattle.like_requests.proofs.script.check_script.Given as goal

abbrev pub invariant-loop-at : goal.invariant-loop-at
invariant-loop-at l = (k : ℕ) (d : Turned) → k < l.at → IsInRun l.workers l.submitters (slice_index_or l.script k d)
