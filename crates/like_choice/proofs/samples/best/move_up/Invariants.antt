use Rattle.std.proofs.Common.{◌<◌, length}
use Rattle.like_choice.proofs.samples.best.move_up.Given as goal

abbrev pub invariant-loop-place : goal.invariant-loop-place
invariant-loop-place l = l.place < length l.all

abbrev pub decreases-loop-place : goal.decreases-loop-place
decreases-loop-place l = l.place
