use Rattle.std.proofs.Common.{◌<◌}
use Rattle.like_choice.proofs.samples.table.place_in.Given as goal

abbrev pub invariant-loop-place : goal.invariant-loop-place
invariant-loop-place l = l.weakest < 4
