use Rattle.std.proofs.Common.{◌<◌, ◌^◌}
use Rattle.like_choice.proofs.samples.reader.Reader.count_new.Given as goal

abbrev pub invariant-loop-step : goal.invariant-loop-step
invariant-loop-step l = l.stored < 2 ^ 30
