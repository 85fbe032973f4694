use Rattle.std.proofs.Common.{◌≡◌, vec_len}
use Rattle.like_choice.proofs.samples.Samples.new.Given as goal

abbrev pub invariant-loop : goal.invariant-loop
invariant-loop l = vec_len l.readers ≡ l.counter
