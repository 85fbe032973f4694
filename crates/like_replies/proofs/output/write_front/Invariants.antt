use Rattle.std.proofs.Common.{◌≤◌, length, take}
use Rattle.std.specs.Io.KnownBytes.{Appends}
use Rattle.like_replies.proofs.output.write_front.Given as goal

abbrev pub invariant-loop-write : goal.invariant-loop-write
invariant-loop-write g l =
    (l.done ≤ length l.text) × Appends (g.W.Write.contents l.initial.out) (g.W.Write.contents l.out) (take l.done l.text)
