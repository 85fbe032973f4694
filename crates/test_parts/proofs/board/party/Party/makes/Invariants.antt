use Rattle.test_parts.specs.Walk.{KeepsSeat}
use Rattle.test_parts.proofs.board.party.Party.makes.Given as goal

abbrev pub invariant-loop-at : goal.invariant-loop-at
invariant-loop-at g l = KeepsSeat l.initial.self.leader.seat l.self.leader.seat
