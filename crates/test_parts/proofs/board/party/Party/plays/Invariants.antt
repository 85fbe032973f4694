use Rattle.test_parts.specs.Walk.{KeepsSeat}
use Rattle.test_parts.proofs.board.party.Party.plays.Given as goal

abbrev pub invariant-loop-part : goal.invariant-loop-part
invariant-loop-part g l = KeepsSeat l.initial.self.leader.seat l.self.leader.seat
