use Rattle.like_tables.proofs.Inverses.{IsInverse}
use Rattle.like_tables.proofs.home.inverse.Given as goal

abbrev pub invariant-loop-bit : goal.invariant-loop-bit
invariant-loop-bit l = IsInverse l.odd l.inverse l.bit
