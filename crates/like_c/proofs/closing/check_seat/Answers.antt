use Rattle.std.proofs.Common.{refl}
use Rattle.std.proofs.lemmas.Bool.{false≢true}
use Rattle.like_c.specs.Closes.{is_there}
use Rattle.like_c.proofs.closing.check_seat.Goals as goal

pub returns-then-not-is_gone-clause-refused : goal.returns-then-not-is_gone-clause-refused
returns-then-not-is_gone-clause-refused c =
    is_there c.in-Some.boxed.now c.in-Some.ensures.seat (λ gone. false≢true (c.if-not-is_gone.ensures.1 gone)) refl
