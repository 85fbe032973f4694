use Rattle.std.proofs.Common.{arith}
use Rattle.std.proofs.lemmas.Bool.{MatchBool-at_false}
use Rattle.like_choice.specs.Slots.{IsTaken}
use Rattle.like_choice.proofs.Filling.{Fills-put}
use Rattle.like_choice.proofs.slots.fill.put.Goals as goal

pub returns-in-Some : goal.returns-in-Some
returns-in-Some c =
    let a = c.args in
    let taken = IsTaken a.factor a.slots.now a.bits a.page in
    let found = c.in-Some.ensures.some in
    Fills-put a.factor a.pages a.page a.slots.now a.bits c.with_bit.result c.in-Some.slot c.requires found.0 found.1
    c.with_bit.ensures (omega arith) (MatchBool-at_false taken (¬ taken) c.if-is_taken.false c.is_taken.ensures)
