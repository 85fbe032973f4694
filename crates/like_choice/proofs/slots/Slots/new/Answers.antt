use Rattle.like_choice.proofs.Newly.{AreSlots-new}
use Rattle.like_choice.proofs.slots.Slots.new.Goals as goal

pub invariant_of-result : goal.invariant_of-result
invariant_of-result c = rw (c.marked_first.ensures, c.low_bits.ensures)
    (AreSlots-new c.args.factor c.args.pages c.args.marks.now c.requires.few c.requires.there c.requires.apart)

pub returns-clause-lawful : goal.returns-clause-lawful
returns-clause-lawful c = rw (c.marked_first.ensures, c.low_bits.ensures)
    (AreSlots-new c.args.factor c.args.pages c.args.marks.now c.requires.few c.requires.there c.requires.apart)
