use Rattle.std.proofs.Common.{◌∙◌, arith}
use Rattle.like_choice.specs.Slots.{SlotsView}
use Rattle.like_choice.proofs.Choosing.{AreSlots-filled, Chooses-filled}
use Rattle.like_choice.proofs.slots.Slots.choose.Goals as goal

pub invariant_of-self : goal.invariant_of-self
invariant_of-self c =
    let s = c.self.inside in
    let v : SlotsView =
    record { factor = s.factor; pages = s.pages; marks = s.marks; slots = s.slots; bits = s.bits } in
    AreSlots-filled v c.args.proposed.now _ _ _ c.self.invariant c.kept-self-inside.ensures c.fill-self-inside.ensures
    (c.fill-self-inside.auto.slots ∙ c.self.invariant.all) (omega (arith, c.fill-self-inside.type_inv))

pub returns-clause-chooses : goal.returns-clause-chooses
returns-clause-chooses c =
    let s = c.self.inside in
    let v : SlotsView =
    record { factor = s.factor; pages = s.pages; marks = s.marks; slots = s.slots; bits = s.bits } in
    rw (← c.self.view_is)
    (Chooses-filled v c.args.proposed.now _ _ _ c.self.invariant c.kept-self-inside.ensures c.fill-self-inside.ensures)

pub returns-clause-lawful : goal.returns-clause-lawful
returns-clause-lawful c =
    let s = c.self.inside in
    let v : SlotsView =
    record { factor = s.factor; pages = s.pages; marks = s.marks; slots = s.slots; bits = s.bits } in
    AreSlots-filled v c.args.proposed.now _ _ _ c.self.invariant c.kept-self-inside.ensures c.fill-self-inside.ensures
    (c.fill-self-inside.auto.slots ∙ c.self.invariant.all) (omega (arith, c.fill-self-inside.type_inv))
