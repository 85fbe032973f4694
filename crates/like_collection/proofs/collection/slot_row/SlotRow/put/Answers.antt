use Rattle.std.proofs.Common.{◌∙◌, Some, ap, set, length, arith}
use Rattle.like_collection.proofs.slots.There.{length-there, there-set}
use Rattle.like_collection.proofs.collection.slot_row.SlotRow.put.Goals as goal

pub index_mut-requires : goal.index_mut-requires
index_mut-requires c =
    let inside = c.self.inside in
    let size = length-there inside.there.items inside.answers.items c.self.invariant in
    omega (arith, size, ap length c.self.view_is, inside.answers.ok.0)

pub index_mut-requires-2 : goal.index_mut-requires-2
index_mut-requires-2 c =
    let inside = c.self.inside in
    let size = length-there inside.there.items inside.answers.items c.self.invariant in
    omega (arith, size, ap length c.self.view_is, c.self.invariant, inside.there.ok.0)

pub returns : goal.returns
returns c =
    let inside = c.self.inside in
    there-set inside.there.items inside.answers.items c.args.place c.args.answer c.self.invariant
    ∙ ap (λ slots. set slots c.args.place (Some c.args.answer)) c.self.view_is
