use Rattle.std.proofs.Common.{◌∙◌, sym, ap, length}
use Rattle.like_collection.proofs.slots.There.{length-there}
use Rattle.like_collection.proofs.collection.slot_row.SlotRow.len.Goals as goal

pub returns : goal.returns
returns c =
    let inside = c.self.inside in
    c.len.ensures
    ∙ (inside.answers.ok.0
    ∙ (sym (length-there inside.there.items inside.answers.items c.self.invariant) ∙ ap length c.self.view_is))
