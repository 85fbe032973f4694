use Rattle.std.proofs.Common.{◌<◌, ap, length, arith}
use Rattle.like_collection.proofs.slots.There.{is_some-there, length-there}
use Rattle.like_collection.proofs.collection.slot_row.SlotRow.has.Goals as goal

pub index-requires : goal.index-requires
index-requires c =
    let inside = c.self.inside in
    let size = length-there inside.there.items inside.answers.items c.self.invariant in
    omega (arith, size, ap length c.self.view_is, c.self.invariant, inside.there.ok.0)

pub returns : goal.returns
returns c =
    let inside = c.self.inside in
    let size = length-there inside.there.items inside.answers.items c.self.invariant in
    let within : c.args.place < length inside.answers.items = omega (arith, size, ap length c.self.view_is) in
    rw (← c.self.view_is)
    (is_some-there inside.there.items inside.answers.items c.args.place c.index.result.now c.self.invariant within
    c.index.ensures)
