use Rattle.std.proofs.Common.{rules}
use Rattle.like_collection.proofs.slots.There.{there-start}
use Rattle.like_collection.proofs.collection.slot_row.SlotRow.new.Goals as goal

pub returns : goal.returns
returns c =
    let answers = c.in_ok-vec.ensures.items_if_clones_equal (λ y same. search rules) in
    let there = c.in_ok-vec-2.ensures.items_if_clones_equal (λ y same. search rules) in
    rw (answers, there) (there-start c.args.size _)
