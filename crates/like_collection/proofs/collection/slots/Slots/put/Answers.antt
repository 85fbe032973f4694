use Rattle.std.proofs.Common.{arith, [], ◌∷◌, ◌++◌, refl}
use Rattle.std.proofs.lemmas.Grind.{common_steps}
use Rattle.like_collection.specs.declared.collect_fault.CollectFault.TheVariants.{Stranger, Double}
use Rattle.like_collection.proofs.slots.Collecting.{IsEntryFault-refused}
use Rattle.like_collection.proofs.slots.Holding.{HoldsAll-put}
use Rattle.like_collection.proofs.collection.slots.Slots.put.Goals as goal

pub returns-then-not-has_slot : goal.returns-then-not-has_slot
returns-then-not-has_slot c = λ sizes before held.
    let e = c.args.entry.now in
    IsEntryFault-refused sizes before c.args.self.now e [] (before ++ e ∷ []) (Stranger e.submitter e.number) held refl
    (grind (arith, common_steps))

pub returns-then-has : goal.returns-then-has
returns-then-has c = λ sizes before held.
    let e = c.args.entry.now in
    IsEntryFault-refused sizes before c.args.self.now e [] (before ++ e ∷ []) (Double e.submitter e.number) held refl
    (grind (arith, common_steps))

pub returns : goal.returns
returns c = λ sizes before held. HoldsAll-put sizes before c.args.self.now c.args.entry.now _ held (grind (arith, common_steps))
