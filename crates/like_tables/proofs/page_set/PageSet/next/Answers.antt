use Rattle.std.proofs.Common.{◌<◌, length, arith}
use Rattle.std.proofs.lemmas.Nat.{and_le_r}
use Rattle.like_tables.proofs.PageSets.{IsNextIn-found, IsScanned-first, IsScanned-next}
use Rattle.like_tables.proofs.page_set.PageSet.next.Goals as goal

pub loop-place-init : goal.loop-place-init
loop-place-init c = IsScanned-first _ c.args.from

pub returns-then-word-ne0-clause-next : goal.returns-then-word-ne0-clause-next
returns-then-word-ne0-clause-next c =
    let there : c.loop-place.place < length c.args.self.now =
    rw (← c.self.view_is) (omega (arith, c.self.inside.words.ok)) in
    let read = rw c.self.view_is at c.index.ensures in
    IsNextIn-found _ c.args.from c.loop-place.place c.loop-place.counted _ there read c.loop-place.invariant
    (omega (arith, c.if-word-ne0.true))
    (omega (arith, and_le_r c.index.result.now c.loop-place.counted, c.loop-place.auto.counted-fits))

pub loop-place-preserved : goal.loop-place-preserved
loop-place-preserved c =
    let there : c.loop-place.place < length c.args.self.now =
    rw (← c.self.view_is) (omega (arith, c.self.inside.words.ok)) in
    let read = rw c.self.view_is at c.index.ensures in
    IsScanned-next _ c.args.from c.loop-place.place c.loop-place.counted _
    (omega arith) there read c.loop-place.invariant c.if-word-ne0.false
