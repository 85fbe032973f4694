use Rattle.std.proofs.Common.{rules, List, take, subst}
use Rattle.std.proofs.lemmas.List.{take_all}
use Rattle.std.proofs.Math.Facts.{Fits-lt-pow}
use Rattle.std.proofs.lemmas.Result.{MatchResult-weaker}
use Rattle.like_promises.specs.declared.log.WorkerLog.{WorkerLog}
use Rattle.like_collection.specs.CollectFaults.{IsCollectFault}
use Rattle.like_promises.specs.Collected.{rows_of, entries_in}
use Rattle.like_collection.specs.Slots.{HoldsAll}
use Rattle.like_collection.proofs.slots.Collecting.{IsCollectFault-empty, IsCollectFault-log, IsCollected-held, entries_in-more, short_rows}
use Rattle.like_collection.proofs.slots.Holding.{HoldsAll-start}
use Rattle.like_collection.proofs.collection.collect.Goals as goal

pub loop-log-init : goal.loop-log-init
loop-log-init c = HoldsAll-start c.args.sizes.now c.in_ok-slots.slots c.in_ok-slots.ensures

pub returns-in_err-put_all : goal.returns-in_err-put_all
returns-in_err-put_all c =
    let i = c.loop-log.log-index in
    let logs = c.args.logs.now in
    let log = c.log-item.result in
    let sizes = c.args.sizes.now in
    let refused = c.in_err-put_all.ensures sizes (entries_in (take i logs)) c.loop-log.invariant in
    let fault : IsCollectFault sizes (entries_in logs) c.in_err-put_all.field-0.0 =
    IsCollectFault-log sizes logs i log c.in_err-put_all.field-0.0 c.loop-log-test.true c.log-item.is
    (rw c.deref.ensures.value at refused)
    in search (rules, fault)

pub loop-log-preserved : goal.loop-log-preserved
loop-log-preserved c =
    let i = c.loop-log.log-index in
    let logs = c.args.logs.now in
    let log = c.log-item.result in
    let sizes = c.args.sizes.now in
    let held = c.in_ok-put_all.ensures sizes (entries_in (take i logs)) c.loop-log.invariant in
    rw (entries_in-more logs i log c.loop-log-test.true c.log-item.is) (rw c.deref.ensures.value at held)

pub into_replies-requires-clause-short : goal.into_replies-requires-clause-short
into_replies-requires-clause-short c =
    short_rows c.args.sizes.now c.loop-log.slots c.loop-log.invariant.sized (λ k. Fits-lt-pow (c.type_inv.sizes k))

pub returns : goal.returns
returns c =
    let logs = c.args.logs.now in
    let sizes = c.args.sizes.now in
    let slots = c.loop-log.slots in
    let whole = take_all c.loop-log.log-index logs c.loop-log-test.false in
    let held = subst (λ (l : List WorkerLog). HoldsAll sizes (entries_in l) slots) whole c.loop-log.invariant in
    MatchResult-weaker c.into_replies.result c.into_replies.ensures
    (λ replies full. IsCollected-held sizes (entries_in logs) slots (rows_of replies) held full)
    (λ fault found. IsCollectFault-empty sizes (entries_in logs) slots fault held found)
