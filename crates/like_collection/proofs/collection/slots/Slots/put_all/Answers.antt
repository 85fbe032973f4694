use Rattle.std.proofs.Common.{rules, ◌≡◌, ◌+◌, List, [], ◌∷◌, ◌++◌, false, get_or, take, drop, sym, ap, ◌∙◌, subst, append_assoc}
use Rattle.std.proofs.lemmas.List.{take_all, take_more}
use Rattle.like_promises.specs.declared.log.Ran.{Ran}
use Rattle.like_promises.specs.declared.reply.Reply.TheVariants.{Liked}
use Rattle.like_collection.specs.CollectFaults.{IsEntryFault}
use Rattle.like_collection.specs.Slots.{HoldsAll}
use Rattle.like_collection.proofs.slots.Collecting.{IsEntryFault-longer}
use Rattle.like_collection.proofs.Lists.{parts_at}
use Rattle.like_collection.proofs.collection.slots.Slots.put_all.Goals as goal

-- what stands past the end of the entries
abbrev past : Ran
past = record { phase = 0; submitter = 0; number = 0; stashed = false; reply = Liked }

pub returns-in_err-put : goal.returns-in_err-put
returns-in_err-put c = λ sizes before held.
    let i = c.loop-entry.entry-index in
    let ran = c.args.ran.now in
    let e = get_or ran i past in
    let done = before ++ take i ran in
    let parts : before ++ ran ≡ (done ++ e ∷ []) ++ drop (i + 1) ran =
    ap (λ (r : List Ran). before ++ r) (parts_at ran i past c.loop-entry-test.true)
    ∙ sym (append_assoc before (take i ran) (e ∷ drop (i + 1) ran))
    ∙ sym (append_assoc done (e ∷ []) (drop (i + 1) ran))
    in
    let fault : IsEntryFault sizes (before ++ ran) c.in_err-put.field-0.0 =
    IsEntryFault-longer sizes (done ++ e ∷ []) (drop (i + 1) ran) (before ++ ran) c.in_err-put.field-0.0 parts
    (c.in_err-put.ensures sizes done (c.loop-entry.invariant sizes before held))
    in search (rules, fault)

pub loop-entry-preserved : goal.loop-entry-preserved
loop-entry-preserved c = λ sizes before held.
    let i = c.loop-entry.entry-index in
    let ran = c.args.ran.now in
    let e = get_or ran i past in
    let more : before ++ take (i + 1) ran ≡ (before ++ take i ran) ++ e ∷ [] =
    ap (λ (r : List Ran). before ++ r) (take_more ran i past c.loop-entry-test.true)
    ∙ sym (append_assoc before (take i ran) (e ∷ []))
    in
    let held_more = c.in_ok-put.ensures sizes (before ++ take i ran) (c.loop-entry.invariant sizes before held) in
    subst (λ (l : List Ran). HoldsAll sizes l c.put.new.self) (sym more) held_more

pub returns : goal.returns
returns c = λ sizes before held.
    let whole = take_all c.loop-entry.entry-index c.args.ran.now c.loop-entry-test.false in
    subst (λ (r : List Ran). HoldsAll sizes (before ++ r) c.loop-entry.self) whole
    (c.loop-entry.invariant sizes before held)
