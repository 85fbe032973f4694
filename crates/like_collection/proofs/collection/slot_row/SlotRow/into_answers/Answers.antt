use Rattle.std.proofs.Common.{◌≡◌, ◌+◌, ◌<◌, List, ◌∷◌, [], ◌∙◌, None, Some, Option, false, cond, Bool, add-one, ap, get_or, length, map, sym, subst, take, arith}
use Rattle.std.proofs.lemmas.List.{take_all}
use Rattle.like_promises.specs.declared.reply.Reply.TheVariants.{Liked}
use Rattle.like_promises.specs.declared.answer.Answer.{Answer}
use Rattle.like_collection.specs.declared.collect_fault.CollectFault.TheVariants.{Missing}
use Rattle.like_collection.specs.Entries.{IsLeast}
use Rattle.like_collection.specs.Slots.{IsSlot, IsSlotsFault, answers_there, slot_at}
use Rattle.like_collection.proofs.slots.Empty.{first_of_row}
use Rattle.like_collection.proofs.slots.There.{get_or-there, length-there, take-there}
use Rattle.like_collection.proofs.collection.slot_row.SlotRow.into_answers.Goals as goal

-- what stands past the end of the answers
abbrev past : Answer
past = record { phase = 0; stashed = false; reply = Liked }

pub loop-place-preserved : goal.loop-place-preserved
loop-place-preserved c =
    let there = c.deref-is_there-items.result.now in
    let answers = c.self.inside.answers.items in
    let same : length there ≡ length answers = ap length c.deref-is_there-items.ensures.value ∙ c.self.invariant in
    take-there there answers c.loop-place.place past same
    (omega (arith, c.loop-place-test.true, same)) c.if-not-is_there.false c.loop-place.invariant

pub overflow_cast-number : goal.overflow_cast-number
overflow_cast-number c =
    let answers = c.self.inside.answers.items in
    let size = length-there c.self.inside.there.items answers c.self.invariant in
    omega (
      arith,
      size,
      ap length c.self.view_is,
      c.self.invariant,
      ap length c.deref-is_there-items.ensures.value,
      c.loop-place-test.true,
    )

pub overflow_add-number : goal.overflow_add-number
overflow_add-number c =
    let answers = c.self.inside.answers.items in
    let size = length-there c.self.inside.there.items answers c.self.invariant in
    omega (
      arith,
      size,
      ap length c.self.view_is,
      c.self.invariant,
      ap length c.deref-is_there-items.ensures.value,
      c.loop-place-test.true,
    )

pub returns-then-not-is_there : goal.returns-then-not-is_there
returns-then-not-is_there c =
    let place = c.loop-place.place in
    let there = c.deref-is_there-items.result.now in
    let answers = c.self.inside.answers.items in
    let same : length there ≡ length answers = ap length c.deref-is_there-items.ensures.value ∙ c.self.invariant in
    let within : place < length answers = omega (arith, c.loop-place-test.true, same) in
    let whole : answers_there there answers ≡ c.args.self =
    ap (λ t. answers_there t answers) c.deref-is_there-items.ensures.value ∙ c.self.view_is in
    let size = length-there there answers same in
    let empty : get_or (answers_there there answers) place None ≡ None =
    get_or-there there answers place past same within
    ∙ ap (λ (b : Bool). cond b (Some (get_or answers place past)) None) c.if-not-is_there.true in
    let first = first_of_row (answers_there there answers) place (take place answers)
    (omega (arith, size, within)) empty c.loop-place.invariant in
    subst (λ (row : List (Option Answer)). IsSlotsFault c.args.submitter (row ∷ [])
    (Missing c.args.submitter (place + 1))) whole (
      0,
      omega arith,
      subst (IsLeast (IsSlot (answers_there there answers ∷ []))
          (λ s m. slot_at (answers_there there answers ∷ []) s m ≡ None) 0) (sym (add-one place)) first,
    )

pub returns : goal.returns
returns c =
    let place = c.loop-place.place in
    let there = c.deref-is_there-items.result.now in
    let answers = c.self.inside.answers.items in
    let same : length there ≡ length answers = ap length c.deref-is_there-items.ensures.value ∙ c.self.invariant in
    let whole : answers_there there answers ≡ c.args.self =
    ap (λ t. answers_there t answers) c.deref-is_there-items.ensures.value ∙ c.self.view_is in
    let size = length-there there answers same in
    let some : Answer → Option Answer = Some in
    let all = take_all place (answers_there there answers) (omega (arith, size, same, c.loop-place-test.false)) in
    sym whole ∙ (sym all
    ∙ (c.loop-place.invariant
    ∙ ap (map some) (take_all place answers (omega (arith, same, c.loop-place-test.false)))))
