use Rattle.std.proofs.Common.{rules, ◌≡◌, ◌∷◌, [], ◌++◌, ◌∙◌, ap, sym, List, Option, Some, Vec, Global, length, map, refl, arith}
use Rattle.std.proofs.lemmas.Iterator.Adapters.{YieldsList-from_vec}
use Rattle.std.proofs.lemmas.Iterator.Consumers.{YieldsList-end, YieldsList-turn}
use Rattle.std.proofs.lemmas.List.{length-map, map-append, map-id}
use Rattle.like_promises.specs.declared.answer.Answer.{Answer}
use Rattle.like_collection.specs.Slots.{IsSlotsFault}
use Rattle.like_collection.proofs.slots.Empty.{first_of_all}
use Rattle.like_collection.proofs.Lists.{take-more_taken}
use Rattle.like_collection.proofs.collection.slots.answer_rows.Goals as goal

-- the answers in a submitter's vector
abbrev answers_of : Vec Answer Global → List Answer
answers_of row = row.items

-- one more row of which all places are full
full-more : (full : List (List (Option Answer))) (rows : List (Vec Answer Global)) (row : List (Option Answer))
    (answers : Vec Answer Global)
    → full ≡ map (map Some) (map answers_of rows)
    → row ≡ map Some answers.items
    → full ++ row ∷ [] ≡ map (map Some) (map answers_of (rows ++ answers ∷ []))
full-more full rows row answers held is =
    rw (
      map-append answers_of rows (answers ∷ []),
      map-append (map Some) (map answers_of rows) (answers.items ∷ []),
      held,
      is,
    ) refl

-- there are as many rows as places were yielded
length-full : (full : List (List (Option Answer))) (rows : List (Vec Answer Global))
    → full ≡ map (map Some) (map answers_of rows)
    → length full ≡ length rows
length-full full rows held =
    ap length held
    ∙ (length-map (map answers_of rows) (map (let some : Answer → Option Answer = Some in some))
    ∙ length-map rows answers_of)

pub overflow_cast-submitter : goal.overflow_cast-submitter
overflow_cast-submitter c =
    let from = c.into_iter-row-iterator.ensures.into_iter_gives in
    let all = YieldsList-from_vec {s = c.into_iter-row-iterator.result} c.args.slots.items from.0
    (from.1 ∙ c.args.slots.ok.0) in
    let turn = YieldsList-turn all c.loop-row.yielded _ c.loop-row.yielded_by _ c.next.new.self c.in-Some.row
    c.in-Some.is c.next.ensures.steps in
    let size = length-full c.loop-row.yielded c.loop-row.rows.items c.loop-row.invariant.0 in
    omega (arith, c.len-submitter.ensures, c.loop-row.rows.ok.0, size, turn.0, c.requires.few)

pub returns-in_err-into_answers : goal.returns-in_err-into_answers
returns-in_err-into_answers c =
    let from = c.into_iter-row-iterator.ensures.into_iter_gives in
    let all = YieldsList-from_vec {s = c.into_iter-row-iterator.result} c.args.slots.items from.0
    (from.1 ∙ c.args.slots.ok.0) in
    let turn = YieldsList-turn all c.loop-row.yielded _ c.loop-row.yielded_by _ c.next.new.self c.in-Some.row
    c.in-Some.is c.next.ensures.steps in
    let rows = c.loop-row.rows.items in
    let size = length-full c.loop-row.yielded rows c.loop-row.invariant.0 in
    let submitter : c.len-submitter.result ≡ length c.loop-row.yielded =
    c.len-submitter.ensures ∙ (c.loop-row.rows.ok.0 ∙ sym size) in
    let fault : IsSlotsFault 0 c.args.slots.items c.in_err-into_answers.field-0.0 =
    first_of_all c.args.slots.items (length c.loop-row.yielded) c.in-Some.row
    (map answers_of rows) c.in_err-into_answers.field-0.0 turn.0 turn.1
    (c.loop-row.invariant.1 ∙ c.loop-row.invariant.0) (rw submitter at c.in_err-into_answers.ensures)
    in search (rules, fault)

pub loop-row-preserved : goal.loop-row-preserved
loop-row-preserved c =
    let from = c.into_iter-row-iterator.ensures.into_iter_gives in
    let all = YieldsList-from_vec {s = c.into_iter-row-iterator.result} c.args.slots.items from.0
    (from.1 ∙ c.args.slots.ok.0) in
    let turn = YieldsList-turn all c.loop-row.yielded _ c.loop-row.yielded_by _ c.next.new.self c.in-Some.row
    c.in-Some.is c.next.ensures.steps in (
      rw c.in_ok-push.ensures.items
          (full-more c.loop-row.yielded c.loop-row.rows.items c.in-Some.row c.in_ok-into_answers.field-0
          c.loop-row.invariant.0 c.in_ok-into_answers.ensures),
      take-more_taken c.args.slots.items c.loop-row.yielded c.in-Some.row c.loop-row.invariant.1 turn.0 turn.1,
    )

pub returns : goal.returns
returns c =
    let from = c.into_iter-row-iterator.ensures.into_iter_gives in
    let all = YieldsList-from_vec {s = c.into_iter-row-iterator.result} c.args.slots.items from.0
    (from.1 ∙ c.args.slots.ok.0) in
    let end = YieldsList-end all c.loop-row.yielded _ c.loop-row.yielded_by _ c.next.new.self c.in-None.is
    c.next.ensures.steps in
    sym (sym (map-id c.loop-row.yielded) ∙ end.0) ∙ c.loop-row.invariant.0
