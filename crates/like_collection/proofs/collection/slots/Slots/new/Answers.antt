use Rattle.std.proofs.Common.{ℕ, None, List, Option, [], ◌++◌, ◌∷◌, get_or, map, replicate, take, ap, sym, ◌∙◌}
use Rattle.std.proofs.lemmas.List.{map-append, take_all, take_more}
use Rattle.like_promises.specs.declared.answer.Answer.{Answer}
use Rattle.like_collection.proofs.collection.slots.Slots.new.Goals as goal

-- the places of a submitter with this many requests
abbrev empty : ℕ → List (Option Answer)
empty size = replicate size None

pub loop-size-preserved : goal.loop-size-preserved
loop-size-preserved c =
    let l = c.loop-size in
    let sizes = c.args.sizes.now in
    let done : List (List (Option Answer)) = map empty (take l.size-index sizes) in
    let more = take_more sizes l.size-index 0 c.loop-size-test.true in
    c.in_ok-push.ensures.items
    ∙ (ap (λ (rows : List (List (Option Answer))). rows ++ c.in_ok-new.field-0 ∷ []) l.invariant
    ∙ (ap (λ (row : List (Option Answer)). done ++ row ∷ []) c.in_ok-new.ensures
    ∙ sym (ap (map empty) more ∙ map-append empty (take l.size-index sizes) (get_or sizes l.size-index 0 ∷ []))))

pub returns : goal.returns
returns c =
    c.loop-size.invariant
    ∙ ap (map empty) (take_all c.loop-size.size-index c.args.sizes.now c.loop-size-test.false)
