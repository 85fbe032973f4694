use Rattle.std.proofs.Common.{◌≡◌, ◌+◌, ◌++◌, ◌∷◌, ◌∙◌, [], List, Vec, Global, inl, inr, ap, arith, get_or, length, length-append, map}
use Rattle.std.proofs.lemmas.Bool.{cases_lt}
use Rattle.std.proofs.lemmas.List.{get_or_append_left, get_or_push, length-map, map-append}
use Rattle.like_promises.specs.declared.answer.Answer.{Answer}
use Rattle.like_collection.specs.Parts.{row_in}
use Rattle.like_collection.proofs.Parts.{all-many, tables}
use Rattle.like_collection.proofs.collection.parts.join.Goals as goal

pub take_row-requires-clause-there : goal.take_row-requires-clause-there
take_row-requires-clause-there c k d there =
    let l = c.loop-submitter in
    let size = all-many c.args.parts.items l.parts.items c.args.count l.invariant.sizes c.requires.full k d there in
    omega (arith, size, c.loop-submitter-test.true, l.auto.submitter-end)

pub loop-submitter-preserved : goal.loop-submitter-preserved
loop-submitter-preserved c =
    let l = c.loop-submitter in
    let i = l.invariant in
    let items : Vec Answer Global → List Answer = λ row. row.items in
    let before : List (List Answer) = map items l.rows.items in
    let pushed : map items c.push.new.self.items ≡ before ++ c.take_row.result.items ∷ [] =
    ap (map items) c.in_ok-push.ensures.items ∙ map-append items l.rows.items (c.take_row.result ∷ []) in
    let size : length before ≡ l.submitter = length-map l.rows.items items ∙ i.made in
    record {
      made = ap length c.in_ok-push.ensures.items ∙ length-append l.rows.items (c.take_row.result ∷ [])
          ∙ ap (λ n. n + 1) i.made;
      done = λ k below. ap (λ (rows : List (List Answer)). get_or rows k []) pushed
          ∙ elim (cases_lt k l.submitter) [
            | inl earlier ↦
                get_or_append_left before (c.take_row.result.items ∷ []) [] k (omega (arith, earlier, size))
                ∙ i.done k earlier
            | inr past ↦
                let same : l.submitter ≡ k = omega (arith, past, below) in
                get_or_push before c.take_row.result.items [] k (size ∙ same) ∙ c.take_row.ensures.row
                ∙ ap (row_in (tables l.parts.items)) same ∙ i.rest k (omega (arith, same))
          ];
      rest = λ k above.
          c.take_row.ensures.others k (λ e. absurd (omega (arith, e, above))) ∙ i.rest k (omega (arith, above));
      sizes = c.take_row.ensures.sizes ∙ i.sizes;
    }
