use Rattle.std.proofs.Common.{◌≡◌, ◌≢◌, ◌<◌, ◌∙◌, Bor, ℕ, List, [], ap, arith, get_or, length, map, rules, sym}
use Rattle.std.proofs.lemmas.List.{get_or-map, length-map, take_more_same}
use Rattle.std.proofs.lemmas.Option.{get_or_from_slice_get}
use Rattle.like_records.proofs.records.Records.fields_are.Goals as goal

-- the text at a place of a list of texts
text_at : (texts : List (Bor (List ℕ))) (index : ℕ) (d : Bor (List ℕ))
    → index < length texts
    → get_or (map (λ text. text.now) texts) index [] ≡ (get_or texts index d).now
text_at texts index d within = get_or-map (λ (text : Bor (List ℕ)). text.now) texts index d [] within

pub returns-then-ne : goal.returns-then-ne
returns-then-ne g c =
    let at = c.loop-index.index in
    let within : at < length c.args.texts.now = omega arith in
    let text = text_at c.args.texts.now at (record { ref_ptr = (0, 0); now = [] }) within
    ∙ sym c.as_bytes.ensures.value in
    let field = get_or_from_slice_get c.args.self.now.fields at c.field.result.now [] c.field.ensures in
    let differ : c.field.result.now ≢ c.as_bytes.result.now = search rules in (
      (λ yes. cc yes),
      (λ same. absurd (differ (sym field ∙ ap (λ (fields : List (List ℕ)). get_or fields at []) same ∙ text))),
    )

pub loop-index-preserved : goal.loop-index-preserved
loop-index-preserved g c =
    let at = c.loop-index.index in
    let within : at < length c.args.texts.now = omega arith in
    let text = text_at c.args.texts.now at (record { ref_ptr = (0, 0); now = [] }) within
    ∙ sym c.as_bytes.ensures.value in
    let field = get_or_from_slice_get c.args.self.now.fields at c.field.result.now [] c.field.ensures in
    let equal : c.field.result.now ≡ c.as_bytes.result.now = search rules in
    let texts_len = length-map c.args.texts.now (λ text. text.now) in
    take_more_same c.args.self.now.fields (map (λ text. text.now) c.args.texts.now) at [] (omega arith)
    (omega arith) c.loop-index.invariant (field ∙ equal ∙ sym text)
