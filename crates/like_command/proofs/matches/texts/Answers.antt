use Rattle.std.specs.Borrow.{Bor}
use Rattle.std.proofs.Common.{List, [], ◌∷◌, ◌++◌, map, string_bytes, take, ap, sym, ◌∙◌}
use Rattle.std.proofs.lemmas.List.{map-append, take_all}
use Rattle.clap.specs.Words.{Text}
use Rattle.like_command.proofs.Grown.{mapped-more}
use Rattle.like_command.proofs.matches.texts.Goals as goal

pub loop-text-preserved : goal.loop-text-preserved
loop-text-preserved c =
    let l = c.loop-text in
    let copy = c.in_ok-from_str.field-0 in
    let done : List Text = map (λ (text : Bor Text). text.now) (take l.text-index c.args.texts.now) in
    ap (map string_bytes) c.in_ok-push.ensures.items
    ∙ (map-append string_bytes l.copies.items (copy ∷ [])
    ∙ (ap (λ (bytes : List Text). bytes ++ string_bytes copy ∷ []) l.invariant
    ∙ (ap (λ (bytes : Text). done ++ bytes ∷ []) c.in_ok-from_str.ensures.ok
    ∙ sym (mapped-more (λ (text : Bor Text). text.now) c.args.texts.now l.text-index _ c.loop-text-test.true))))

pub returns : goal.returns
returns c =
    c.loop-text.invariant
    ∙ ap (map (λ (text : Bor Text). text.now))
    (take_all c.loop-text.text-index c.args.texts.now c.loop-text-test.false)
