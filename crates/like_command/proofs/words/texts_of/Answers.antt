use Rattle.std.specs.Borrow.{Bor}
use Rattle.std.proofs.Common.{List, [], ◌∷◌, ◌++◌, map, take, ap, sym, ◌∙◌}
use Rattle.std.proofs.lemmas.List.{map-append, take_all}
use Rattle.clap.specs.Walk.{texts}
use Rattle.clap.specs.Words.{Text}
use Rattle.like_command.proofs.Grown.{mapped-more}
use Rattle.like_command.proofs.words.texts_of.Goals as goal

pub loop-word-preserved : goal.loop-word-preserved
loop-word-preserved g c =
    let l = c.loop-word in
    let word = c.word-item.result in
    let done : List Text = map g.S.AsStr.text (take l.word-index c.args.words.now) in
    ap texts c.in_ok-push.ensures.items
    ∙ (map-append (λ (text : Bor Text). text.now) l.list.items (c.as_str.result ∷ [])
    ∙ (ap (λ (ts : List Text). ts ++ c.as_str.result.now ∷ []) l.invariant
    ∙ (ap (λ (t : Text). done ++ t ∷ []) (c.as_str.ensures ∙ ap g.S.AsStr.text c.word-item.is)
    ∙ sym (mapped-more g.S.AsStr.text c.args.words.now l.word-index word c.loop-word-test.true))))

pub returns : goal.returns
returns g c =
    c.loop-word.invariant
    ∙ ap (map g.S.AsStr.text) (take_all c.loop-word.word-index c.args.words.now c.loop-word-test.false)
