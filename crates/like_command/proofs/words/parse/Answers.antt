use Rattle.std.proofs.Common.{List, map, rules}
use Rattle.clap.specs.Words.{Text}
use Rattle.like_command.specs.Asked.{Asks, IsParseFault}
use Rattle.like_command.proofs.Matched.{asks, failed, parsed, when_err, when_ok}
use Rattle.like_command.proofs.words.parse.Goals as goal

pub matched-requires : goal.matched-requires
matched-requires g c =
    let words : List Text = map g.S.AsStr.text c.args.words.now in
    let p = parsed c.in_ok-likes_command.field-0 _ words c.in-Ok.matches c.in_ok-likes_command.ensures
    c.in-Ok.ensures.kinds c.in-Ok.ensures.matches (search rules) in
    (p.2, p.3, p.4)

pub returns-in-Ok-clause-asked : goal.returns-in-Ok-clause-asked
returns-in-Ok-clause-asked g c =
    let words : List Text = map g.S.AsStr.text c.args.words.now in
    let p = parsed c.in_ok-likes_command.field-0 _ words c.in-Ok.matches c.in_ok-likes_command.ensures
    c.in-Ok.ensures.kinds c.in-Ok.ensures.matches (search rules) in
    asks words c.in-Ok.matches c.in_ok-matched-in-Ok.field-0 p.0 p.1 c.in_ok-matched-in-Ok.ensures

pub returns-clause-asked : goal.returns-clause-asked
returns-clause-asked g c =
    let words : List Text = map g.S.AsStr.text c.args.words.now in
    when_ok c.refused.result (Asks words) (IsParseFault words)
    (c.refused.ensures words
    (failed c.in_ok-likes_command.field-0 _ words c.in-Err.error c.in_ok-likes_command.ensures
    c.in-Err.ensures.kinds (search rules)))

pub returns-clause-fault : goal.returns-clause-fault
returns-clause-fault g c =
    let words : List Text = map g.S.AsStr.text c.args.words.now in
    when_err c.refused.result (Asks words) (IsParseFault words)
    (c.refused.ensures words
    (failed c.in_ok-likes_command.field-0 _ words c.in-Err.error c.in_ok-likes_command.ensures
    c.in-Err.ensures.kinds (search rules)))
