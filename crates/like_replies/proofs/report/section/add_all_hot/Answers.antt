use Rattle.std.proofs.Common.{length, get_or, take}
use Rattle.std.proofs.lemmas.List.{take_all, take_more}
use Rattle.like_promises.specs.declared.chosen.Chosen.{Chosen}
use Rattle.like_replies.specs.Rows.{hot_rows}
use Rattle.like_replies.proofs.rows.Texts.{AddsRows, hot_rows-push, hot_rows_below}
use Rattle.like_replies.proofs.report.section.add_all_hot.Goals as goal

-- what stands past the end of the hot pages
abbrev past : Chosen
past = record { phase = 0; mask = 0 }

pub loop-chosen-preserved : goal.loop-chosen-preserved
loop-chosen-preserved c =
    let pages = c.args.names.now in
    let i = c.loop-chosen.chosen-index in
    let done = take i c.args.hot.now in
    let next = get_or c.args.hot.now i past in
    let more = take_more c.args.hot.now i past c.loop-chosen-test.true in
    rw (more, hot_rows-push pages done next)
    (AddsRows _ _ _ (hot_rows pages done)
    (hot_rows_below pages next (length pages)) c.loop-chosen.invariant c.in_ok-add_chosen.ensures)

pub returns : goal.returns
returns c = rw (← take_all c.loop-chosen.chosen-index c.args.hot.now c.loop-chosen-test.false) c.loop-chosen.invariant
