use Rattle.std.proofs.Common.{[], ◌∷◌, ◌++◌, cond, map, append-nil, sym, ap, ◌∙◌}
use Rattle.like_replies.specs.Rows.{hot_row}
use Rattle.like_replies.proofs.rows.Texts.{AddsRow, hot_rows-more, hot_rows_below}
use Rattle.like_replies.proofs.report.section.add_chosen.Goals as goal

pub loop-page-preserved : goal.loop-page-preserved
loop-page-preserved c =
    let pages = c.args.names.now in
    let page = c.loop-page.page in
    let chosen = c.args.chosen in
    let more = hot_rows-more pages chosen page
    ∙ ap (λ b. hot_rows_below pages chosen page ++ map (hot_row pages chosen.phase) (cond b (page ∷ []) []))
    (sym c.is_hot.ensures ∙ c.if-not-is_hot.false) in
    rw more
    (AddsRow _ _ _ (hot_rows_below pages chosen page)
    (hot_row pages chosen.phase page) c.loop-page.invariant c.in_ok-add_hot.ensures)

pub loop-page-preserved-then-not-is_hot : goal.loop-page-preserved-then-not-is_hot
loop-page-preserved-then-not-is_hot c =
    let pages = c.args.names.now in
    let page = c.loop-page.page in
    let chosen = c.args.chosen in
    let more = hot_rows-more pages chosen page
    ∙ ap (λ b. hot_rows_below pages chosen page ++ map (hot_row pages chosen.phase) (cond b (page ∷ []) []))
    (sym c.is_hot.ensures ∙ c.if-not-is_hot.true)
    ∙ append-nil (hot_rows_below pages chosen page) in
    rw more c.loop-page.invariant
