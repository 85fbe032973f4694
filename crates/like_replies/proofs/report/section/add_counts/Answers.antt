use Rattle.std.proofs.Common.{◌≡◌, ◌<◌, length, get_or, take, arith}
use Rattle.std.proofs.lemmas.List.{length-take-le, take_more}
use Rattle.like_replies.specs.Rows.{page_row, page_rows}
use Rattle.like_replies.proofs.rows.Texts.{AddsRow, page_rows-push}
use Rattle.like_replies.proofs.report.section.add_counts.Goals as goal

pub loop-page-preserved : goal.loop-page-preserved
loop-page-preserved c =
    let pages = c.args.names.now in
    let page = c.loop-page.page in
    let done = take page c.args.counts.now in
    let there : page < length c.args.counts.now = omega arith in
    let size : length done ≡ page = length-take-le page c.args.counts.now (omega arith) in
    let more = take_more c.args.counts.now page 0 there in
    let next = get_or c.args.counts.now page 0 in
    rw (more, page_rows-push pages done next, size)
    (AddsRow _ _ _ (page_rows pages done) (page_row pages page next) c.loop-page.invariant c.in_ok-add_page.ensures)
