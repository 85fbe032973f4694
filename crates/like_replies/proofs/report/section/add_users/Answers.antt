use Rattle.std.proofs.Common.{◌≡◌, ◌+◌, ◌∷◌, [], ◌∙◌, ap, get_or, length, None, take, arith}
use Rattle.std.proofs.lemmas.List.{length-take-le, take_all, take_more}
use Rattle.like_replies.specs.RowParts.{RowHead}
use Rattle.like_replies.specs.Rows.{liker_rows}
use Rattle.like_replies.proofs.rows.Texts.{AddsRows, liker_rows-append}
use Rattle.like_replies.proofs.report.section.add_users.Goals as goal

pub add_last-requires-clause-there : goal.add_last-requires-clause-there
add_last-requires-clause-there c = c.requires.there c.loop-page.page-index None c.loop-page-test.true

pub loop-page-preserved : goal.loop-page-preserved
loop-page-preserved c =
    let pages = c.args.names.now in
    let before = c.args.before in
    let place = c.loop-page.page-index in
    let head = c.loop-page.head in
    let done = take place c.args.last.now in
    let next = get_or c.args.last.now place None in
    let number : before + length done ≡ head.number =
    omega (arith, length-take-le place c.args.last.now (omega arith), c.loop-page.invariant.number) in
    let more = take_more c.args.last.now place None c.loop-page-test.true in
    let later = ap (λ (h : RowHead). h.number) c.next.ensures in
    record {
      start = ap (λ (h : RowHead). h.start) c.next.ensures ∙ c.loop-page.invariant.start;
      number = omega (arith, later, c.loop-page.invariant.number);
      added =
          rw (more, liker_rows-append pages before done (next ∷ []), number)
          (AddsRows _ _ _ (liker_rows pages before done)
          (liker_rows pages head.number (next ∷ [])) c.loop-page.invariant.added c.in_ok-add_last.ensures);
    }

pub returns : goal.returns
returns c = rw (← take_all c.loop-page.page-index c.args.last.now c.loop-page-test.false) c.loop-page.invariant.added
