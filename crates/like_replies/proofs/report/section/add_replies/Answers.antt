use Rattle.std.proofs.Common.{◌≡◌, ◌+◌, ◌∷◌, [], length, get_or, take, ap, ◌∙◌, false, arith}
use Rattle.std.proofs.lemmas.List.{length-take-le, take_all, take_more}
use Rattle.like_promises.specs.declared.reply.Reply.TheVariants.{Liked}
use Rattle.like_promises.specs.declared.answer.Answer.{Answer}
use Rattle.like_replies.specs.RowParts.{RowHead}
use Rattle.like_replies.specs.Rows.{answer_rows, reply_row}
use Rattle.like_replies.proofs.rows.Texts.{AddsRow, answer_rows-append}
use Rattle.like_replies.proofs.report.section.add_replies.Goals as goal

-- what stands past the end of the answers
abbrev past : Answer
past = record { phase = 0; stashed = false; reply = Liked }

pub loop-answer-preserved : goal.loop-answer-preserved
loop-answer-preserved c =
    let pages = c.args.names.now in
    let place = c.loop-answer.answer-index in
    let head = c.loop-answer.head in
    let done = take place c.args.answers.now in
    let next = get_or c.args.answers.now place past in
    let more = take_more c.args.answers.now place past c.loop-answer-test.true in
    let later = ap (λ (h : RowHead). h.number) c.next.ensures in
    record {
      start = ap (λ (h : RowHead). h.start) c.next.ensures ∙ c.loop-answer.invariant.start;
      number = omega (arith, later, c.loop-answer.invariant.number);
      added = λ submitter before first.
          let starts = c.loop-answer.invariant.start ∙ ap (λ (h : RowHead). h.start) first in
          let begins = ap (λ (h : RowHead). h.number) first in
          let number : before + length done + 1 ≡ head.number =
          omega (
            arith,
            begins,
            length-take-le place c.args.answers.now (omega arith),
            c.loop-answer.invariant.number,
          ) in
          rw (more, answer_rows-append pages submitter before done (next ∷ []), number)
          (AddsRow _ _ _ (answer_rows pages submitter before done) (reply_row pages submitter head.number next)
          (c.loop-answer.invariant.added submitter before first) (c.in_ok-add_reply.ensures submitter starts));
    }

pub returns : goal.returns
returns c = λ submitter before first.
    rw (← take_all c.loop-answer.answer-index c.args.answers.now c.loop-answer-test.false)
    (c.loop-answer.invariant.added submitter before first)
