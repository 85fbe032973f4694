use Rattle.std.proofs.Common.{◌≡◌, ◌+◌, ◌<◌, ◌++◌, ◌^◌, ◌∙◌, List, length, sym, ap, append_assoc, length-append, arith}
use Rattle.std.specs.Slice.Iter.{chunks_rest}
use Rattle.like_promises.specs.declared.answer.Answer.{Answer}
use Rattle.like_replies.specs.declared.report.section.Section.{Section}
use Rattle.like_replies.specs.declared.report.section.Section.TheVariants.{Answers}
use Rattle.like_replies.specs.Rows.{IsShowable, answer_rows}
use Rattle.like_replies.specs.Sections.{HasRows}
use Rattle.like_replies.proofs.Sections.{All-part, AreSections-push}
use Rattle.like_replies.proofs.rows.Texts.{answer_rows-append}
use Rattle.like_replies.proofs.report.sections.push_answers.Goals as goal

-- the length of a list of three parts
parts-long : (all done part rest : List Answer) → all ≡ done ++ (part ++ rest)
    → length all ≡ length done + (length part + length rest)
parts-long all done part rest whole =
    ap length whole ∙ length-append done (part ++ rest) ∙ ap (λ n. length done + n) (length-append part rest)

pub overflow_add-before : goal.overflow_add-before
overflow_add-before c =
    let done : List Answer = c.loop-part.invariant.2 in
    let part : List Answer = c.in-Some.part.now in
    let rest : List Answer = chunks_rest c.next.new.self in
    let whole : c.args.answers.now ≡ done ++ (part ++ rest) =
    c.loop-part.invariant.3 ∙ ap (λ r. done ++ r) c.in-Some.ensures.steps.1.0 in
    omega (arith, parts-long c.args.answers.now done part rest whole, c.loop-part.invariant.4)

pub loop-part-preserved : goal.loop-part-preserved
loop-part-preserved c =
    let step = c.in-Some.ensures.steps in
    let done : List Answer = c.loop-part.invariant.2 in
    let part : List Answer = c.in-Some.part.now in
    let rest : List Answer = chunks_rest c.next.new.self in
    let submitter = c.args.submitter in
    let before = c.loop-part.before in
    let whole : c.args.answers.now ≡ done ++ (part ++ rest) = c.loop-part.invariant.3 ∙ ap (λ r. done ++ r) step.1.0 in
    let lengths : length c.args.answers.now ≡ length done + (length part + length rest) =
    parts-long c.args.answers.now done part rest whole in
    let room : before + 1 + length part < 2 ^ 64 = omega (arith, lengths, c.loop-part.invariant.4) in
    let number : 0 + length done ≡ before = omega (arith, c.loop-part.invariant.4) in
    let section : Section = Answers submitter before c.in-Some.part in (
      rw step.0 c.loop-part.invariant.0,
      tt,
      done ++ part,
      whole ∙ sym (append_assoc done part rest),
      omega (arith, length-append done part, c.loop-part.invariant.4),
      λ pages rows are shown.
          let has : HasRows pages section =
          (room, All-part (λ a. IsShowable pages a.reply) done part rest (rw (← whole) shown)) in
          let more : rows ++ answer_rows pages submitter 0 (done ++ part)
          ≡ (rows ++ answer_rows pages submitter 0 done) ++ answer_rows pages submitter before part =
          ap (λ r. rows ++ r)
          (answer_rows-append pages submitter 0 done part
          ∙ ap (λ n. answer_rows pages submitter 0 done ++ answer_rows pages submitter n part) number)
          ∙ sym (append_assoc rows (answer_rows pages submitter 0 done) (answer_rows pages submitter before part)) in
          rw (c.in_ok-push.ensures.items, more)
          (AreSections-push pages (rows ++ answer_rows pages submitter 0 done) c.loop-part.all.items section
          (c.loop-part.invariant.5 pages rows are shown) has),
    )
