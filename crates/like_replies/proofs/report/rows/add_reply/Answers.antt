use Rattle.std.proofs.Common.{◌≡◌, ◌++◌, ◌∙◌, ap, sym, rules, append_assoc}
use Rattle.std.proofs.lemmas.Result.{IfOk-equal}
use Rattle.csv.specs.Writing.{default_writer, row_text}
use Rattle.like_replies.specs.RowParts.{phase_text, shown_text}
use Rattle.like_replies.specs.Rows.{reply_row}
use Rattle.like_replies.proofs.rows.RowTexts.{number_text, reply-text}
use Rattle.like_replies.proofs.report.rows.add_reply.Goals as goal

pub returns : goal.returns
returns c = λ submitter starts.
    let pages = c.args.names.now in
    let head = c.args.head.now in
    let a = c.args.answer.now in
    let text : row_text default_writer (reply_row pages submitter head.number a)
    ≡ (head.start ++ number_text head.number) ++ (phase_text a.phase ++ shown_text pages a.reply) =
    reply-text pages submitter head.number a
    ∙ ap (λ s. (s ++ number_text head.number) ++ (phase_text a.phase ++ shown_text pages a.reply)) (sym starts) in
    rw text (search (rules, IfOk-equal, append_assoc))
