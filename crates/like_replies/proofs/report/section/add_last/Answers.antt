use Rattle.std.proofs.Common.{◌++◌, ◌∙◌, sym, ap, append-nil}
use Rattle.std.proofs.lemmas.Result.{on_ok_weaker}
use Rattle.csv.specs.Writing.{default_writer, row_text}
use Rattle.like_replies.specs.Rows.{user_row}
use Rattle.like_replies.proofs.report.section.add_last.Goals as goal

pub returns-in-Some : goal.returns-in-Some
returns-in-Some c =
    let row = row_text default_writer (user_row c.args.names.now c.args.head.now.number c.in-Some.page) in
    rw c.in-Some.is
    (on_ok_weaker c.add_user.result
    (λ added. added ∙ ap (λ t. c.args.sheet.now ++ t) (sym (append-nil row))) c.add_user.ensures)
