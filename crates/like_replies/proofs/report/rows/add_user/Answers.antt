use Rattle.std.proofs.Common.{◌≡◌, ◌++◌, ◌∙◌, ap, sym, codes, rules, append_assoc}
use Rattle.std.proofs.lemmas.Result.{IfOk-equal}
use Rattle.csv.specs.Writing.{default_writer, row_text}
use Rattle.like_replies.specs.Rows.{user_row}
use Rattle.like_replies.proofs.rows.RowTexts.{name_text, number_text, user-text}
use Rattle.like_replies.proofs.report.rows.add_user.Goals as goal

pub returns : goal.returns
returns c =
    let pages = c.args.names.now in
    let head = c.args.head.now in
    let rest = number_text head.number ++ (codes ",,,," ++ (name_text pages c.args.page ++ codes ",\n")) in
    let text : row_text default_writer (user_row pages head.number c.args.page) ≡ head.start ++ rest =
    user-text pages head.number c.args.page ∙ ap (λ s. s ++ rest) (sym c.requires.start) in
    rw text (search (rules, IfOk-equal, append_assoc))
