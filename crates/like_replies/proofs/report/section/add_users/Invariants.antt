use Rattle.std.proofs.Common.{◌≡◌, ◌+◌, ◌++◌, codes, take}
use Rattle.like_replies.specs.Rows.{liker_rows, rows_text}
use Rattle.like_replies.proofs.report.section.add_users.Given as goal

abbrev pub invariant-loop-page : goal.invariant-loop-page
invariant-loop-page l = record {
  start : l.head.start ≡ codes "user,";
  number : l.head.number ≡ l.before + l.page-index;
  added : l.sheet ≡ l.initial.sheet ++ rows_text (liker_rows l.names l.before (take l.page-index l.last));
}
