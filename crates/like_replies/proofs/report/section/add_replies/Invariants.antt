use Rattle.std.proofs.Common.{◌≡◌, ◌+◌, ◌++◌, ℕ, take}
use Rattle.like_replies.specs.RowParts.{RowHead, reply_start}
use Rattle.like_replies.specs.Rows.{answer_rows, rows_text}
use Rattle.like_replies.proofs.report.section.add_replies.Given as goal

abbrev pub invariant-loop-answer : goal.invariant-loop-answer
invariant-loop-answer l = record {
  start : l.head.start ≡ l.initial.head.start;
  number : l.head.number ≡ l.initial.head.number + l.answer-index;
  added : (submitter before : ℕ)
      → (let first : RowHead = record { start = reply_start submitter; number = before + 1 } in l.initial.head ≡ first)
      → l.sheet
      ≡ l.initial.sheet ++ rows_text (answer_rows l.names submitter before (take l.answer-index l.answers));
}
