use Rattle.std.proofs.Common.{◌≡◌, ◌+◌, ◌≤◌, List, length}
use Rattle.like_records.specs.Rows.{Record, max_rows}
use Rattle.like_records.proofs.RowsRead.{HasRead}
use Rattle.like_records.proofs.rows.read_rows.Given as goal

-- the records that were read make what was made
abbrev pub invariant-loop-row : goal.invariant-loop-row
invariant-loop-row g l = record {
  done : List Record;
  count : l.row ≡ length done + 1;
  room : l.row ≤ max_rows + 1;
  made : g.K.FileKind.holds l.kind l.made done;
  read : HasRead g.K.FileKind.asks g.K.FileKind.tests l.fn.records.left l.records.left done;
}
