use Rattle.std.proofs.Common.{◌≡◌, ◌++◌, List, length}
use Rattle.std.specs.Io.KnownBytes.{Appends}
use Rattle.std.specs.Slice.Iter.{chunks_rest}
use Rattle.like_replies.specs.declared.report.section.Section.{Section}
use Rattle.like_replies.specs.Rows.{rows_text}
use Rattle.like_replies.specs.Sections.{rows_in}
use Rattle.like_replies.proofs.report.sheets.write_rows_in_parallel.Given as goal

abbrev pub invariant-loop-group : goal.invariant-loop-group
invariant-loop-group g l =
    (goal.iterator-loop-group g).can_next l.group-iterator × (goal.iterator-loop-group g).is_finite l.group-iterator
    × (length l.sheets ≡ length l.initial.sheets) × (done : List Section) × (l.sections ≡ done ++ chunks_rest l.group-iterator)
    × Appends (g.W.Output.held l.initial.out) (g.W.Output.held l.out) (rows_text (rows_in l.names done))
    × (g.W.Output.has_failed l.out → g.W.Output.has_failed l.initial.out)
