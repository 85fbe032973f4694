use Rattle.std.proofs.Common.{take}
use Rattle.std.specs.Io.KnownBytes.{Appends}
use Rattle.like_replies.specs.Rows.{rows_text}
use Rattle.like_replies.specs.Sections.{rows_in}
use Rattle.like_replies.proofs.report.sheets.write_rows.Given as goal

abbrev pub invariant-loop-section : goal.invariant-loop-section
invariant-loop-section g l =
    Appends (g.W.Output.held l.initial.out) (g.W.Output.held l.out)
    (rows_text (rows_in l.names (take l.section-index l.sections)))
    × (g.W.Output.has_failed l.out → g.W.Output.has_failed l.initial.out)
