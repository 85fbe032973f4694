use Rattle.like_replies.specs.Rows.{rows_text}
use Rattle.like_replies.specs.Sections.{rows_in}
use Rattle.like_replies.proofs.Begun.{writes-after}
use Rattle.like_replies.proofs.report.text.Text.write_in_parallel.Goals as goal

pub returns-clause-written : goal.returns-clause-written
returns-clause-written g c =
    let text = c.self.inside in
    rw (← c.self.view_is)
    (writes-after _ _ _ c.write_rows_in_parallel-2.result (rows_text (rows_in text.names text.report.items))
    (rows_text (rows_in text.names text.places.items))
    (rw c.deref.ensures.value at c.in_ok-write_rows_in_parallel.ensures.written)
    (rw c.deref-2.ensures.value at c.write_rows_in_parallel-2.ensures.written))
