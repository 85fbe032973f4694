use Rattle.std.proofs.Common.{◌≡◌, ◌++◌, ◌∙◌, List, sym, ap, append_assoc}
use Rattle.std.proofs.lemmas.Grind.{flat_map-append}
use Rattle.std.proofs.lemmas.Result.{err_from_is_err_and}
use Rattle.std.specs.Slice.Iter.{chunks_rest}
use Rattle.like_replies.specs.declared.report.section.Section.{Section}
use Rattle.like_replies.specs.Sections.{HasRows, rows_in, section_rows}
use Rattle.like_replies.proofs.InParallel.{begun-sections}
use Rattle.like_replies.proofs.Sections.{All-part}
use Rattle.like_replies.proofs.rows.Texts.{Appends-rows}
use Rattle.like_replies.proofs.report.sheets.write_rows_in_parallel.Goals as goal

pub write_group-requires-clause-has : goal.write_group-requires-clause-has
write_group-requires-clause-has g c κs lives =
    let done : List Section = c.loop-group.invariant.3 in
    let group : List Section = c.in-Some.group.now in
    let rest : List Section = chunks_rest c.next.new.self in
    let whole : c.args.sections.now ≡ done ++ (group ++ rest) =
    c.loop-group.invariant.4 ∙ ap (λ r. done ++ r) c.in-Some.ensures.steps.1.0 in
    All-part (HasRows c.args.names.now) done group rest (rw (← whole) c.requires.has)

pub loop-group-preserved : goal.loop-group-preserved
loop-group-preserved g c =
    let pages = c.args.names.now in
    let step = c.in-Some.ensures.steps in
    let done : List Section = c.loop-group.invariant.3 in
    let group : List Section = c.in-Some.group.now in
    let rest : List Section = chunks_rest c.next.new.self in
    let whole : c.args.sections.now ≡ done ++ (group ++ rest) =
    c.loop-group.invariant.4 ∙ ap (λ r. done ++ r) step.1.0 in
    let more : rows_in pages (done ++ group) ≡ rows_in pages done ++ rows_in pages group =
    flat_map-append (section_rows pages) done group in (
      rw step.0 c.loop-group.invariant.0,
      tt,
      c.write_group.ensures.sheets ∙ c.loop-group.invariant.2,
      done ++ group,
      whole ∙ sym (append_assoc done group rest),
      rw more (Appends-rows _ _ _ (rows_in pages done)
          (rows_in pages group) c.loop-group.invariant.5 c.in_ok-write_group.ensures.written),
      λ h. c.loop-group.invariant.6 (c.in_ok-write_group.ensures.told h),
    )

pub returns-in_err-write_group-clause-written : goal.returns-in_err-write_group-clause-written
returns-in_err-write_group-clause-written g c =
    let p = err_from_is_err_and c.from_residual.result c.from_residual.ensures.1 in
    let step = c.in-Some.ensures.steps in
    let done : List Section = c.loop-group.invariant.3 in
    let group : List Section = c.in-Some.group.now in
    let rest : List Section = chunks_rest c.next.new.self in
    rw p.1
    (begun-sections c.args.names.now c.args.sections.now done group rest _ _ _
    (c.loop-group.invariant.4 ∙ ap (λ r. done ++ r) step.1.0) c.loop-group.invariant.5
    c.in_err-write_group.ensures.written)
