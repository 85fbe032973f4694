use Rattle.std.proofs.Common.{◌+◌, ◌∷◌, [], ◌≡◌, ◌∙◌, ◌++◌, ap, append-nil, drop, get_or, sym, take}
use Rattle.std.proofs.KnownBytes.{Appends-nil, Appends-trans}
use Rattle.std.proofs.lemmas.List.{take_all, take_more}
use Rattle.std.proofs.lemmas.Result.{err_from_is_err_and}
use Rattle.like_collection.proofs.Lists.{parts_at}
use Rattle.like_replies.specs.Rows.{rows_text}
use Rattle.like_replies.specs.Sections.{rows_in, section_rows}
use Rattle.like_replies.specs.declared.report.section.Section.TheVariants.{Header}
use Rattle.like_replies.proofs.InParallel.{begun-sections, rows-append, rows-parts}
use Rattle.like_replies.proofs.Begun.{begun-whole, writes-kept}
use Rattle.like_replies.proofs.report.sheets.write_rows.Goals as goal

pub loop-section-init : goal.loop-section-init
loop-section-init g c = (Appends-nil _, λ h. h)

pub loop-section-preserved : goal.loop-section-preserved
loop-section-preserved g c =
    let pages = c.args.names.now in
    let k = c.loop-section.section-index in
    let done = take k c.args.sections.now in
    let s = get_or c.args.sections.now k Header in
    let text = c.in_ok-add_section.ensures
    ∙ (ap (λ t. t ++ rows_text (section_rows pages s)) c.clear.ensures
    ∙ ap rows_text (sym (append-nil (section_rows pages s)))) in
    let more : rows_text (rows_in pages (take (k + 1) c.args.sections.now))
    ≡ rows_text (rows_in pages done) ++ rows_text (rows_in pages (s ∷ [])) =
    ap (λ xs. rows_text (rows_in pages xs)) (take_more c.args.sections.now k Header c.loop-section-test.true)
    ∙ rows-append pages done (s ∷ []) in
    rw more (
      Appends-trans _ _ _ (rows_text (rows_in pages done))
          (rows_text (rows_in pages (s ∷ []))) c.loop-section.invariant.0 (rw text at c.in_ok-write.ensures.written),
      λ h. c.loop-section.invariant.1 (c.in_ok-write.ensures.told h),
    )

pub returns-in_err-add_section-clause-written : goal.returns-in_err-add_section-clause-written
returns-in_err-add_section-clause-written g c =
    let p = err_from_is_err_and c.from_residual.result c.from_residual.ensures.1 in
    let done = take c.loop-section.section-index c.args.sections.now in
    rw (p.1, rows-parts c.args.names.now c.args.sections.now c.loop-section.section-index)
    (begun-whole _ _ (rows_text (rows_in c.args.names.now done)) _ c.loop-section.invariant.0)

pub returns-in_err-write-clause-written : goal.returns-in_err-write-clause-written
returns-in_err-write-clause-written g c =
    let p = err_from_is_err_and c.from_residual-in_err-write.result c.from_residual-in_err-write.ensures.1 in
    let pages = c.args.names.now in
    let k = c.loop-section.section-index in
    let s = get_or c.args.sections.now k Header in
    let text = c.in_ok-add_section.ensures
    ∙ (ap (λ t. t ++ rows_text (section_rows pages s)) c.clear.ensures
    ∙ ap rows_text (sym (append-nil (section_rows pages s)))) in
    rw p.1
    (begun-sections pages c.args.sections.now (take k c.args.sections.now) (s ∷ []) (drop (k + 1) c.args.sections.now) _ _ _
    (parts_at c.args.sections.now k Header c.loop-section-test.true) c.loop-section.invariant.0
    (rw text at c.in_err-write.ensures.written))

pub returns-clause-written : goal.returns-clause-written
returns-clause-written g c =
    writes-kept _ _ _ c.flush.result _
    (rw (take_all c.loop-section.section-index c.args.sections.now c.loop-section-test.false) at c.loop-section.invariant.0)
    c.flush.ensures.kept
