use Rattle.std.proofs.Common.{rules, ap, ◌∙◌}
use Rattle.std.proofs.lemmas.Result.{IfOk-weaker}
use Rattle.std.specs.Prelude.{slice_index}
use Rattle.test_parts.proofs.Walk.{equal_small, first_count, if_ok_all, opened_alike}
use Rattle.test_parts.proofs.board.opened.Goals as goal

pub with_limits-requires-clause-counts : goal.with_limits-requires-clause-counts
with_limits-requires-clause-counts c =
    let counts = c.in_ok-counts.ensures.items_if_clones_equal (λ y same. search rules) in
    equal_small _ _ _ _ (c.as_slice.ensures.value ∙ counts) c.requires.small

pub returns-clause-opened : goal.returns-clause-opened
returns-clause-opened c =
    let counts = c.in_ok-counts.ensures.items_if_clones_equal (λ y same. search rules) in
    let marks = c.in_ok-marks.ensures.items_if_clones_equal (λ y same. search rules) in
    if_ok_all c.with_limits.result c.with_limits.ensures.coord_here c.with_limits.ensures.coord
    c.with_limits.ensures.views
    (λ r here view fresh. opened_alike _ _ _ _ _ _ _ _ _ _ c.requires.some_page c.requires.plain
    (c.as_slice.ensures.value ∙ counts) (c.as_slice-2.ensures.value ∙ marks) here view fresh)

pub returns-clause-workers : goal.returns-clause-workers
returns-clause-workers c =
    IfOk-weaker c.with_limits.result _ _ (λ r view. ap (λ v. v.opening.workers) view) c.with_limits.ensures.coord

pub returns-clause-counts : goal.returns-clause-counts
returns-clause-counts c =
    let counts = c.in_ok-counts.ensures.items_if_clones_equal (λ y same. search rules) in
    IfOk-weaker c.with_limits.result _ _
    (λ r view. ap (λ v. slice_index v.opening.counts 0) view
    ∙ first_count _ _ _ (c.as_slice.ensures.value ∙ counts) c.requires.some_page)
    c.with_limits.ensures.coord
