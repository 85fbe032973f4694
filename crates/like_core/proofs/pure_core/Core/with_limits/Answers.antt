use Rattle.std.proofs.Common.{length, sym, ◌∙◌, ap, rules}
use Rattle.like_core.specs.core.State.{opening_with}
use Rattle.like_core.proofs.core.Started.{start_sizes, start_bounds, start_stands}
use Rattle.like_core.proofs.core.CoreReached.{starts_reachable, core_is_exclusive}
use Rattle.like_core.proofs.pure_core.Core.with_limits.Goals as goal

pub invariant_of-result-clause-rows_sized : goal.invariant_of-result-clause-rows_sized
invariant_of-result-clause-rows_sized c =
    λ i within.
    start_sizes c.in_ok-empty_rows.field-0.items c.args.workers
    (length c.args.counts.now) c.in_ok-empty_rows.ensures i within ∙
    sym (ap length c.in_ok-from_slice.ensures)

pub invariant_of-result-clause-bounded : goal.invariant_of-result-clause-bounded
invariant_of-result-clause-bounded c =
    start_bounds c.args.limits c.in_ok-vec.field-0.items c.in_ok-empty_rows.field-0.items c.in_ok-from_slice.field-0
    c.args.counts.now c.in_ok-from_slice-2.field-0.items c.args.workers
    (length c.args.counts.now) c.in_ok-empty_rows.ensures c.in_ok-from_slice.ensures c.requires.counts

pub returns-clause-start : goal.returns-clause-start
returns-clause-start c =
    start_stands c.in_ok-vec.field-0.items c.in_ok-empty_rows.field-0.items c.in_ok-from_slice.field-0
    c.in_ok-from_slice-2.field-0.items (opening_with c.args.limits c.args.workers c.args.counts.now c.args.split.now)
    (let h = c.in_ok-vec.ensures.items_if_clones_equal in search (rules, h)) c.in_ok-empty_rows.ensures
    c.in_ok-from_slice.ensures c.in_ok-from_slice-2.ensures.items

pub returns-clause-reachable : goal.returns-clause-reachable
returns-clause-reachable c =
    starts_reachable _ (opening_with c.args.limits c.args.workers c.args.counts.now c.args.split.now)
    (returns-clause-start c)

pub returns-clause-exclusive : goal.returns-clause-exclusive
returns-clause-exclusive c = core_is_exclusive _
