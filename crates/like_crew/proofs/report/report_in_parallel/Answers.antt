use Rattle.std.proofs.Common.{◌∙◌, List, ℕ, ap, sym, length}
use Rattle.like_core.specs.declared.opening.Opening.{Opening}
use Rattle.like_promises.specs.Workload.{lists_of}
use Rattle.like_crew.proofs.Closing.{left-of, opening-is, outcome-of}
use Rattle.like_crew.proofs.report.report_in_parallel.Goals as goal

pub close-outcome-requires-clause-left : goal.close-outcome-requires-clause-left
close-outcome-requires-clause-left g c =
    left-of c.args.setup.now (lists_of c.args.plans.now.value.items) c.args.site c.args.ended c.requires.ended

pub close-outcome-requires-clause-places : goal.close-outcome-requires-clause-places
close-outcome-requires-clause-places g c =
    ap (λ (xs : List ℕ). length xs)
    (c.requires.site.counts ∙ sym (ap (λ (z : Opening). z.counts) (opening-is c.args.setup.now
    (lists_of c.args.plans.now.value.items) c.args.site c.args.ended c.requires.ended)))

pub report_with-requires-clause-outcome : goal.report_with-requires-clause-outcome
report_with-requires-clause-outcome g c =
    let told = c.close-outcome.ensures in
    outcome-of c.args.setup.now (lists_of c.args.plans.now.value.items) c.args.site c.args.ended c.requires.ended
    c.close-outcome.result told.logs told.counts told.phases told.chosen
