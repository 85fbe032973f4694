use Rattle.std.proofs.Common.{◌≡◌, length, map, take}
use Rattle.like_files.specs.Inputs.{GivesPlans}
use Rattle.like_files.proofs.plans.read_plans.Given as goal

abbrev pub invariant-loop-reader : goal.invariant-loop-reader
invariant-loop-reader g l =
    GivesPlans l.pages (map g.R.Read.remaining l.yielded) (map (λ plan. plan.items) l.plans.items)
    × (take (length l.yielded) l.fn.requests.items ≡ l.yielded)
