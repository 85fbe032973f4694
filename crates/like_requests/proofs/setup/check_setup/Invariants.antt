use Rattle.std.proofs.Common.{ℕ, ◌<◌, List, map, slice_index_or}
use Rattle.like_requests.specs.Setup.{IsPlan}
use Rattle.like_requests.specs.declared.request.Request.{Request}
use Rattle.like_requests.proofs.setup.check_setup.Given as goal

abbrev pub invariant-loop-submitter : goal.invariant-loop-submitter
invariant-loop-submitter l =
    (k : ℕ) (d : List Request) → k < l.submitter
    → IsPlan l.setup.pages (slice_index_or (map (λ plan. plan.items) l.plans) k d)
