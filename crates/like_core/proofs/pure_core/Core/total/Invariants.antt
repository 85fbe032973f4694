use Rattle.std.proofs.Common.{◌≡◌, ◌+◌}
use Rattle.like_core.specs.Functions.{sum_below}
use Rattle.like_core.specs.core.Core.{numbers_of}
use Rattle.like_core.proofs.pure_core.Core.total.Given as goal

abbrev pub invariant-loop-row : goal.invariant-loop-row
invariant-loop-row l =
    l.sum ≡ (numbers_of l.self).count l.page + sum_below (λ i. (numbers_of l.self).unmerged i l.page) l.row-index
