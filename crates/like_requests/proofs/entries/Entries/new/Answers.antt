use Rattle.std.proofs.Common.{refl, rules, arith}
use Rattle.std.specs.List.{IsDistinct}
use Rattle.like_requests.proofs.entries.Entries.new.Goals as goal

pub invariant_of-result : goal.invariant_of-result
unfolding IsDistinct
invariant_of-result c =
    rw c.new.ensures.empty
    (refl, record { few = omega arith; named = search rules; counted = search rules; distinct = tt })
