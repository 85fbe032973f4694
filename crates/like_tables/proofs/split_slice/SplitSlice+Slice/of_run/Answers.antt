use Rattle.std.proofs.Common.{subst, sym, arith}
use Rattle.like_limits.specs.Buckets.{run_factor}
use Rattle.like_tables.specs.SplitSlice.{IsSplitSlice}
use Rattle.like_tables.proofs.Sliced.{IsSplitSlice-none}
use Rattle.like_tables.proofs.split_slice.SplitSlice+Slice.of_run.Goals as goal

pub returns-clause-slice : goal.returns-clause-slice
returns-clause-slice c = λ i. record { splits = c.in_ok-new.ensures i; counts = c.in_ok-new-2.ensures i }

pub returns-clause-lawful : goal.returns-clause-lawful
returns-clause-lawful c =
    let is = returns-clause-slice c in
    subst IsSplitSlice (sym is) (IsSplitSlice-none run_factor c.args.pages (omega arith))

pub invariant_of-result : goal.invariant_of-result
invariant_of-result c = returns-clause-lawful c
