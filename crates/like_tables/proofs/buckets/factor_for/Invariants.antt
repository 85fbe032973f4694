use Rattle.like_tables.specs.Factors.{NoneParts}
use Rattle.like_tables.proofs.buckets.factor_for.Given as goal

abbrev pub invariant-loop-tries : goal.invariant-loop-tries
invariant-loop-tries l = NoneParts l.pages l.tries
