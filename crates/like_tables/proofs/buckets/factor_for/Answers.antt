use Rattle.std.proofs.Common.{◌≡◌, inl, inr, subst, arith}
use Rattle.std.proofs.lemmas.Bool.{cases_lt, iff_false}
use Rattle.like_limits.specs.Buckets.{AreApart}
use Rattle.like_tables.specs.Factors.{factor_at}
use Rattle.like_tables.proofs.buckets.factor_for.Goals as goal

pub loop-tries-preserved : goal.loop-tries-preserved
loop-tries-preserved c n less =
    elim (cases_lt n c.loop-tries.tries) [
      | inl before ↦ c.loop-tries.invariant n before
      | inr last ↦
          let here : n ≡ c.loop-tries.tries = omega arith in
          λ apart. iff_false c.are_apart.ensures c.if-are_apart.false
          (subst (λ k. AreApart (factor_at k) c.args.pages.now) here apart)
    ]
