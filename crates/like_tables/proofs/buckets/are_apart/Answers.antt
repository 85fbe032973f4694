use Rattle.std.proofs.Common.{ℕ, Bool, false, true, replicate, get_or, ◌≡◌, ◌∙◌, inl, inr, refl, length-set, arith}
use Rattle.std.proofs.lemmas.Bool.{cases_lt}
use Rattle.std.proofs.lemmas.List.{get_or_past, get_or-replicate, length-replicate}
use Rattle.like_limits.specs.Buckets.{buckets}
use Rattle.like_tables.proofs.Apart.{AreApart-all, AreMarked-next, AreMarked-none, shared}
use Rattle.like_tables.proofs.buckets.are_apart.Goals as goal

-- no mark is set at first
unmarked : (n b : ℕ) → get_or (replicate n false) b false ≡ false
unmarked n b =
    elim (cases_lt b n) [
      | inl within ↦ get_or-replicate n b false false within
      | inr past ↦ get_or_past (replicate n false) b false (omega (arith, length-replicate {A = Bool} n false))
    ]

pub loop-page-init : goal.loop-page-init
loop-page-init c = record { all = refl; marked = AreMarked-none _ _ _ (unmarked buckets) }

pub loop-page-preserved : goal.loop-page-preserved
loop-page-preserved c =
    let i = c.loop-page.invariant in
    record {
      all = length-set c.loop-page.taken c.bucket-bucket.result true ∙ i.all;
      marked = AreMarked-next _ _ c.loop-page.taken c.loop-page.page-index c.bucket-bucket.result i.all i.marked
          c.bucket-bucket.ensures c.if-taken-bucket.false;
    }

pub returns-then-taken-bucket : goal.returns-then-taken-bucket
returns-then-taken-bucket c = (
  λ yes. absurd (cc (yes)),
  λ apart. absurd (shared _ _ c.loop-page.taken c.loop-page.page-index c.bucket-bucket.result
      c.loop-page.invariant.marked c.bucket-bucket.ensures c.loop-page-test.true c.if-taken-bucket.true apart),
)

pub returns : goal.returns
returns c = (
  λ yes. AreApart-all _ _ c.loop-page.taken c.loop-page.page-index c.loop-page.invariant.marked (omega arith),
  λ apart. refl,
)
