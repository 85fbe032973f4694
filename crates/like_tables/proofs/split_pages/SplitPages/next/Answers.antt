use Rattle.std.proofs.Common.{ℕ, Option, None, Some, IfNone, refl, rules}
use Rattle.like_tables.proofs.Tagged.{HoldNone-rest, IsNextSplit-found}
use Rattle.like_tables.proofs.split_pages.SplitPages.next.Goals as goal

-- what holds in any case holds where there is none
in_any_case : (o : Option ℕ) (P : Type 0) → P → IfNone o P
in_any_case None P holds = holds
in_any_case (Some page) P holds = search rules

pub returns-in_err-bucket-clause-none : goal.returns-in_err-bucket-clause-none
returns-in_err-bucket-clause-none c =
    let i = c.self.inside in
    rw (← c.self.view_is)
    (in_any_case _ _ (HoldNone-rest i.factor i.tags i.used c.args.from c.self.invariant c.in_err-bucket.ensures.none))

pub returns-clause-next : goal.returns-clause-next
returns-clause-next c =
    let i = c.self.inside in
    rw (← c.self.view_is)
    (IsNextSplit-found i.factor i.tags i.used c.args.from c.in_ok-bucket.bucket _ c.self.invariant
    c.in_ok-bucket.ensures.next refl)
