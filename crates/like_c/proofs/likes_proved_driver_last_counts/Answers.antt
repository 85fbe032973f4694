use Rattle.std.proofs.Common.{true, false, Ok, Err, refl}
use Rattle.std.proofs.lemmas.Bool.{false≢true}
use Rattle.like_c.specs.Asks.{at_none, at_some, is_not, is_so}
use Rattle.like_c.specs.Status.{status, wrong_range}
use Rattle.like_c.proofs.Asking.{last-len, last-none}
use Rattle.like_c.proofs.likes_proved_driver_last_counts.Goals as goal

pub returns-in_default-clause-counts : goal.returns-in_default-clause-counts
returns-in_default-clause-counts c = at_none c.in_default.ensures.driver (refl, λ not. refl) c.in_default.ensures.driver

pub returns-then-not-has_pages-clause-counts : goal.returns-then-not-has_pages-clause-counts
returns-then-not-has_pages-clause-counts c =
    at_some _ _ c.in-Some.ensures.driver (
      Err (status wrong_range),
      is_not (λ has. absurd (false≢true (c.if-not-has_pages.ensures.1 has))) refl refl,
      (refl, λ not. refl),
    ) refl

pub returns-then-last_counts-clause-counts : goal.returns-then-last_counts-clause-counts
returns-then-last_counts-clause-counts c =
    at_some _ _ c.in-Some.ensures.driver (
      Ok true,
      is_so (c.if-not-has_pages.ensures.0 refl) (((_, c.if-last_counts.ensures.case), c.if-last_counts.ensures.same), refl),
      (refl, λ not. absurd (not refl)),
    ) refl

pub returns-then-last_counts-clause-len : goal.returns-then-last_counts-clause-len
returns-then-last_counts-clause-len c = last-len _ _ _ _ _ _ c.if-last_counts.ensures.case

pub returns-else-last_counts-clause-counts : goal.returns-else-last_counts-clause-counts
returns-else-last_counts-clause-counts c =
    at_some _ _ c.in-Some.ensures.driver (
      Ok false,
      is_so (c.if-not-has_pages.ensures.0 refl) (((_, c.if-last_counts.ensures.case), c.if-last_counts.ensures.same), refl),
      (refl, λ not. last-none _ _ _ _ _ c.if-last_counts.ensures.case),
    ) refl

pub returns-else-last_counts-clause-len : goal.returns-else-last_counts-clause-len
returns-else-last_counts-clause-len c = last-len _ _ _ _ _ _ c.if-last_counts.ensures.case
