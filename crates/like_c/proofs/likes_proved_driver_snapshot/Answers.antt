use Rattle.std.proofs.Common.{Some, None, Ok, Err, refl}
use Rattle.std.proofs.lemmas.Bool.{false≢true}
use Rattle.like_c.specs.Asks.{at_none, at_some, is_not, is_so}
use Rattle.like_c.specs.Status.{status, wrong_range}
use Rattle.like_c.proofs.Asking.{snapshot-len, snapshot-none}
use Rattle.like_c.proofs.likes_proved_driver_snapshot.Goals as goal

pub returns-in_default-clause-counts : goal.returns-in_default-clause-counts
returns-in_default-clause-counts c = at_none c.in_default.ensures.driver (refl, λ not. refl) c.in_default.ensures.driver

pub returns-then-not-has_pages-clause-counts : goal.returns-then-not-has_pages-clause-counts
returns-then-not-has_pages-clause-counts c =
    at_some _ _ c.in-Some.ensures.driver (
      Err (status wrong_range),
      is_not (λ has. absurd (false≢true (c.if-not-has_pages.ensures.1 has))) refl refl,
      (refl, λ not. refl),
    ) refl

pub returns-in-Some-snapshot-clause-counts : goal.returns-in-Some-snapshot-clause-counts
returns-in-Some-snapshot-clause-counts c =
    at_some _ _ c.in-Some.ensures.driver (
      Ok (Some c.in-Some-snapshot.field-0),
      is_so (c.if-not-has_pages.ensures.0 refl)
          (((_, c.in-Some-snapshot.ensures.case), c.in-Some-snapshot.ensures.same), refl),
      (refl, λ not. absurd (not refl)),
    ) refl

pub returns-in-Some-snapshot-clause-len : goal.returns-in-Some-snapshot-clause-len
returns-in-Some-snapshot-clause-len c = snapshot-len _ _ _ _ _ _ c.in-Some-snapshot.ensures.case

pub returns-in-None-clause-counts : goal.returns-in-None-clause-counts
returns-in-None-clause-counts c =
    at_some _ _ c.in-Some.ensures.driver (
      Ok None,
      is_so (c.if-not-has_pages.ensures.0 refl) (((_, c.in-None.ensures.case), c.in-None.ensures.same), refl),
      (refl, λ not. snapshot-none _ _ _ _ _ c.in-None.ensures.case),
    ) refl

pub returns-in-None-clause-len : goal.returns-in-None-clause-len
returns-in-None-clause-len c = snapshot-len _ _ _ _ _ _ c.in-None.ensures.case
