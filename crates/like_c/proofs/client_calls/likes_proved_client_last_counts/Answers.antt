use Rattle.std.proofs.Common.{Err, refl}
use Rattle.std.proofs.lemmas.Bool.{false≢true}
use Rattle.like_c.specs.Asks.{at_none, at_some, is_not, is_so}
use Rattle.like_c.specs.Status.{status, wrong_range}
use Rattle.like_c.proofs.Unwritten.{unwritten-last}
use Rattle.like_c.proofs.client_calls.likes_proved_client_last_counts.Goals as goal

pub returns-in_default : goal.returns-in_default
returns-in_default c = at_none c.in_default.ensures.client (refl, λ not. refl) c.in_default.ensures.client

pub returns-then-not-has_pages : goal.returns-then-not-has_pages
returns-then-not-has_pages c =
    at_some _ _ c.in-Some.ensures.client (
      Err (status wrong_range),
      is_not (λ has. absurd (false≢true (c.if-not-has_pages.ensures.1 has))) refl refl,
      (refl, λ not. refl),
    ) refl

pub drive-requires : goal.drive-requires
drive-requires c = c.if-not-has_pages.ensures.0 refl

pub returns : goal.returns
returns c =
    let told = c.of_told_last.ensures in
    at_some _ _ c.in-Some.ensures.client (
      c.drive.result,
      is_so (c.if-not-has_pages.ensures.0 refl) c.drive.ensures.calls,
      (told, unwritten-last _ _ c.drive.result c.drive.ensures.places told),
    ) refl
