use Rattle.std.proofs.Common.{Ok, Err, refl}
use Rattle.like_live.proofs.Moving.{same_seat}
use Rattle.like_c.specs.Asks.{at_some}
use Rattle.like_c.proofs.likes_proved_seat_last.Goals as goal

pub returns-in-Ok : goal.returns-in-Ok
returns-in-Ok c =
    at_some _ _ c.in-Some.ensures.seat (
      Ok (Ok c.in-Ok.last),
      (((c.in-Ok.ensures, refl), same_seat c.in-Some.boxed.now.live), refl),
      (refl, c.page_or_none.ensures),
    ) refl

pub returns-in-Err : goal.returns-in-Err
returns-in-Err c =
    at_some _ _ c.in-Some.ensures.seat (
      Ok (Err c.in-Err.verdict),
      (((c.in-Err.ensures, refl), same_seat c.in-Some.boxed.now.live), refl),
      (c.of_verdict.ensures, refl),
    ) refl
