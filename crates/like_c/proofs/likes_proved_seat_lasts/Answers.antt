use Rattle.std.proofs.Common.{◌+◌, ◌≤◌, true, false, Ok, refl, subst, sym}
use Rattle.std.specs.Prelude.{◌↔◌, IsTrue}
use Rattle.std.proofs.lemmas.Bool.{false≢true}
use Rattle.like_live.specs.Lasts.{users_of}
use Rattle.like_live.proofs.Moving.{same_seat}
use Rattle.like_c.specs.Asks.{at_none, at_some}
use Rattle.like_c.proofs.likes_proved_seat_lasts.Goals as goal

pub returns-in_default-clause-pages : goal.returns-in_default-clause-pages
returns-in_default-clause-pages c = at_none c.in_default.ensures.seat (refl, λ not. refl) c.in_default.ensures.seat

pub returns-then-not-has_users-clause-pages : goal.returns-then-not-has_users-clause-pages
returns-then-not-has_users-clause-pages c =
    let seat = c.in-Some.boxed.now.live in
    at_some _ _ c.in-Some.ensures.seat (
      Ok false,
      (((record { there = c.if-not-has_users.ensures; lasts = λ yes. absurd (false≢true yes) }, refl), same_seat seat), refl),
      (refl, λ not. refl),
    ) refl

pub returns-clause-pages : goal.returns-clause-pages
returns-clause-pages c =
    let seat = c.in-Some.boxed.now.live in
    let there =
    subst (λ n. IsTrue true ↔ (c.args.from + n ≤ users_of seat)) (sym c.lasts.ensures.len) c.if-not-has_users.ensures in
    at_some _ _ c.in-Some.ensures.seat (
      Ok true,
      (((record { there = there; lasts = λ yes. c.lasts.ensures.lasts }, refl), same_seat seat), refl),
      (refl, λ not. absurd (not refl)),
    ) refl
