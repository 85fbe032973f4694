use Rattle.std.proofs.Common.{◌+◌, ◌≤◌, true, refl, sym, subst}
use Rattle.std.specs.Prelude.{◌↔◌, IsTrue}
use Rattle.std.proofs.lemmas.Bool.{false≢true}
use Rattle.like_live.specs.Lasts.{users_of}
use Rattle.like_live.proofs.Moving.{same_seat}
use Rattle.like_shared.proofs.seat_rows.tell_lasts.Goals as goal

pub returns-then-not-has_users-clause-run : goal.returns-then-not-has_users-clause-run
returns-then-not-has_users-clause-run c =
    let seat = c.args.seat.now in (
      seat,
      ((record { there = c.if-not-has_users.ensures; lasts = λ yes. absurd (false≢true yes) }, refl), same_seat seat),
      refl,
    )

pub returns-clause-run : goal.returns-clause-run
returns-clause-run c =
    let seat = c.args.seat.now in
    let told = c.lasts.ensures in
    let there =
    subst (λ n. IsTrue true ↔ (c.args.from + n ≤ users_of seat)) (sym told.len) c.if-not-has_users.ensures in
    (seat, ((record { there = there; lasts = λ yes. told.lasts }, refl), same_seat seat), refl)
