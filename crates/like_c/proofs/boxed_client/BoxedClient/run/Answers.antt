use Rattle.std.proofs.Common.{ℕ, List, Ok, Err, refl, ap, ◌∙◌}
use Rattle.like_shared.specs.declared.deed.SeatDeed.{SeatDeed}
use Rattle.like_c.specs.declared.boxed_client.BoxedClient.{BoxedClient}
use Rattle.like_c.specs.ClientRows.{with_refused}
use Rattle.like_shared.specs.Shared.{AreLogged}
use Rattle.like_c.specs.Asks.{is_not, is_so}
use Rattle.like_c.specs.Clients.{Calls}
use Rattle.like_c.proofs.boxed_client.BoxedClient.run.Goals as goal

-- calls that were refused are no deeds, whichever they are
still-refused : {A : Type 0} (seat : ℕ) (deeds others : A → List SeatDeed) (why : ℕ) (b c : BoxedClient)
    → Calls seat deeds (Err why) b c → Calls seat others (Err why) b c
still-refused seat deeds others why b c (is_so there (Ok answer, told, log, keeps)) = absurd (cc told)
still-refused seat deeds others why b c (is_so there (Err it, told, log, keeps)) =
    let same : AreLogged b.client seat others (Err it) c.client =
    record { seats = log.seats; seen = log.seen; free = log.free; driver = log.driver; held = log.held } in
    is_so there (Err it, told, same, keeps)
still-refused seat deeds others why b c (is_not none told same) = is_not none told same

pub returns-in-Ok-clause-case : goal.returns-in-Ok-clause-case
returns-in-Ok-clause-case c = (Ok c.in-Ok.done, c.in-Ok.ensures.calls, (refl, c.in-Ok.ensures.places))

pub returns-in-Err-clause-case : goal.returns-in-Err-clause-case
returns-in-Err-clause-case c = (
  Err c.in-Err.refused,
  still-refused c.args.seat _ _ c.in-Err.refused _ _ c.in-Err.ensures.calls,
  (refl, c.tell_refused.ensures.told ∙ ap (with_refused c.in-Err.refused c.args.requests.now) c.in-Err.ensures.places),
)
