use Rattle.std.proofs.Common.{◌-◌, [], ◌∷◌, ap, ◌∙◌, ◌++◌}
use Rattle.told_lock.specs.Deeds.{named}
use Rattle.told_lock.specs.Rights.{name_of, seen_of, seens_of, told_of}
use Rattle.like_shared.specs.declared.service.ServiceKeeper.{ServiceKeeper}
use Rattle.like_shared.specs.Shared.{clients_out, driver_log, seats_seen, seats_told, with_logs, with_seen}
use Rattle.like_shared.proofs.Desks.{as-held, as-written}
use Rattle.like_shared.proofs.hub.Hub.take_client.Goals as goal

pub returns-clause-parked : goal.returns-clause-parked
returns-clause-parked c =
    let desk = c.args.self.now.desk in
    let card = c.args.card.now in
    let client = c.args.client in
    let it = c.requires.card in
    let at = c.value_mut.ensures.value in
    let same = as-held desk card at.0 c.value_mut.result.now it.0 it.0 at.1 it.1 in
    let l = c.take_back.new.keeper in
    let told = c.take_back.ensures in (
      it.0,
      l,
      as-written desk card it.0 l it.1,
      it.2,
      told.keeper,
      (
        c.requires.client,
        told.out ∙ ap (λ (k : ServiceKeeper). clients_out k - 1) same,
        told.told ∙ ap (λ (k : ServiceKeeper). with_logs (seats_told k) client.seats.items) same,
        told.driver_told
            ∙ ap (λ (k : ServiceKeeper). told_of k.driver ++ named (name_of client.driver) (driver_log client)) same,
        told.seen ∙ ap (λ (k : ServiceKeeper). with_seen (seats_seen k) client.seats.items) same,
        told.driver_seen ∙ ap (λ (k : ServiceKeeper). seens_of k.driver ++ seen_of client.driver ∷ []) same,
      ),
    )
