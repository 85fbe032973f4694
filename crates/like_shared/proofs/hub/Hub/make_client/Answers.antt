use Rattle.std.proofs.Common.{◌≡◌, ◌+◌, Result, Ok, Err, MatchResult, ap, ◌∙◌, subst}
use Rattle.std.specs.declared.alloc.AllocError.{AllocError}
use Rattle.told_lock.specs.Lending.{pass_with}
use Rattle.told_lock.specs.Rights.{IsHolding, seens_of, told_of}
use Rattle.told_lock.specs.declared.pass.Pass.{Pass}
use Rattle.like_shared.specs.declared.client.Client.{Client}
use Rattle.like_shared.specs.declared.desk.DeskDeed.{DeskDeed}
use Rattle.like_shared.specs.declared.desk.DeskDeed.TheVariants.{Made}
use Rattle.like_shared.specs.declared.hub.Hub.{Hub}
use Rattle.like_shared.specs.declared.service.ServiceKeeper.{ServiceKeeper}
use Rattle.like_shared.specs.Desk.{KeepsTold}
use Rattle.like_shared.specs.Hubs.{IsAtDesk}
use Rattle.like_shared.specs.Shared.{IsServiceKeeper, clients_out, seats_seen, seats_told}
use Rattle.like_shared.proofs.Desks.{as-held, as-written}
use Rattle.like_shared.proofs.hub.Hub.make_client.Goals as goal

-- the card has the keeper, which made a client, or is as it was
abbrev HasMade : Hub → Pass ServiceKeeper DeskDeed → Result Client AllocError → Type 0
HasMade h card result = MatchResult result
    (λ _. (k : ServiceKeeper) × (l : ServiceKeeper) × IsHolding h.desk card k l × IsServiceKeeper h.service k
    × IsServiceKeeper h.service l × KeepsTold h.service k Made l) (λ _. IsAtDesk h card)

has-made : (h : Hub) (card : Pass ServiceKeeper DeskDeed) (k old l : ServiceKeeper) (result : Result Client AllocError)
    → IsHolding h.desk card k k → IsServiceKeeper h.service k → old ≡ k → IsServiceKeeper h.service l
    → MatchResult result (λ _. clients_out l ≡ clients_out old + 1) (λ _. l ≡ old)
    → seats_told l ≡ seats_told old → told_of l.driver ≡ told_of old.driver → seats_seen l ≡ seats_seen old
    → seens_of l.driver ≡ seens_of old.driver → HasMade h (pass_with card l) result
has-made h card k old l (Ok client) holding is same after out told driver seen driver-too = (
  k,
  l,
  as-written h.desk card k l holding,
  is,
  after,
  (
    out ∙ ap (λ x. clients_out x + 1) same,
    told ∙ ap seats_told same,
    driver ∙ ap (λ (k : ServiceKeeper). told_of k.driver) same,
    seen ∙ ap seats_seen same,
    driver-too ∙ ap (λ (k : ServiceKeeper). seens_of k.driver) same,
  ),
)
has-made h card k old l (Err why) holding is same after out told driver seen driver-too =
    (k, subst (IsHolding h.desk (pass_with card l) k) (out ∙ same) (as-written h.desk card k l holding), is)

pub returns-clause-made : goal.returns-clause-made
returns-clause-made c =
    let h = c.args.self.now in
    let card = c.args.card.now in
    let it = c.requires in
    let at = c.value_mut.ensures.value in
    let same = as-held h.desk card at.0 c.value_mut.result.now it.0 it.0 at.1 it.1 in
    let told = c.new_client.ensures in
    has-made h card it.0 c.value_mut.result.now c.new_client.new.keeper c.new_client.result it.1 it.2 same told.keeper
    told.out told.told told.driver_told told.seen told.driver_seen
