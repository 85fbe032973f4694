-- A service that threads share, from its opening to its end, and what likes.h tells of it.
use Rattle.std.specs.Prelude.{◌≡◌, ◌≢◌, ◌⊎◌, ℕ, ◌+◌, false, length, replicate, List, [], ◌∷◌, IfSome, IsSome, Option, Some, None, Result, Ok, Err}
use Rattle.std.specs.{Arc.arc_value, Option.is_some}
use Rattle.told_lock.specs.Rights.{first_of, log_of, told_of}
use Rattle.like_live.specs.{Opening.Asking, Opening.asking, Service.AreOpened, Types.Opening}
use Rattle.like_shared.specs.Hubs.{IsClosedBy, IsLastKeeper}
use Rattle.like_shared.specs.Shared.{IsUnused, driver_log, first_driver, first_seats, held_by, pages_of, seat_logs}
use Rattle.like_shared.specs.Shared.{seats_of}
use Rattle.like_shared.specs.declared.{desk.DeskDeed.TheVariants.Made, hub.Hub.Hub}
use Rattle.like_c.specs.Clients.{hub_of}
use Rattle.like_c.specs.Status.{busy, counted, empty, no_memory, not_ended, ok, open_client, status, wrong_pages}
use Rattle.like_c.specs.declared.{boxed_client.BoxedClient.BoxedClient, boxed_shared.BoxedShared.BoxedShared}

-- the hub of a shared service
abbrev pub shared_hub : BoxedShared → Hub
shared_hub b = arc_value b.hub

-- a service was opened as is asked for; no page was proposed, and its driver finds hot pages only if some are asked for;
-- no client and no card is out, and none has told anything; and its phase is there
pub record IsSharedAs (asked : Asking) (it : BoxedShared) : Type 0 where
  pub opening : Opening
  pub asks : asking opening ≡ asked
  pub opened : AreOpened opening (first_driver (shared_hub it).service) (first_seats (shared_hub it).service)
  pub proposed : (first_driver (shared_hub it).service).splits.told ≡ []
  pub finds : (first_driver (shared_hub it).service).splits.finds ≡ is_some opening.hot
  pub unused : IsUnused (first_of (shared_hub it).desk)
  pub out : it.cards.out ≡ 0
  pub told : told_of it.cards ≡ []
  pub phase : IsSome it.phase

-- the service and its phase stay
pub record KeepsShared (b c : BoxedShared) : Type 0 where
  pub hub : c.hub ≡ b.hub
  pub phase : c.phase ≡ b.phase

-- a new client of this service, and its card, which only made it: it has told nothing, and holds no seat
pub record IsNewClient (b : BoxedShared) (c : BoxedClient) : Type 0 where
  pub hub : hub_of c ≡ shared_hub b
  pub seats : seat_logs c.client ≡ replicate (seats_of (shared_hub b).service) []
  pub driver : driver_log c.client ≡ []
  pub held : held_by c.client ≡ replicate (seats_of (shared_hub b).service) false
  pub card : IsSome c.card
  pub made : IfSome c.card (λ card. log_of card ≡ Made ∷ [])

-- why no client is made: another thread is at the desk, or there is no memory
abbrev pub IsNoClient : ℕ → Type 0
IsNoClient result = (result ≡ status busy) ⊎ (result ≡ status no_memory)

-- a client is made, or not. Cards for the desk are out for clients alone
abbrev pub MakesClient : Result BoxedClient ℕ → BoxedShared → BoxedShared → Type 0
MakesClient (Ok client) b d = KeepsShared b d × (d.cards.out ≡ b.cards.out + 1) × IsNewClient b client
MakesClient (Err why) b d = KeepsShared b d × (d.cards.out ≡ b.cards.out) × IsNoClient why

-- a client is parked, and its handle is empty; or another thread is at the desk, and the client stays, with its card
pub data ClosesClient (at : Option BoxedClient) (result : ℕ) (after : Option BoxedClient) : Type 0 where
  no_client : at ≡ None → result ≡ status empty → after ≡ None → ClosesClient at result after
  stays : (b c : BoxedClient) → at ≡ Some b → result ≡ status busy → c.hub ≡ b.hub → c.client ≡ b.client
      → (IsSome b.card → IsSome c.card) → after ≡ Some c → ClosesClient at result after
  parks : (b : BoxedClient) → at ≡ Some b → result ≡ status ok → after ≡ None → ClosesClient at result after

-- why a service is lost: a client is open, or not all seats are gone
abbrev pub IsLost : ℕ → Type 0
IsLost result = (result ≡ status open_client) ⊎ (result ≡ status not_ended)

-- why it isn't closed: so it would be lost, or there is no memory
abbrev pub IsNoEnd : ℕ → Type 0
IsNoEnd result = IsLost result ⊎ (result ≡ status no_memory)

-- a service is closed, with what is known of a closed hub; or it stays open, or is lost with a client, and the counts are
-- as they were
pub data ClosesShared (at : Option BoxedShared) (old : List ℕ) (result : ℕ) (counts : List ℕ)
    (after : Option BoxedShared) : Type 0 where
  close_none : at ≡ None → result ≡ status empty → counts ≡ old → after ≡ None
      → ClosesShared at old result counts after
  close_pages : (b : BoxedShared) → at ≡ Some b → length old ≢ pages_of (shared_hub b).service
      → result ≡ status wrong_pages → counts ≡ old → after ≡ at → ClosesShared at old result counts after
  close_stays : (b d : BoxedShared) → at ≡ Some b → length old ≡ pages_of (shared_hub b).service → IsNoEnd result
      → counts ≡ old → KeepsShared b d → after ≡ Some d → ClosesShared at old result counts after
  close_lost : (b : BoxedShared) → at ≡ Some b → length old ≡ pages_of (shared_hub b).service → IsLost result
      → counts ≡ old → after ≡ None → ClosesShared at old result counts after
  closes_hub : (b : BoxedShared) → at ≡ Some b → IsClosedBy (IsLastKeeper (shared_hub b)) (shared_hub b) counts
      → result ≡ status counted → after ≡ None → ClosesShared at old result counts after
