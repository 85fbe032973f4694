-- The desk of a shared service, at which clients are made and parked.
use Rattle.std.specs.Prelude.{◌≡◌, ◌+◌, ◌-◌, ◌++◌, [], ◌∷◌}
use Rattle.told_lock.specs.{Deeds.named, Rights.name_of, Rights.seen_of, Rights.seens_of, Rights.told_of}
use Rattle.like_shared.specs.Shared.{IsClient, IsServiceKeeper, clients_out, driver_log, seats_seen, seats_told}
use Rattle.like_shared.specs.Shared.{with_logs, with_seen}
use Rattle.like_shared.specs.declared.desk.DeskDeed.{DeskDeed, TheVariants.Made, TheVariants.Parked}
use Rattle.like_shared.specs.declared.service.{ServiceKeeper.ServiceKeeper, SharedService.SharedService}

-- what the keeper of a service knows after a deed at its desk: how many clients are out, what it knew, and the log of the
-- client that was parked, with what that has seen
abbrev pub KeepsTold : SharedService → ServiceKeeper → DeskDeed → ServiceKeeper → Type 0
KeepsTold s before Made after =
    (clients_out after ≡ clients_out before + 1)
    × (seats_told after ≡ seats_told before) × (told_of after.driver ≡ told_of before.driver)
    × (seats_seen after ≡ seats_seen before) × (seens_of after.driver ≡ seens_of before.driver)
KeepsTold s before (Parked client) after =
    IsClient s client × (clients_out after ≡ clients_out before - 1)
    × (seats_told after ≡ with_logs (seats_told before) client.seats.items)
    × (told_of after.driver ≡ told_of before.driver ++ named (name_of client.driver) (driver_log client))
    × (seats_seen after ≡ with_seen (seats_seen before) client.seats.items)
    × (seens_of after.driver ≡ seens_of before.driver ++ seen_of client.driver ∷ [])

-- what a deed at the desk does: it leaves the keeper of the same service, which has lost nothing that clients told
abbrev pub DeskDoes : ServiceKeeper → DeskDeed → ServiceKeeper → Type 0
DeskDoes before d after =
    (s : SharedService) × IsServiceKeeper s before × IsServiceKeeper s after × KeepsTold s before d after
