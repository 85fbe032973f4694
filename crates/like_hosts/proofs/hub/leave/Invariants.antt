use Rattle.told_lock.specs.Rights.{IsIdle}
use Rattle.like_shared.specs.Shared.{IsClient}
use Rattle.like_hosts.proofs.hub.leave.Given as goal

abbrev pub invariant-loop : goal.invariant-loop
invariant-loop l = record {
  card : IsIdle l.hub.desk l.card;
  client : IsClient l.hub.service l.out;
}
