use Rattle.told_lock.specs.Rights.{IsIdle}
use Rattle.like_hosts.proofs.hub.enter.Given as goal

abbrev pub invariant-loop : goal.invariant-loop
invariant-loop l = record {
  card : IsIdle l.hub.desk l.card;
}
