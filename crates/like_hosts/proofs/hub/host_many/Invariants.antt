use Rattle.std.proofs.Common.{◌≡◌}
use Rattle.told_lock.specs.Rights.{IsKeeper}
use Rattle.like_hosts.proofs.hub.host_many.Given as goal

abbrev pub invariant-loop : goal.invariant-loop
invariant-loop l = record {
  cards : IsKeeper l.hub.desk l.cards;
  out : l.cards.out ≡ l.counter;
}
