use Rattle.std.proofs.Common.{◌≡◌, length, map}
use Rattle.like_crew.proofs.lists.Deals.{AllDealt}
use Rattle.like_crew.proofs.crew.hands.deal.Given as goal

abbrev pub invariant-loop-item : goal.invariant-loop-item
invariant-loop-item g l = record {
  next : l.submitter ≡ length l.yielded;
  sized : length l.hands.items ≡ l.workers;
  dealt : AllDealt l.yielded l.workers (map (λ hand. hand.items) l.hands.items);
}
