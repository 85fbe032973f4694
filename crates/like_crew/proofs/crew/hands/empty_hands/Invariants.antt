use Rattle.std.proofs.Common.{◌≡◌, [], All, length}
use Rattle.like_crew.proofs.crew.hands.empty_hands.Given as goal

abbrev pub invariant-loop : goal.invariant-loop
invariant-loop g l = record {
  len : length l.hands.items ≡ l.counter;
  none : All (λ hand. hand.items ≡ []) l.hands.items;
}
