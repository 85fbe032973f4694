use Rattle.std.proofs.Common.{◌≡◌, length, map, vec_capacity}
use Rattle.like_queue.proofs.lines.ends_of.Given as goal

abbrev pub invariant-loop-send : goal.invariant-loop-send
invariant-loop-send l = record {
  sends : l.sends.items ≡ map (λ p. p.0) l.yielded;
  takes : l.takes.items ≡ map (λ p. p.1) l.yielded;
  room : (vec_capacity l.sends ≡ length l.lines) × (vec_capacity l.takes ≡ length l.lines);
}
