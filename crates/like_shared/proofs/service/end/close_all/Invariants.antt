use Rattle.std.proofs.Common.{◌≡◌, length, map, vec_capacity}
use Rattle.like_shared.specs.Closed.{AreEndsOf}
use Rattle.like_shared.proofs.Closing.{first_at, seen_in, told_at}
use Rattle.like_shared.proofs.service.end.close_all.Given as goal

abbrev pub invariant-loop-lock : goal.invariant-loop-lock
invariant-loop-lock l = record {
  ends : AreEndsOf (map first_at l.yielded) (map told_at l.yielded) (map seen_in l.yielded) l.back.items;
  len : length l.back.items ≡ length l.yielded;
  room : vec_capacity l.back ≡ vec_capacity l.initial.back;
}
