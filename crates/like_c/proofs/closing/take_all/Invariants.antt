use Rattle.std.proofs.Common.{◌≡◌, ◌≤◌, drop, length, map, take, None, Some, vec_capacity}
use Rattle.std.specs.List.{All}
use Rattle.like_live.specs.Service.{AreGone}
use Rattle.like_c.specs.Closes.{live_in}
use Rattle.like_c.proofs.closing.take_all.Given as goal

abbrev pub invariant-loop-i : goal.invariant-loop-i
invariant-loop-i l = record {
  taken : map live_in (take l.i l.fn.seats) ≡ map Some l.back.items;
  gone : AreGone l.back.items;
  left : All (λ h. h.home ≡ None) (take l.i l.seats);
  rest : drop l.i l.seats ≡ drop l.i l.fn.seats;
  many : length l.back.items ≡ l.i;
  room : length l.fn.seats ≤ vec_capacity l.back;
}
