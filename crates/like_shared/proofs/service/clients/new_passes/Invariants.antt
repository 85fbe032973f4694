use Rattle.std.proofs.Common.{◌≡◌, ℕ, ◌+◌, ◌≤◌, [], false, get_or, length, map, replicate, take, vec_capacity}
use Rattle.std.specs.List.{All, AllZip}
use Rattle.told_lock.specs.Rights.{IsKeeper, seens_of, told_of}
use Rattle.like_shared.specs.Passes.{IsReady, log_at}
use Rattle.like_shared.proofs.Places.{IsOut}
use Rattle.like_shared.proofs.service.clients.new_passes.Given as goal

abbrev pub invariant-loop-seat : goal.invariant-loop-seat
invariant-loop-seat l = record {
  keepers : AllZip IsKeeper l.locks l.keepers;
  out : All (IsOut (l._out + 1)) (take l.seat l.keepers);
  told : map told_of l.keepers ≡ map told_of l.initial.keepers;
  seen : map seens_of l.keepers ≡ map seens_of l.initial.keepers;
  rest : (i : ℕ) (d : _) → l.seat ≤ i → get_or l.keepers i d ≡ get_or l.initial.keepers i d;
  passes : AllZip IsReady (take l.seat l.locks) l.passes.items;
  logs : map log_at l.passes.items ≡ replicate l.seat [];
  held : map (λ p. p.is_held) l.passes.items ≡ replicate l.seat false;
  len : length l.passes.items ≡ l.seat;
  room : vec_capacity l.passes ≡ vec_capacity l.initial.passes;
}
