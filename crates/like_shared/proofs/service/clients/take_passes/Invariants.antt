use Rattle.std.proofs.Common.{◌≡◌, ℕ, ◌-◌, ◌≤◌, get_or, length, map, take}
use Rattle.std.specs.List.{All, AllZip}
use Rattle.told_lock.specs.Rights.{IsKeeper, seens_of, told_of}
use Rattle.like_shared.specs.Shared.{with_logs, with_seen}
use Rattle.like_shared.proofs.Places.{IsOut}
use Rattle.like_shared.proofs.service.clients.take_passes.Given as goal

abbrev pub invariant-loop-pass : goal.invariant-loop-pass
invariant-loop-pass l = record {
  next : l.seat ≡ length l.yielded;
  keepers : AllZip IsKeeper l.locks l.keepers;
  out : All (IsOut (l._out - 1)) (take l.seat l.keepers);
  rest : (i : ℕ) (d : _) → l.seat ≤ i → get_or l.keepers i d ≡ get_or l.initial.keepers i d;
  told : map told_of l.keepers ≡ with_logs (map told_of l.initial.keepers) l.yielded;
  seen : map seens_of l.keepers ≡ with_seen (map seens_of l.initial.keepers) l.yielded;
}
