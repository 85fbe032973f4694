use Rattle.std.proofs.Common.{◌≡◌, [], map}
use Rattle.std.specs.List.{All, AllZip}
use Rattle.told_lock.specs.Rights.{IsKeeper, first_of, told_of}
use Rattle.like_shared.proofs.service.lock_all.Given as goal

abbrev pub invariant-loop-seat : goal.invariant-loop-seat
invariant-loop-seat l = record {
  seats : map first_of l.locks.items ≡ l.yielded;
  keepers : AllZip IsKeeper l.locks.items l.keepers.items;
  told : All (λ k. told_of k ≡ []) l.keepers.items;
  out : All (λ k. k.out ≡ 0) l.keepers.items;
}
