use Rattle.std.proofs.Common.{◌≡◌, length, vec_capacity}
use Rattle.std.specs.List.{All}
use Rattle.like_live.specs.Service.{AreBackFrom, HasMergedOnceGone}
use Rattle.like_live.proofs.driver.give_back.Given as goal

abbrev pub invariant-loop-seat : goal.invariant-loop-seat
invariant-loop-seat l = record {
  back : AreBackFrom l.yielded l.back.items;
  len : length l.back.items ≡ length l.yielded;
  room : vec_capacity l.back ≡ vec_capacity l.initial.back;
  merged : All HasMergedOnceGone l.yielded;
}
