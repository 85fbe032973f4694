use Rattle.like_shared.specs.Shared.{IsClient}
use Rattle.like_hosts.specs.Likes.{LikesNone}
use Rattle.like_hosts.proofs.calls.turn_all.Given as goal

abbrev pub invariant-loop-seat : goal.invariant-loop-seat
invariant-loop-seat l = record {
  client : IsClient l.service l.client;
  likes : LikesNone l.initial.client l.client;
}
