use Rattle.like_shared.specs.Shared.{IsClient}
use Rattle.like_hosts.specs.Likes.{LikesNone}
use Rattle.like_hosts.proofs.calls.drive.Given as goal

abbrev pub invariant-loop : goal.invariant-loop
invariant-loop l = record {
  client : IsClient l.service l.client;
  likes : LikesNone l.initial.client l.client;
}
