use Rattle.std.proofs.Common.{◌≡◌, ◌+◌, ◌≤◌, take}
use Rattle.like_shared.specs.Shared.{IsClient}
use Rattle.like_hosts.specs.Likes.{LikesOnly, likes_in}
use Rattle.like_hosts.proofs.calls.like_all.Given as goal

abbrev pub invariant-loop-user : goal.invariant-loop-user
invariant-loop-user l = record {
  client : IsClient l.service l.client;
  likes : likes_in l.page l.client ≡ likes_in l.page l.initial.client + l.liked;
  only : LikesOnly l.page (take l.user-index l.users) l.initial.client l.client;
  few : l.liked ≤ l.user-index;
}
