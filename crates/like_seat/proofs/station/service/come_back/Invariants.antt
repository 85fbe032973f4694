use Rattle.std.proofs.Common.{◌≡◌}
use Rattle.like_seat.proofs.station.service.come_back.Given as goal

abbrev pub invariant-loop : goal.invariant-loop
invariant-loop g l = record {
  board : g.P.Post.board l.post ≡ g.P.Post.board l.fn.post;
  same : g.P.Post.view l.post ≡ g.P.Post.view l.fn.post;
}
