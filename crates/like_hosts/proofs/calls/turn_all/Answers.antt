use Rattle.std.proofs.Common.{refl, arith}
use Rattle.like_shared.specs.declared.deed.SeatDeed.TheVariants as deed
use Rattle.like_hosts.proofs.Likes.{call-likes-none, none-none}
use Rattle.like_hosts.proofs.calls.turn_all.Goals as goal

pub loop-seat-preserved : goal.loop-seat-preserved
loop-seat-preserved c = record {
  client = c.turn.ensures.client;
  likes =
      none-none c.args.client.now c.loop-seat.client c.turn.new.self c.loop-seat.invariant.likes
      (call-likes-none c.args.service.now c.loop-seat.client c.turn.new.self c.loop-seat.seat deed.Turn c.turn.result
      (λ told page. refl) (λ told user page. refl) c.loop-seat.invariant.client (omega arith) c.turn.ensures.log);
}
