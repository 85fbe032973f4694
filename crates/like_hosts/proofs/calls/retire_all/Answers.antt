use Rattle.like_hosts.proofs.Likes.{none-none}
use Rattle.like_hosts.proofs.calls.retire_all.Goals as goal

pub loop-seat-preserved : goal.loop-seat-preserved
loop-seat-preserved c = record {
  client = c.retire.ensures.client;
  likes =
      none-none c.args.client.now c.loop-seat.client c.retire.new.client c.loop-seat.invariant.likes c.retire.ensures.likes;
}
