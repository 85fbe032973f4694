use Rattle.like_hosts.proofs.Likes.{none-none, same-likes-none}
use Rattle.like_hosts.proofs.calls.drive.Goals as goal

pub returns-in-Ok-Ended-clause-likes : goal.returns-in-Ok-Ended-clause-likes
returns-in-Ok-Ended-clause-likes c =
    none-none c.args.client.now c.loop.client c.turn_driver.new.self c.loop.invariant.likes
    (same-likes-none c.loop.client c.turn_driver.new.self c.turn_driver.ensures.log.seats)

pub loop-preserved : goal.loop-preserved
loop-preserved c = record {
  client = c.turn_all.ensures.client;
  likes =
      none-none c.args.client.now c.loop.client c.turn_all.new.client c.loop.invariant.likes
      (none-none c.loop.client c.turn_driver.new.self c.turn_all.new.client
      (same-likes-none c.loop.client c.turn_driver.new.self c.turn_driver.ensures.log.seats) c.turn_all.ensures.likes);
}
