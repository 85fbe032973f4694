use Rattle.std.proofs.Common.{refl}
use Rattle.like_shared.specs.declared.deed.SeatDeed.TheVariants as deed
use Rattle.like_hosts.proofs.Likes.{call-likes-none, none-none}
use Rattle.like_hosts.proofs.calls.retire.Goals as goal

pub returns-in-Ok-Gone-clause-likes : goal.returns-in-Ok-Gone-clause-likes
returns-in-Ok-Gone-clause-likes c =
    none-none c.args.client.now c.loop.client c.retire.new.self c.loop.invariant.likes
    (call-likes-none c.args.service.now c.loop.client c.retire.new.self c.args.seat deed.Retire c.retire.result
    (λ told page. refl) (λ told user page. refl) c.loop.invariant.client c.requires.seat c.retire.ensures.log)

pub loop-preserved : goal.loop-preserved
loop-preserved c = record {
  client = c.retire.ensures.client;
  likes =
      none-none c.args.client.now c.loop.client c.retire.new.self c.loop.invariant.likes
      (call-likes-none c.args.service.now c.loop.client c.retire.new.self c.args.seat deed.Retire c.retire.result
      (λ told page. refl) (λ told user page. refl) c.loop.invariant.client c.requires.seat c.retire.ensures.log);
}
