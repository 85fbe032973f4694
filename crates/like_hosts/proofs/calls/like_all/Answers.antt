use Rattle.std.proofs.Common.{arith, rules}
use Rattle.like_hosts.proofs.Likes.{only-more}
use Rattle.like_hosts.proofs.calls.like_all.Goals as goal

pub loop-user-preserved : goal.loop-user-preserved
loop-user-preserved c = record {
  client = c.like.ensures.client;
  likes = search rules;
  only =
      only-more c.args.page c.args.users.now c.loop-user.user-index c.args.client.now c.loop-user.client
      c.like.new.client (omega arith) c.loop-user.invariant.only c.like.ensures.only;
  few = search rules;
}
