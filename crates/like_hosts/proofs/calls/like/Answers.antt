use Rattle.std.proofs.Common.{arith}
use Rattle.like_hosts.proofs.Likes.{like-adds, like-likes-none, like-likes-only, none-none, none-only}
use Rattle.like_hosts.proofs.calls.like.Goals as goal

pub returns-then-is_counted-clause-likes : goal.returns-then-is_counted-clause-likes
returns-then-is_counted-clause-likes c =
    let more =
    like-adds c.args.page c.args.service.now c.loop.client c.like-answer.new.self c.args.user c.like-answer.result
    c.loop.invariant.client c.like-answer.ensures.log in
    omega (arith, more, c.if-is_counted.ensures, c.loop.invariant.likes.pages c.args.page)

pub returns-then-is_counted-clause-only : goal.returns-then-is_counted-clause-only
returns-then-is_counted-clause-only c =
    none-only _ _ c.args.client.now c.loop.client c.like-answer.new.self c.loop.invariant.likes
    (like-likes-only c.args.page c.args.service.now c.loop.client c.like-answer.new.self c.args.user c.like-answer.result
    c.loop.invariant.client c.like-answer.ensures.log)

pub returns-then-not-is_put_off-clause-likes : goal.returns-then-not-is_put_off-clause-likes
returns-then-not-is_put_off-clause-likes c =
    let more =
    like-adds c.args.page c.args.service.now c.loop.client c.like-answer.new.self c.args.user c.like-answer.result
    c.loop.invariant.client c.like-answer.ensures.log in
    omega (arith, more, c.if-is_counted.ensures, c.loop.invariant.likes.pages c.args.page)

pub returns-then-not-is_put_off-clause-only : goal.returns-then-not-is_put_off-clause-only
returns-then-not-is_put_off-clause-only c =
    none-only _ _ c.args.client.now c.loop.client c.like-answer.new.self c.loop.invariant.likes
    (like-likes-only c.args.page c.args.service.now c.loop.client c.like-answer.new.self c.args.user c.like-answer.result
    c.loop.invariant.client c.like-answer.ensures.log)

pub loop-preserved : goal.loop-preserved
loop-preserved c = record {
  client = c.like-answer.ensures.client;
  likes =
      none-none c.args.client.now c.loop.client c.like-answer.new.self c.loop.invariant.likes
      (like-likes-none c.args.page c.args.service.now c.loop.client c.like-answer.new.self c.args.user
      c.like-answer.result c.loop.invariant.client c.like-answer.ensures.log (omega (arith, c.if-is_counted.ensures)));
}
