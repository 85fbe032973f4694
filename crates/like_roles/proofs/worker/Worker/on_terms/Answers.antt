use Rattle.std.proofs.Common.{refl}
use Rattle.like_roles.proofs.worker.Worker.on_terms.Goals as goal

pub invariant_of-result : goal.invariant_of-result
invariant_of-result g c = c.in-Ok.ensures.ready (g.P.Post.view c.args.post) c.requires.post

pub returns-in-Ok-clause-new : goal.returns-in-Ok-clause-new
returns-in-Ok-clause-new g c =
    record { at_board = refl; new = c.in-Ok.ensures.new (g.P.Post.view c.args.post) c.requires.post }

pub returns-in-Ok-clause-follows : goal.returns-in-Ok-clause-follows
returns-in-Ok-clause-follows g c = c.in-Ok.ensures.follows (g.P.Post.view c.args.post) c.requires.post
