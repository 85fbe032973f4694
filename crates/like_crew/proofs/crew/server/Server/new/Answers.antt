use Rattle.like_crew.proofs.crew.server.Server.new.Goals as goal

pub invariant_of-result : goal.invariant_of-result
invariant_of-result g c = c.in-Ok.ensures.serving (g.P.Post.view c.args.post) c.requires.post

pub returns-in-Ok-clause-new : goal.returns-in-Ok-clause-new
returns-in-Ok-clause-new g c = c.in-Ok.ensures.new (g.P.Post.view c.args.post) c.requires.post

pub returns-in-Ok-clause-works : goal.returns-in-Ok-clause-works
returns-in-Ok-clause-works g c = λ workload of own.
    let works = c.in-Ok.ensures.works (g.P.Post.view c.args.post) c.requires.post workload of own in
    record { plans = works.plans; follows = works.follows }
