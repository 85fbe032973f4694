use Rattle.like_board.specs.Own.{own_view}
use Rattle.like_crew.proofs.crew.server.own_server.OwnServer.new.Goals as goal

pub returns-clause-works : goal.returns-clause-works
returns-clause-works g c = λ workload of own.
    let works = c.in_ok-serving.ensures.works (own_view c.args.seat) c.requires.post workload of own in
    record { plans = works.plans; follows = works.follows }
