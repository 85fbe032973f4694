use Rattle.like_crew.proofs.crew.own_crew.OwnCrew.turn_of.Goals as goal

pub returns-clause-case : goal.returns-clause-case
returns-clause-case c =
    let t = c.turn_at.ensures.case in
    record { before = t.before; after = t.after; here = t.here; step = t.step.0; rest = t.rest }
