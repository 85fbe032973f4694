use Rattle.like_roles.proofs.coordinator.look_at_run.Goals as goal

pub returns-clause-shows : goal.returns-clause-shows
returns-clause-shows g c = c.look_at.ensures.sees.shows
