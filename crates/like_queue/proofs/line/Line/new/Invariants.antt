use Rattle.like_queue.proofs.line.Line.new.Given as goal

-- the passes know the plan of their line
abbrev pub ghosts-split : goal.ghosts-split
ghosts-split a = record { plan = a._plan.now.items }
