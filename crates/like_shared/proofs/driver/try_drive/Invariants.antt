use Rattle.std.proofs.Common.{[], ◌∷◌}
use Rattle.like_shared.proofs.driver.try_drive.Given as goal

abbrev pub ghosts-tell : goal.ghosts-tell
ghosts-tell g a = record { done = g.Q.DriverCall.deed a._call.now a._answer.now a._places.now ∷ [] }
