use Rattle.std.proofs.Common.{[], ◌∷◌}
use Rattle.like_shared.proofs.seat_call.call_free.Given as goal

abbrev pub ghosts-tell : goal.ghosts-tell
ghosts-tell g a = record { done = g.Q.SeatCall.deed a._call.now a._answer.now ∷ [] }
