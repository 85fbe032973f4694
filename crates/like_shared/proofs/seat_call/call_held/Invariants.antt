use Rattle.std.proofs.Common.{[], ◌∷◌}
use Rattle.like_shared.proofs.seat_call.call_held.Given as goal

abbrev pub ghosts-note : goal.ghosts-note
ghosts-note g a = record { done = g.Q.SeatCall.deed a._call.now a._answer.now ∷ [] }
