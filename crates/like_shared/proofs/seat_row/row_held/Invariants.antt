use Rattle.like_shared.proofs.seat_row.row_held.Given as goal

abbrev pub ghosts-note : goal.ghosts-note
ghosts-note g a = record { done = g.Q.SeatRow.deeds a._row.now a._answer.now a._places.now }
