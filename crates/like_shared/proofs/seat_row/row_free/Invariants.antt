use Rattle.like_shared.proofs.seat_row.row_free.Given as goal

abbrev pub ghosts-tell : goal.ghosts-tell
ghosts-tell g a = record { done = g.Q.SeatRow.deeds a._row.now a._answer.now a._places.now }
