-- A board and a seat that are lent for a turn.
use Rattle.std.specs.Prelude.{◌≡◌, slice_set}
use lib.ListN.{get_elem?}
use Rattle.like_core.specs.Types.{View, Worker}
use Rattle.like_board.specs.Own.{Knows, own_place, own_view, own_views}
use Rattle.like_board.specs.declared.own_board.{OwnBoard.OwnBoard, worker_seat.OwnWorkerSeat.OwnWorkerSeat}
use Rattle.like_board.specs.{Known.worker_view_of, Lent.HasFound, Lent.HasLooked}

-- they are lent since the seat knew this: each look that it has made shows the phase as the coordinator knows it, and
-- each step at a page found its count
pub record AreLent (board : OwnBoard) (seat : OwnWorkerSeat) (before : View) : Type 0 where
  pub here : Knows board (own_place seat) (Worker (own_view seat))
  pub knew : before ≡ Worker (worker_view_of before)
  pub looked : HasLooked (get_elem? (own_views board) 0) (worker_view_of before) (own_view seat)
  pub found : HasFound (slice_set (own_views board) (own_place seat) before) (worker_view_of before) (own_view seat)
