-- What a run uses.
use Rattle.std.specs.Prelude.{◌≡◌, List, length, map}
use Rattle.like_requests.specs.{Pages.counts_of, Pages.marks_of, Types.Request, Types.Setup}
use Rattle.like_core.specs.{Types.Opening, core.State.opening}
use Rattle.like_board.specs.{Rule.opened_coord, Seats.board_id, Seats.coord_board, Seats.coord_view}
use Rattle.like_roles.specs.worker.New.{AreNewSeats}
use Rattle.like_crew.specs.declared.site.{Seats.Seats, Site.Site}

-- the opening of the board of a run
abbrev pub opening_of : Setup → Opening
opening_of setup = opening setup.workers (counts_of setup.pages) (marks_of setup.pages)

-- the numbers that a run of these plans goes by
pub record IsSite (setup : Setup) (plans : List (List Request)) (site : Site) : Type 0 where
  pub sizes : site.sizes.items ≡ map length plans
  pub counts : site.counts.items ≡ (opening_of setup).counts

-- the seats of the coordinator and of each worker of a site's board; none has made a step yet
pub record AreSeats (setup : Setup) (site : Site) (seats : Seats) : Type 0 where
  pub board : coord_board seats.coord ≡ board_id site.board
  pub coord : coord_view seats.coord ≡ opened_coord (opening_of setup)
  pub workers : length seats.workers.items ≡ setup.workers
  pub new : AreNewSeats (board_id site.board) setup.pages seats.workers.items
