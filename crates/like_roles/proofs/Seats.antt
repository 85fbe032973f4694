-- Seats of a board's workers.
use Rattle.std.proofs.Common.{◌≡◌, List, refl, subst, sym}
use Rattle.like_limits.specs.Buckets.{run_factor}
use Rattle.like_requests.specs.Pages.{Page, marks_of}
use Rattle.like_core.specs.declared.opening.Opening.{Opening}
use Rattle.like_core.specs.OpeningLimits.{run_limits}
use Rattle.like_board.specs.declared.worker_seat.WorkerSeat.{WorkerSeat}
use Rattle.like_board.specs.Seats.{AreFresh, BoardId}
use Rattle.like_roles.specs.worker.New.{AreNewSeats, IsPostOf}

-- fresh seats are new ones, of posts at a board with these pages
pub new_seats : (board : BoardId) (z : Opening) (pages : List Page) (seats : List WorkerSeat)
    → z.marks ≡ marks_of pages
    → z.limits ≡ run_limits
    → z.factor ≡ run_factor
    → AreFresh board z seats
    → AreNewSeats board pages seats
new_seats board z pages seats marks limits factor fresh worker seat at =
    let f = fresh worker seat at in (
      f.0,
      subst (IsPostOf worker pages) (sym f.1) (record {
        is_his = refl;
        opening = record { marks = marks; limits = limits; factor = factor };
        fresh = refl;
      }),
    )
