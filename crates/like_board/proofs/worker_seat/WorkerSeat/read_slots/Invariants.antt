use Rattle.std.proofs.Common.{◌≡◌, ◌<◌, length, take}
use Rattle.like_limits.specs.Limits.{hot_pages}
use Rattle.like_board.specs.Seats.{seat_board, seat_view}
use Rattle.like_board.proofs.worker_seat.WorkerSeat.read_slots.Given as goal

abbrev pub invariant-loop-slot : goal.invariant-loop-slot
invariant-loop-slot l = record {
  board : seat_board l.self ≡ seat_board l.fn.self;
  first : l.slot ≡ 0 → seat_view l.self ≡ seat_view l.fn.self;
  later : 0 < l.slot → seat_view l.self ≡ record (seat_view l.fn.self) { slots = take l.slot l.pages };
  places : length l.pages ≡ hot_pages;
}
