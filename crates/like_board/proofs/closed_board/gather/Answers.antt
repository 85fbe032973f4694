use Rattle.std.proofs.Common.{◌≡◌, ap, ◌∙◌}
use Rattle.atomic_table.specs.Table.{Me}
use Rattle.like_core.specs.declared.view.View.{View}
use Rattle.like_board.specs.declared.worker_seat.WorkerSeat.{WorkerSeat}
use Rattle.like_board.specs.Seats.{board_id, seat_board}
use Rattle.like_board.proofs.Allowed.{gathering}
use Rattle.like_board.proofs.LastCounts.{as_coord, All-last}
use Rattle.like_board.proofs.closed_board.gather.Goals as goal

pub join_seat-requires : goal.join_seat-requires
join_seat-requires c =
    let board = c.args.board.now in
    let seat : WorkerSeat = c.in-Some.seat in (
      c.loop-seat.invariant.board ∙ c.requires.here,
      All-last (λ (s : WorkerSeat). seat_board s ≡ board_id board) _ _ seat c.in-Some.ensures.items
          c.loop-seat.invariant.seats,
      ap (λ (m : Me (Unit {0}) View). m.1) seat.is_worker,
      board.some_word,
      gathering board.table.shared.key _ _ _ _ (as_coord _ _ (λ m. (c.loop-seat.invariant.coord m).0))
          (λ m. (seat.is_worker m).0),
    )
