use Rattle.std.proofs.Common.{rules, ◌≡◌, ℕ, subst, sym, ◌∙◌}
use Rattle.like_core.specs.Post.{fresh}
use Rattle.like_board.specs.declared.worker_seat.WorkerSeat.{WorkerSeat}
use Rattle.like_board.specs.Known.{coord_view_of}
use Rattle.like_board.specs.Seats.{AreFresh, seat_board, seat_view}
use Rattle.like_board.proofs.Pushing.{each-pushed}
use Rattle.like_board.proofs.new_seats.make_seats.Goals as goal

pub loop-number-preserved : goal.loop-number-preserved
loop-number-preserved c =
    let l = c.loop-number in
    let board = c.args.coord.now.table_id in
    let z = (coord_view_of c.args.coord.now.me.0).opening in
    let made = c.make_seat.ensures in
    let Is : ℕ → WorkerSeat → Type 0 =
    λ i seat. (seat_board seat ≡ board) × (seat_view seat ≡ fresh z i) in
    record {
      board = search rules;
      view = search rules;
      len = search rules;
      room = search rules;
      seats = subst (AreFresh board z) (sym c.push_reserved.ensures.items)
          (each-pushed Is l.seats.items c.make_seat.result l.invariant.seats (
            made.seat_board ∙ l.invariant.board,
            made.seat_view ∙ (λ m. fresh (coord_view_of (l.invariant.view m).0).opening (sym l.invariant.len m)),
          ));
    }
