use Rattle.std.proofs.Common.{rules, ◌≡◌, ℕ, ◌+◌, subst, sym, ap, ◌∙◌}
use Rattle.like_core.specs.Post.{fresh}
use Rattle.like_board.specs.declared.own_board.worker_seat.OwnWorkerSeat.{OwnWorkerSeat}
use Rattle.like_board.specs.Own.{AreNewOwn, own_opening, own_place, own_view}
use Rattle.like_board.proofs.Pushing.{each-pushed}
use Rattle.like_board.proofs.own_board.seats.own_seats.Goals as goal

pub loop-number-preserved : goal.loop-number-preserved
loop-number-preserved c =
    let l = c.loop-number in
    let board = c.args.board.now in
    let z = own_opening board in
    let made = c.own_seat.ensures in
    let long = sym l.invariant.len in
    let Is : ℕ → OwnWorkerSeat → Type 0 =
    λ i seat. (own_place seat ≡ i + 1) × (own_view seat ≡ fresh z i) in
    record {
      len = search rules;
      room = search rules;
      seats = subst (AreNewOwn board) (sym c.push_reserved.ensures.items)
          (each-pushed Is l.seats.items c.own_seat.result l.invariant.seats
          (made.place ∙ ap (λ n. n + 1) long, made.view ∙ ap (fresh z) long));
    }
