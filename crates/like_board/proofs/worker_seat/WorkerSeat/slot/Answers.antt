use Rattle.std.proofs.Common.{length, ap, rules, arith}
use Rattle.atomic_table.specs.Seated.{TableId}
use Rattle.like_core.proofs.views.Apart.{word_of-past}
use Rattle.like_board.specs.Seats.{seat_view}
use Rattle.like_board.proofs.Allowed.{reading_slot}
use Rattle.like_board.proofs.worker_seat.WorkerSeat.slot.Goals as goal

pub load-requires : goal.load-requires
load-requires c =
    let seat = c.args.self.now in
    let words = ap (λ (t : TableId). t.words) c.requires.here in
    let sized = seat.sized in
    let past = word_of-past (length (seat_view c.args.self.now).opening.marks) in
    let word = c.slot_place-word.ensures in
    let there = c.requires.may.there in (
      c.requires.here,
      omega arith,
      reading_slot c.args.board.now.table.shared.key _ _ _ c.args.slot _ word seat.is_worker c.requires.may,
    )

pub invariant_of-self : goal.invariant_of-self
invariant_of-self c = let told = c.load.ensures.2.0 c.args.slot c.slot_place-word.ensures in search (rules, told)

pub returns-clause-view : goal.returns-clause-view
returns-clause-view c = let told = c.load.ensures.2.0 c.args.slot c.slot_place-word.ensures in search (rules, told)

pub overflow_cast-result : goal.overflow_cast-result
overflow_cast-result c =
    let told = c.load.ensures.2.0 c.args.slot c.slot_place-word.ensures in
    let fits = told.fits in
    omega arith
