use Rattle.std.proofs.Common.{length, ap, rules, arith}
use Rattle.atomic_table.specs.Seated.{TableId}
use Rattle.like_core.proofs.views.Apart.{word_of-past}
use Rattle.like_board.specs.Seats.{coord_view}
use Rattle.like_board.proofs.Allowed.{putting}
use Rattle.like_board.proofs.coord_seat.CoordSeat.put.Goals as goal

pub store-requires : goal.store-requires
store-requires c =
    let seat = c.args.self.now in
    let words = ap (λ (t : TableId). t.words) c.requires.here in
    let sized = seat.sized in
    let past = word_of-past (length (coord_view c.args.self.now).opening.counts) in
    let word = c.slot_place-word.ensures in
    let there = c.requires.may.there in (
      c.requires.here,
      omega arith,
      putting c.args.board.now.table.shared.key _ _ _ c.args.slot c.args.page _ word seat.is_coord c.requires.may,
    )

pub invariant_of-self : goal.invariant_of-self
invariant_of-self c = let told = c.store.ensures.2.0 c.args.slot c.slot_place-word.ensures in search (rules, told)

pub returns-clause-view : goal.returns-clause-view
returns-clause-view c = let told = c.store.ensures.2.0 c.args.slot c.slot_place-word.ensures in search (rules, told)
