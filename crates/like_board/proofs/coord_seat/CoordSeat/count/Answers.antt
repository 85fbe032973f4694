use Rattle.std.proofs.Common.{ap, rules, subst, sym, arith}
use Rattle.atomic_table.specs.Seated.{TableId}
use Rattle.like_core.proofs.views.Apart.{word_of-order}
use Rattle.like_core.specs.views.Actions.{Counts}
use Rattle.like_board.specs.Known.{coord_view_of}
use Rattle.like_board.specs.Seats.{coord_view}
use Rattle.like_board.proofs.Allowed.{counting}
use Rattle.like_board.proofs.coord_seat.CoordSeat.count.Goals as goal

pub load-requires : goal.load-requires
load-requires c =
    let seat = c.args.self.now in
    let words = ap (λ (t : TableId). t.words) c.requires.here in
    let sized = seat.sized in
    let word = c.word_of-word.ensures in
    let there = word_of-order c.args.page _ c.requires.may.2 in (
      c.requires.here,
      omega arith,
      counting c.args.board.now.table.shared.key _ _ _ c.args.page _ word seat.is_coord c.requires.may,
    )

pub invariant_of-self : goal.invariant_of-self
invariant_of-self c = let told = c.load.ensures.2.0 c.args.page c.word_of-word.ensures in search (rules, told)

pub returns-clause-view : goal.returns-clause-view
returns-clause-view c = ap coord_view_of (c.load.ensures.2.0 c.args.page c.word_of-word.ensures).view

pub returns-clause-event : goal.returns-clause-event
returns-clause-event c =
    subst (Counts (coord_view c.args.self.now) c.args.page c.load.result) (sym (returns-clause-view c))
    (c.load.ensures.2.0 c.args.page c.word_of-word.ensures).step
