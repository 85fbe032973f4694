use Rattle.std.proofs.Common.{ℕ, List, get_or, set, sym, ap, ◌∙◌}
use Rattle.like_core.specs.declared.view.CoordSeatView.{CoordSeatView}
use Rattle.like_board.specs.Seats.{coord_view}
use Rattle.like_seat.proofs.Choosing.{puts-held, puts-slotted}
use Rattle.like_seat.proofs.lead.slots.put_page.Goals as goal

pub returns-then-held-slot-clause-puts : goal.returns-then-held-slot-clause-puts
returns-then-held-slot-clause-puts c =
    puts-held (coord_view c.args.seat.now) c.args.slot c.args.page
    (sym (ap (λ (xs : List ℕ). get_or xs c.args.slot 0) c.requires.held) ∙ c.if-held-slot.true)

pub returns-clause-puts : goal.returns-clause-puts
returns-clause-puts c =
    puts-slotted (coord_view c.args.seat.now) c.args.slot c.args.page (coord_view c.put.new.self) c.put.ensures.view

pub returns-clause-held : goal.returns-clause-held
returns-clause-held c =
    (λ m. set (c.requires.held m) c.args.slot c.args.page)
    ∙ sym (ap (λ (v : CoordSeatView). v.slots) c.put.ensures.view)
