use Rattle.std.proofs.Common.{length, min, sym, ap, ◌∙◌, subst}
use Rattle.like_core.specs.declared.view.CoordSeatView.{CoordSeatView}
use Rattle.like_limits.specs.Limits.{hot_pages}
use Rattle.like_core.specs.views.Views.{SawAllIn}
use Rattle.like_board.specs.Seats.{coord_view}
use Rattle.like_seat.specs.Lead.{LeadView}
use Rattle.like_seat.proofs.Leading.{counted-is, saw-still}
use Rattle.like_seat.proofs.lead.shared.LeadOf+CoordSeat.read_counts.Goals as goal

pub invariant_of-self : goal.invariant_of-self
invariant_of-self c =
    let read = c.read_range.ensures.view ∙ counted-is (coord_view c.self.inside.seat) c.args.from c.read_range.new.counts in
    c.self.invariant ∙ sym (ap (λ (d : CoordSeatView). min hot_pages (length d.opening.counts)) read)

pub returns-clause-saw : goal.returns-clause-saw
returns-clause-saw c =
    let known = coord_view c.self.inside.seat in
    let saw = subst (λ (v : LeadView). SawAllIn v.seat) (sym c.self.view_is) c.requires.saw in
    subst SawAllIn (sym c.read_range.ensures.view) (saw-still known c.args.from c.read_range.new.counts saw)
