use Rattle.std.proofs.Common.{◌≡◌, ◌<◌, length, ap, sym, ◌∙◌, subst}
use Rattle.like_core.specs.declared.view.CoordSeatView.{CoordSeatView}
use Rattle.like_board.specs.Closed.{IsClosed, count_with}
use Rattle.like_board.specs.Seats.{board_id, coord_view}
use Rattle.like_live.specs.Driver.{DriverView}
use Rattle.like_live.specs.Service.{posts_at}
use Rattle.like_live.proofs.Closing.{back-all, back-here, last-total}
use Rattle.like_live.proofs.driver.Driver.finish.Goals as goal

pub last_counts-requires-clause-seats_here : goal.last_counts-requires-clause-seats_here
last_counts-requires-clause-seats_here g c = λ k d below.
    back-here c.args.self c.args.seats.items c.give_back.new.back.items c.give_back.ensures.back c.requires.whole k d
    below
    ∙ sym (ap (λ (d : DriverView). d.lead.board) c.self.view_is) ∙ c.self.invariant.0.here ∙ ap board_id (sym c.deref.ensures)

pub last_counts-requires-clause-all : goal.last_counts-requires-clause-all
last_counts-requires-clause-all g c = λ i there.
    let seat_is : coord_view c.finish.result ≡ c.args.self.lead.seat =
    c.finish.ensures.view ∙ ap (λ (d : DriverView). d.lead.seat) c.self.view_is in
    back-all c.args.self c.args.seats.items c.give_back.new.back.items c.give_back.ensures.back c.requires.whole i
    (subst (λ (d : CoordSeatView). i < d.opening.workers) seat_is there)

pub returns : goal.returns
returns g c =
    let back = c.give_back.new.back.items in
    let is = c.last_counts.ensures in
    let seat_is : coord_view c.finish.result ≡ c.args.self.lead.seat =
    c.finish.ensures.view ∙ ap (λ (d : DriverView). d.lead.seat) c.self.view_is in
    record {
      len = is.len ∙ ap (λ (d : CoordSeatView). length d.opening.counts) seat_is;
      totals = λ page there.
          is.totals page there
          ∙ ap (λ (d : CoordSeatView). count_with d back page) seat_is
          ∙ last-total c.args.self c.args.seats.items back page c.give_back.ensures.back c.give_back.ensures.merged
          c.requires.gone;
      closed = subst (λ (d : CoordSeatView). IsClosed d (posts_at c.args.seats.items)) seat_is
          (subst (IsClosed (coord_view c.finish.result)) c.give_back.ensures.back.views is.closed);
    }
