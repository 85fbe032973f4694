use Rattle.std.proofs.Common.{length, min, ap, sym, subst, ◌∙◌}
use Rattle.like_core.specs.declared.view.CoordSeatView.{CoordSeatView}
use Rattle.like_limits.specs.Limits.{hot_pages}
use Rattle.like_board.specs.Led.{IsLedBy, ShowsTold}
use Rattle.like_seat.specs.Lead.{LeadView, Sees}
use Rattle.like_seat.proofs.lead.LeadOf.look_at.Goals as goal

pub look-requires : goal.look-requires
look-requires g c =
    subst (λ (v : LeadView). IsLedBy (g.S.LeadsAt.tells c.args.board.now) v.board v.seat) (sym c.self.view_is) c.requires

pub invariant_of-self : goal.invariant_of-self
invariant_of-self g c =
    c.self.invariant
    ∙ sym (ap (λ (d : CoordSeatView). min hot_pages (length d.opening.counts)) c.look.ensures.sees.saw)

pub returns-clause-sees : goal.returns-clause-sees
returns-clause-sees g c =
    let inside = c.self.inside in
    let told = c.look.ensures in
    let after : LeadView =
    record {
      board = g.S.LeadSeat.board c.look.new.self;
      seat = g.S.LeadSeat.view c.look.new.self;
      hot = inside.hot;
      before = inside.before.items;
    } in
    subst (λ (v : LeadView). Sees v c.look.result after) c.self.view_is (record {
      shows = told.sees.shows;
      event = told.sees.event;
      saw = λ m. record {
        board = told.board m;
        seat = told.sees.saw m;
        hot = inside.hot;
        before = inside.before.items;
      };
      known = told.sees.known;
    })

pub returns-clause-fresh : goal.returns-clause-fresh
returns-clause-fresh g c =
    subst (λ (v : LeadView). ShowsTold (g.S.LeadsAt.tells c.args.board.now) v.seat.phase c.look.result) c.self.view_is
    c.look.ensures.fresh
