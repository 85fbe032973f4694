use Rattle.std.proofs.Common.{sym, subst}
use Rattle.like_board.specs.Led.{IsLedBy}
use Rattle.like_seat.specs.Lead.{LeadView}
use Rattle.like_seat.proofs.lead.LeadOf.publish_at.Goals as goal

pub publish-requires-clause-here : goal.publish-requires-clause-here
publish-requires-clause-here g c =
    subst (λ (v : LeadView). IsLedBy (g.S.LeadsAt.tells c.args.board.now) v.board v.seat) (sym c.self.view_is)
    c.requires.here
