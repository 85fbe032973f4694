use Rattle.std.proofs.Common.{◌≡◌, ◌≤◌, false, length, replicate, vec_capacity, rules, ap, sym, ◌∙◌, subst, refl}
use Rattle.like_core.specs.OpeningLimits.{service_limits}
use Rattle.like_core.specs.declared.opening.Opening.{Opening as CoreOpening}
use Rattle.like_core.specs.declared.view.CoordSeatView.{CoordSeatView}
use Rattle.like_board.specs.Rule.{opened_coord}
use Rattle.like_seat.specs.Lead.{LeadView}
use Rattle.like_choice.specs.Slots.{AreSlots}
use Rattle.like_live.specs.Opening.{board_opening}
use Rattle.like_live.specs.Splits.{AreSplitsOf, SplitsView}
use Rattle.like_live.proofs.Turning.{new-splits}
use Rattle.like_live.proofs.driver.Driver.new.Goals as goal

pub invariant_of-result : goal.invariant_of-result
invariant_of-result g c =
    let o = c.args.opening.now in
    let lead = c.in-Ok.ensures.new in
    let seat : c.in-Ok.lead.seat ≡ opened_coord (board_opening o c.args.factor) =
    ap (λ (l : LeadView). l.seat) lead ∙ c.requires.new in
    let opening : c.in-Ok.lead.seat.opening ≡ board_opening o c.args.factor =
    ap (λ (d : CoordSeatView). d.opening) seat in
    let is = c.new-in-Ok.ensures.new in
    let within = c.requires.within in (
      record {
        here = ap (λ (l : LeadView). l.board) lead ∙ c.requires.here;
        pages_is = c.len-pages.ensures ∙ o.counts.ok.0 ∙ sym (ap (λ (z : CoreOpening). length z.counts) opening);
        service = record {
          few_pages = subst (λ (z : CoreOpening). length z.counts ≤ service_limits.pages) (sym opening) within.0.1;
          plain = subst (λ (z : CoreOpening). z.marks ≡ replicate (length z.counts) false) (sym opening) refl;
          limits = ap (λ (z : CoreOpening). z.limits) opening;
          splits = subst (λ (s : SplitsView). AreSplitsOf c.in-Ok.lead.seat s) (sym is)
              (new-splits c.in-Ok.lead.seat c.args.factor c.len-pages.result c.deref-in-Ok.result.now _ _
              (subst (λ (s : SplitsView). AreSlots s.slots) is c.new-in-Ok.ensures.lawful)
              (ap (λ (z : CoreOpening). z.factor) opening)
              (ap (λ (z : CoreOpening). length z.counts) opening ∙ sym (c.len-pages.ensures ∙ o.counts.ok.0))
              (ap (λ (d : CoordSeatView). d.slots) seat) (ap (λ (d : CoordSeatView). d.phase) seat));
        };
      },
      record {
        none = search rules;
        enough = subst (λ (z : CoreOpening). z.workers ≤ vec_capacity c.in_ok-back.back) (sym opening) (search rules);
      },
    )
