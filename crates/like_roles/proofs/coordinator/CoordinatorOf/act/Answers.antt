use Rattle.std.proofs.Common.{◌≡◌, ◌<◌, true, false, ap, sym, ◌∙◌, refl, subst, arith}
use Rattle.like_core.specs.declared.opening.Opening.{Opening}
use Rattle.like_core.specs.Phase.{last_phase}
use Rattle.like_board.specs.Led.{IsLedBy}
use Rattle.like_board.proofs.Led.{led-on, leads-on}
use Rattle.like_seat.specs.Lead.{LeadView}
use Rattle.like_roles.specs.coordinator.CoordTurns.{CoordinatorView, coordinator_of, ends, counts, stays, announces, releases, waits}
use Rattle.like_roles.proofs.choice.Choosing.{release-opening}
use Rattle.like_roles.proofs.choice.Coordinating.{by_case}
use Rattle.like_roles.proofs.coordinator.CoordinatorOf.act.Goals as goal
use Rattle.like_roles.proofs.coordinator.CoordinatorOf.act.Goals.{else-sight-2-via-then-sight-2+else-sight-3, else-sight-2-via-else-sight-2}

pub invariant_of-self-then-sight-3 : goal.invariant_of-self-then-sight-3
invariant_of-self-then-sight-3 g c =
    ap (λ (z : Opening). z.limits)
    (release-opening _ _ _ _ c.release.ensures.releases
    ∙ ap (λ (l : LeadView). l.seat.opening) c.look_at_run-sight.ensures.saw)
    ∙ c.self.invariant

pub look_at_run-sight-requires-clause-here : goal.look_at_run-sight-requires-clause-here
look_at_run-sight-requires-clause-here g c =
    subst (λ (v : CoordinatorView). IsLedBy (g.S.LeadsAt.tells c.args.board.now) v.board v.seat) (sym c.self.view_is)
    c.requires

pub release-requires-clause-here : goal.release-requires-clause-here
release-requires-clause-here g c =
    let tells = g.S.LeadsAt.tells in
    let i = c.self.inside in
    let look = c.look_at_run-sight in
    leads-on (tells c.args.board.now) (tells look.new.board) i.lead.board look.new.lead.board i.lead.seat
    look.new.lead.seat
    (subst (λ (v : CoordinatorView). IsLedBy (tells c.args.board.now) v.board v.seat) (sym c.self.view_is) c.requires)
    (ap (λ (l : LeadView). l.board) look.ensures.saw) look.ensures.led

pub announce_at-requires-clause-here : goal.announce_at-requires-clause-here
announce_at-requires-clause-here g c =
    let tells = g.S.LeadsAt.tells in
    let i = c.self.inside in
    let look = c.look_at_run-sight in
    leads-on (tells c.args.board.now) (tells look.new.board) i.lead.board look.new.lead.board i.lead.seat
    look.new.lead.seat
    (subst (λ (v : CoordinatorView). IsLedBy (tells c.args.board.now) v.board v.seat) (sym c.self.view_is) c.requires)
    (ap (λ (l : LeadView). l.board) look.ensures.saw) look.ensures.led

pub release-requires-clause-run : goal.release-requires-clause-run
release-requires-clause-run g c =
    ap (λ (l : LeadView). l.seat.opening.limits) c.look_at_run-sight.ensures.saw ∙ c.self.invariant

pub returns-then-sight-clause-case : goal.returns-then-sight-clause-case
returns-then-sight-clause-case g c =
    let i = c.self.inside in
    let look = c.look_at_run-sight in
    by_case (g.S.LeadsAt.tells c.args.board.now) _ i.lead look.new.lead i.turns i.left i.phase i.choices look.result _ _
    c.self.view_is look.ensures.shows look.ensures.event look.ensures.saw look.ensures.fresh
    (ends c.if-sight.true refl refl)

pub returns-then-sight-3-clause-case : goal.returns-then-sight-3-clause-case
returns-then-sight-3-clause-case g c =
    let i = c.self.inside in
    let look = c.look_at_run-sight in
    let after : CoordinatorView =
    coordinator_of c.release.new.lead i.turns i.turns look.result.number c.release.new.choices in
    by_case (g.S.LeadsAt.tells c.args.board.now) _ i.lead look.new.lead i.turns i.left i.phase i.choices look.result _ _
    c.self.view_is look.ensures.shows look.ensures.event look.ensures.saw look.ensures.fresh
    (releases c.if-sight.false c.if-sight-2.true c.if-sight-3.true after.seat after.choice c.release.ensures.releases
    refl (λ m. record after { board = c.release.ensures.board m }))

pub returns-then-sight-4-clause-case : goal.returns-then-sight-4-clause-case
returns-then-sight-4-clause-case g c =
    let i = c.self.inside in
    let look = c.look_at_run-sight in
    let not_in : look.result.all_in ≡ false = elim c.else-sight-2.branch [
      | else-sight-2-via-then-sight-2+else-sight-3 x ↦ x.if-sight-3.false
      | else-sight-2-via-else-sight-2 x ↦ let clash : true ≡ false = sym c.if-sight-4.true ∙ x.if-sight-2.false in cc
    ] in
    by_case (g.S.LeadsAt.tells c.args.board.now) _ i.lead look.new.lead i.turns i.left i.phase i.choices look.result _ _
    c.self.view_is look.ensures.shows look.ensures.event look.ensures.saw look.ensures.fresh
    (waits c.if-sight.false c.if-sight-4.true not_in refl refl)

pub returns-then-self-gt0-clause-case : goal.returns-then-self-gt0-clause-case
returns-then-self-gt0-clause-case g c =
    let i = c.self.inside in
    let look = c.look_at_run-sight in
    by_case (g.S.LeadsAt.tells c.args.board.now) _ i.lead look.new.lead i.turns i.left i.phase i.choices look.result _ _
    c.self.view_is look.ensures.shows look.ensures.event look.ensures.saw look.ensures.fresh
    (counts c.if-sight.false c.if-sight-4.false c.if-self-gt0.true refl refl)

pub returns-then-phase-eq-LAST_PHASE-clause-case : goal.returns-then-phase-eq-LAST_PHASE-clause-case
returns-then-phase-eq-LAST_PHASE-clause-case g c =
    let i = c.self.inside in
    let look = c.look_at_run-sight in
    by_case (g.S.LeadsAt.tells c.args.board.now) _ i.lead look.new.lead i.turns i.left i.phase i.choices look.result _ _
    c.self.view_is look.ensures.shows look.ensures.event look.ensures.saw look.ensures.fresh
    (stays c.if-sight.false c.if-sight-4.false (omega arith) c.if-phase-eq-LAST_PHASE.true refl refl)

pub returns-clause-case : goal.returns-clause-case
returns-clause-case g c =
    let i = c.self.inside in
    let look = c.look_at_run-sight in
    let within = look.ensures.within in
    let number = look.ensures.shows.number in
    let other = c.if-phase-eq-LAST_PHASE.false in
    let below : look.result.number < last_phase = omega arith in
    by_case (g.S.LeadsAt.tells c.args.board.now) _ i.lead look.new.lead i.turns i.left i.phase i.choices look.result _ _
    c.self.view_is look.ensures.shows look.ensures.event look.ensures.saw look.ensures.fresh
    (announces c.if-sight.false c.if-sight-4.false (omega arith) below refl
    (ap (λ (l : LeadView). coordinator_of l i.turns i.left look.result.number i.choices)
    c.announce_at.ensures.announced))

pub returns-then-sight-3-clause-led : goal.returns-then-sight-3-clause-led
returns-then-sight-3-clause-led g c =
    let tells = g.S.LeadsAt.tells in
    let look = c.look_at_run-sight in
    led-on (tells c.args.board.now) (tells look.new.board) (tells c.release.new.board) look.new.lead.seat
    c.release.new.lead.seat look.ensures.led c.release.ensures.led

pub returns-clause-led : goal.returns-clause-led
returns-clause-led g c =
    let tells = g.S.LeadsAt.tells in
    let look = c.look_at_run-sight in
    led-on (tells c.args.board.now) (tells look.new.board) (tells c.announce_at.new.board) look.new.lead.seat
    c.announce_at.new.self.seat look.ensures.led c.announce_at.ensures.led
