use Rattle.std.proofs.Common.{◌≡◌, ap, sym, ◌∙◌, subst, List, [], ℕ, arith}
use Rattle.like_seat.specs.Lead.{LeadView, new_lead}
use Rattle.like_roles.specs.coordinator.Choice.{HasChosen, choice_of}
use Rattle.like_roles.specs.coordinator.CoordTurns.{CoordinatorView, IsBeforeEnd, coordinator_of}
use Rattle.like_roles.proofs.choice.Releasing.{chosen-first}
use Rattle.like_roles.proofs.coordinator.CoordinatorOf.new.Goals as goal

-- a coordinator that has released no phase is before the end
before-end : (v : CoordinatorView) → v.seat.phase ≡ 0 → IsBeforeEnd v
before-end v none split = absurd (omega (arith, none, split))

pub returns-in-Ok-new-clause-new : goal.returns-in-Ok-new-clause-new
returns-in-Ok-new-clause-new g c =
    let seat = g.S.LeadSeat.view c.args.seat in
    let lead = λ (counts : List ℕ). new_lead (g.S.LeadSeat.board c.args.seat) seat c.args.hot counts in
    ap (λ (l : LeadView). coordinator_of l c.args.turns c.args.turns 0 c.in-Ok.choices) c.in-Ok-new.ensures.new
    ∙ ap (coordinator_of (lead c.args.counts.now) c.args.turns c.args.turns 0) c.in-Ok.ensures
    ∙ ap (λ (counts : List ℕ). coordinator_of (lead counts) c.args.turns c.args.turns 0 []) c.requires.counts

pub returns-in-Ok-new-clause-coordinating : goal.returns-in-Ok-new-clause-coordinating
returns-in-Ok-new-clause-coordinating g c = λ new.
    let seat = g.S.LeadSeat.view c.args.seat in
    let lead = new_lead (g.S.LeadSeat.board c.args.seat) seat c.args.hot c.args.counts.now in
    let made : c.in-Ok-new.lead ≡ lead = c.in-Ok-new.ensures.new in
    record {
      before_end = before-end (coordinator_of c.in-Ok-new.lead c.args.turns c.args.turns 0 c.in-Ok.choices)
          (ap (λ (l : LeadView). l.seat.phase) made ∙ new.phase);
      chose = λ total counted.
          let chose = chosen-first seat c.args.hot c.args.counts.now c.requires.counts new.phase new.masks total in
          subst (λ (l : LeadView). HasChosen l.seat (choice_of l c.in-Ok.choices) total) (sym made)
          (subst (λ xs. HasChosen seat (choice_of lead xs) total) (sym c.in-Ok.ensures) chose);
    }
