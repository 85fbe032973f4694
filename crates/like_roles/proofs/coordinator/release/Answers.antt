use Rattle.std.proofs.Common.{◌≡◌, ◌%◌, ◌==◌, ℕ, true, false, ap, sym, ◌∙◌, subst, arith}
use Rattle.std.proofs.lemmas.Bool.{eq-eqb, eqb-true}
use Rattle.like_core.specs.Phase.{IsJoined, IsSplit}
use Rattle.like_core.specs.views.Views.{MayRelease, released_coord}
use Rattle.like_board.specs.Led.{BoardView, IsLedBy, led}
use Rattle.like_board.proofs.Led.{led-on, leads-on}
use Rattle.like_seat.specs.Lead.{LeadView}
use Rattle.like_roles.specs.coordinator.Choice.{ChoiceView, ReleasesNext, choice_of, releases_joined, releases_split}
use Rattle.like_roles.proofs.choice.Choosing.{may-release}
use Rattle.like_roles.proofs.coordinator.release.Goals as goal
use Rattle.like_roles.proofs.coordinator.release.Goals.{then-is_joined, else-is_joined}

-- a phase that is not joined is split
split : (phase : ℕ) → (phase % 2 == 0) ≡ false → IsSplit phase
split phase differs =
    let other : IsJoined phase → ⊥ =
    λ even. (let clash : true ≡ false = sym (eq-eqb (phase % 2) 0 even) ∙ differs in cc) in
    omega arith

pub release_at-requires-clause-may : goal.release_at-requires-clause-may
release_at-requires-clause-may g c =
    let phase = c.args.lead.now.seat.phase in
    let tells : (phase % 2 == 0) ≡ c.is_joined.result = sym c.is_joined.ensures in
    elim c.if-is_joined.branch [
      | then-is_joined w ↦ subst (λ (l : LeadView). MayRelease l.seat) (sym w.lead-is)
          (may-release _ _ _ _ w.choose.ensures.case c.requires.saw)
      | else-is_joined w ↦ subst (λ (l : LeadView). MayRelease l.seat) (sym w.lead-is)
          (c.requires.saw, λ joined. (let odd = split phase (tells ∙ w.if-is_joined.false) in absurd (omega arith)))
    ]

pub returns-clause-releases : goal.returns-clause-releases
returns-clause-releases g c =
    let lead = c.args.lead.now in
    let phase = lead.seat.phase in
    let tells : (phase % 2 == 0) ≡ c.is_joined.result = sym c.is_joined.ensures in
    let seat : c.release_at.new.self.seat ≡ released_coord c.if-is_joined.lead.seat =
    ap (λ (l : LeadView). l.seat) c.release_at.ensures.released in
    let kept : choice_of c.release_at.new.self c.if-is_joined.choices
    ≡ choice_of c.if-is_joined.lead c.if-is_joined.choices =
    ap (λ (l : LeadView). choice_of l c.if-is_joined.choices) c.release_at.ensures.released in
    elim c.if-is_joined.branch [
      | then-is_joined w ↦
          subst (λ (x : ChoiceView). ReleasesNext lead.seat
          (choice_of lead c.args.choices.now) c.release_at.new.self.seat x)
          (sym (kept ∙ (λ i. choice_of (w.lead-is i) (w.choices-is i))))
          (releases_split
          (eqb-true (phase % 2) 0 (tells ∙ w.if-is_joined.true)) w.choose.new.lead.seat w.choose.ensures.case
          (seat ∙ ap (λ (l : LeadView). released_coord l.seat) w.lead-is))
      | else-is_joined w ↦
          releases_joined (split phase (tells ∙ w.if-is_joined.false))
          (seat ∙ ap (λ (l : LeadView). released_coord l.seat) w.lead-is)
          (kept ∙ (λ i. choice_of (w.lead-is i) (w.choices-is i)))
    ]

pub release_at-requires-clause-here : goal.release_at-requires-clause-here
release_at-requires-clause-here g c =
    let tells = g.S.LeadsAt.tells in
    let lead = c.args.lead.now in
    elim c.if-is_joined.branch [
      | then-is_joined w ↦
          let ready = w.choose.new.lead in
          subst (λ (l : LeadView). IsLedBy (tells c.if-is_joined.board) l.board l.seat) (sym w.lead-is)
          (leads-on (tells c.args.board.now) (tells c.if-is_joined.board) lead.board ready.board lead.seat ready.seat
          c.requires.here w.choose.ensures.board (ap tells w.board-is ∙ w.choose.ensures.led))
      | else-is_joined w ↦
          subst (λ (l : LeadView). IsLedBy (tells c.if-is_joined.board) l.board l.seat) (sym w.lead-is)
          (subst (λ (t : BoardView). IsLedBy t lead.board lead.seat) (sym (ap tells w.board-is)) c.requires.here)
    ]

pub returns-clause-led : goal.returns-clause-led
returns-clause-led g c =
    let tells = g.S.LeadsAt.tells in
    let last = c.release_at.new.self.seat in
    elim c.if-is_joined.branch [
      | then-is_joined w ↦
          led-on (tells c.args.board.now) (tells c.if-is_joined.board) (tells c.release_at.new.board)
          w.choose.new.lead.seat last (ap tells w.board-is ∙ w.choose.ensures.led) c.release_at.ensures.led
      | else-is_joined w ↦ c.release_at.ensures.led ∙ ap (λ (t : BoardView). led t last) (ap tells w.board-is)
    ]
