use Rattle.std.proofs.Common.{◌≡◌, ◌%◌, ◌==◌, ℕ, true, false, sym, ap, ◌∙◌, subst, arith}
use Rattle.std.proofs.lemmas.Bool.{eq-eqb, eqb-true}
use Rattle.like_core.specs.Phase.{IsJoined, IsSplit}
use Rattle.like_core.specs.views.Views.{MayRelease}
use Rattle.like_seat.specs.Lead.{LeadView, released}
use Rattle.like_live.specs.Driver.{driver_of, releases_joined, releases_split}
use Rattle.like_live.proofs.Turning.{may-release}
use Rattle.like_live.proofs.driver.turns.release.Goals as goal
use Rattle.like_live.proofs.driver.turns.release.Goals.{then-is_joined, else-is_joined}

-- a phase that is not joined is split
split : (phase : ℕ) → (phase % 2 == 0) ≡ false → IsSplit phase
split phase differs =
    let other : IsJoined phase → ⊥ =
    λ even. (let clash : true ≡ false = sym (eq-eqb (phase % 2) 0 even) ∙ differs in cc) in
    omega arith

pub publish-requires-clause-joined : goal.publish-requires-clause-joined
publish-requires-clause-joined g c =
    eqb-true (c.args.lead.now.seat.phase % 2) 0 (sym c.is_joined.ensures ∙ c.if-is_joined.true)

pub release-requires-clause-may : goal.release-requires-clause-may
release-requires-clause-may g c =
    let phase = c.args.lead.now.seat.phase in
    elim c.if-is_joined.branch [
      | then-is_joined w ↦ subst (λ (l : LeadView). MayRelease l.seat) (sym w.lead-is)
          (may-release c.args.lead.now w.publish.new.lead w.publish.new.self.slots w.publish.ensures.publishes c.requires.saw)
      | else-is_joined w ↦ subst (λ (l : LeadView). MayRelease l.seat) (sym w.lead-is) (
        c.requires.saw,
        λ joined. (let odd = split phase (sym c.is_joined.ensures ∙ w.if-is_joined.false) in
            absurd (omega arith)),
      )
    ]

pub returns : goal.returns
returns g c =
    let phase = c.args.lead.now.seat.phase in
    elim c.if-is_joined.branch [
      | then-is_joined w ↦
          releases_split
          (eqb-true (phase % 2) 0 (sym c.is_joined.ensures ∙ w.if-is_joined.true))
          (driver_of w.publish.new.lead w.publish.new.self false false)
          (record {
            chooses = w.publish.ensures.chooses;
            lawful = w.publish.ensures.lawful;
            publishes = w.publish.ensures.publishes;
            rest = λ m. driver_of w.publish.new.lead (record {
              slots = w.publish.new.self.slots;
              told = w.publish.ensures.told m;
              finds = w.publish.ensures.finds m;
              proposed = w.publish.ensures.proposed m;
              held = w.publish.ensures.held m;
            }) false false;
          })
          (λ m. driver_of ((c.release.ensures ∙ ap released w.lead-is) m) (w.splits-is m) false false)
      | else-is_joined w ↦
          releases_joined (split phase (sym c.is_joined.ensures ∙ w.if-is_joined.false))
          (λ m. driver_of ((c.release.ensures ∙ ap released w.lead-is) m) (w.splits-is m) false false)
    ]
