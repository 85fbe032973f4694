use Rattle.std.proofs.Common.{◌≡◌, ap, refl, sym, subst}
use Rattle.like_core.specs.OpeningLimits.{has_slots}
use Rattle.like_core.specs.core.Moves.{LetsReturn}
use Rattle.like_core.specs.declared.worker_state.WorkerState.TheVariants.{Gone}
use Rattle.like_live.specs.declared.answer.TurnAnswer.TheVariants.{Runs, Between}
use Rattle.like_live.specs.LiveView.{LiveView, live_of}
use Rattle.like_live.specs.Calls.{ComeBackCase, runs, there, between}
use Rattle.like_seat.specs.StationView.{StationView}
use Rattle.like_live.specs.declared.asked.Asked.{Asked}
use Rattle.like_live.specs.Kept.{AreLiveSeatParts}
use Rattle.like_live.proofs.Looking.{after-back}
use Rattle.like_live.proofs.Moving.{IsSized, Leaves-come_back}
use Rattle.like_live.proofs.live_seat.LiveSeat.come_back.Goals as goal

pub returns-then-not-is_gone-clause-case : goal.returns-then-not-is_gone-clause-case
returns-then-not-is_gone-clause-case g c =
    there
    (λ gone. absurd (cc (
      c.is_gone.ensures.1 (subst (λ (v : LiveView). v.station.post.state ≡ Gone) (sym c.self.view_is) gone),
      c.if-not-is_gone.true,
    )))
    c.turn.ensures.case

pub returns-then-come_back-clause-case : goal.returns-then-come_back-clause-case
returns-then-come_back-clause-case g c =
    let after = live_of c.come_back.new.self c.self.inside.found in
    subst (λ (v : LiveView). ComeBackCase v Runs after) c.self.view_is
    (runs c.come_back.new.self (c.is_gone.ensures.0 c.if-not-is_gone.false) refl (c.come_back.ensures.back c.if-come_back.true) refl)

pub returns-then-come_back-clause-tallies : goal.returns-then-come_back-clause-tallies
returns-then-come_back-clause-tallies g c =
    (Leaves-come_back c.args.self.now (live_of c.come_back.new.self c.self.inside.found) Runs
    (subst IsSized c.self.view_is c.self.invariant.live.station.sized) (returns-then-come_back-clause-case g c)).tallies

pub returns-then-come_back-clause-same : goal.returns-then-come_back-clause-same
returns-then-come_back-clause-same g c =
    (Leaves-come_back c.args.self.now (live_of c.come_back.new.self c.self.inside.found) Runs
    (subst IsSized c.self.view_is c.self.invariant.live.station.sized) (returns-then-come_back-clause-case g c)).same

pub returns-then-come_back-clause-last : goal.returns-then-come_back-clause-last
returns-then-come_back-clause-last g c =
    (Leaves-come_back c.args.self.now (live_of c.come_back.new.self c.self.inside.found) Runs
    (subst IsSized c.self.view_is c.self.invariant.live.station.sized) (returns-then-come_back-clause-case g c)).last

pub invariant_of-self : goal.invariant_of-self
invariant_of-self g c =
    let i = c.self.inside in
    after-back i.station c.come_back.new.self i.found i.home i.pages i.room i.half c.self.invariant
    (c.is_gone.ensures.0 c.if-not-is_gone.false) (c.come_back.ensures.back c.if-come_back.true) c.come_back.ensures.station

pub returns-then-come_back-clause-keeps : goal.returns-then-come_back-clause-keeps
returns-then-come_back-clause-keeps g c = (invariant_of-self g c).live

pub invariant_of-self-2 : goal.invariant_of-self-2
invariant_of-self-2 g c =
    let i = c.self.inside in
    subst (λ (t : StationView Asked). AreLiveSeatParts t i.found i.home i.pages i.room i.half)
    (sym (c.come_back.ensures.none c.if-come_back.false)) c.self.invariant

pub returns-clause-keeps : goal.returns-clause-keeps
returns-clause-keeps g c = (invariant_of-self-2 g c).live

pub returns-clause-case : goal.returns-clause-case
returns-clause-case g c =
    let after = live_of c.come_back.new.self c.self.inside.found in
    subst (λ (v : LiveView). ComeBackCase v Between after) c.self.view_is
    (between (c.is_gone.ensures.0 c.if-not-is_gone.false) refl
    (ap (λ (t : StationView Asked). live_of t c.self.inside.found) (c.come_back.ensures.none c.if-come_back.false)))

pub returns-then-not-is_gone-clause-keeps : goal.returns-then-not-is_gone-clause-keeps
returns-then-not-is_gone-clause-keeps g c = c.turn.ensures.keeps

pub returns-then-not-is_gone-clause-same : goal.returns-then-not-is_gone-clause-same
returns-then-not-is_gone-clause-same g c = c.turn.ensures.same

pub returns-then-not-is_gone-clause-tallies : goal.returns-then-not-is_gone-clause-tallies
returns-then-not-is_gone-clause-tallies g c = c.turn.ensures.tallies

pub returns-then-not-is_gone-clause-last : goal.returns-then-not-is_gone-clause-last
returns-then-not-is_gone-clause-last g c = c.turn.ensures.last

pub come_back-requires-clause-gone : goal.come_back-requires-clause-gone
come_back-requires-clause-gone g c = c.is_gone.ensures.0 c.if-not-is_gone.false

pub come_back-requires-clause-slotted : goal.come_back-requires-clause-slotted
come_back-requires-clause-slotted g c = ap has_slots c.self.invariant.live.limits

pub come_back-requires-clause-lets : goal.come_back-requires-clause-lets
come_back-requires-clause-lets g c = subst LetsReturn (sym c.self.invariant.live.limits) refl

pub returns-clause-same : goal.returns-clause-same
returns-clause-same g c =
    (Leaves-come_back c.args.self.now (live_of c.come_back.new.self c.self.inside.found) Between
    (subst IsSized c.self.view_is c.self.invariant.live.station.sized) (returns-clause-case g c)).same

pub returns-clause-tallies : goal.returns-clause-tallies
returns-clause-tallies g c =
    (Leaves-come_back c.args.self.now (live_of c.come_back.new.self c.self.inside.found) Between
    (subst IsSized c.self.view_is c.self.invariant.live.station.sized) (returns-clause-case g c)).tallies

pub returns-clause-last : goal.returns-clause-last
returns-clause-last g c =
    (Leaves-come_back c.args.self.now (live_of c.come_back.new.self c.self.inside.found) Between
    (subst IsSized c.self.view_is c.self.invariant.live.station.sized) (returns-clause-case g c)).last
