use Rattle.std.proofs.Common.{ap, refl, subst, sym, ◌∙◌}
use Rattle.std.proofs.lemmas.Bool.{false≢true}
use Rattle.like_core.specs.OpeningLimits.{has_slots}
use Rattle.like_core.specs.WorkerState.{SawEnding}
use Rattle.like_seat.specs.StationView.{StationView}
use Rattle.like_live.specs.declared.answer.TurnAnswer.TheVariants.{Between, Gone}
use Rattle.like_live.specs.declared.asked.Asked.{Asked}
use Rattle.like_live.specs.LiveView.{IsLive, LiveView, live_of}
use Rattle.like_live.specs.Moves.{Moves, Works, is_gone, waits, works}
use Rattle.like_live.proofs.Looking.{after-waits, after-works, has-looked}
use Rattle.like_live.proofs.Moving.{Leaves-works}
use Rattle.like_live.proofs.Showing.{runs-after}
use Rattle.like_live.proofs.live_seat.LiveSeat.advance_late.Goals as goal

pub returns-then-sight-clause-moves : goal.returns-then-sight-clause-moves
returns-then-sight-clause-moves g c =
    subst (λ (v : LiveView). Moves v Between (live_of c.look_with_slots-sight.new.self c.self.inside.found)) c.self.view_is
    (waits c.look_with_slots-sight.result c.look_with_slots-sight.ensures.looks.0 c.look_with_slots-sight.ensures.sight c.if-sight.true refl
    (λ m. live_of (c.look_with_slots-sight.ensures.looks.1 m) c.self.inside.found))

pub returns-clause-moves : goal.returns-clause-moves
returns-clause-moves g c =
    let v = live_of c.self.inside.station c.self.inside.found in
    let after = live_of c.phase_work.new.station c.phase_work.new.found in
    let sight = c.look_with_slots-sight.result in
    let looks = c.look_with_slots-sight.ensures.looks in
    subst (λ (u : LiveView). Moves u c.phase_work.result after) c.self.view_is
    (works sight looks.0 _ c.look_with_slots-sight.ensures.sight c.if-sight.false
    (subst (λ (u : LiveView). Works u sight.ending c.phase_work.result after)
    (λ m. live_of (looks.1 m) c.self.inside.found) c.phase_work.ensures.works))

pub invariant_of-self : goal.invariant_of-self
invariant_of-self g c =
    let i = c.self.inside in
    after-waits i.station c.look_with_slots-sight.new.self i.found i.home i.pages i.room i.half
    c.look_with_slots-sight.result c.self.invariant c.look_with_slots-sight.ensures c.if-sight.true

pub returns-then-sight-clause-keeps : goal.returns-then-sight-clause-keeps
returns-then-sight-clause-keeps g c = (invariant_of-self g c).live

pub phase_work-requires-clause-looked : goal.phase_work-requires-clause-looked
phase_work-requires-clause-looked g c =
    let i = c.self.inside in
    has-looked i.station c.look_with_slots-sight.new.self i.found i.home i.pages i.room i.half
    c.look_with_slots-sight.result c.self.invariant c.look_with_slots-sight.ensures c.if-sight.false

pub invariant_of-self-2 : goal.invariant_of-self-2
invariant_of-self-2 g c =
    let i = c.self.inside in
    let looked = c.look_with_slots-sight in
    let done = c.phase_work in
    after-works i.station looked.new.self done.new.station i.found done.new.found i.home i.pages i.room i.half looked.result
    c.self.invariant looked.ensures
    (Leaves-works (live_of looked.new.self i.found) (live_of done.new.station done.new.found) looked.result.ending
    done.result looked.ensures.station.sized done.ensures.works)
    done.ensures.live done.ensures.capacity

pub look_with_slots-sight-requires-clause-slotted : goal.look_with_slots-sight-requires-clause-slotted
look_with_slots-sight-requires-clause-slotted g c = ap has_slots c.self.invariant.live.limits

pub returns-then-is_gone-clause-moves : goal.returns-then-is_gone-clause-moves
returns-then-is_gone-clause-moves g c =
    subst (λ (v : LiveView). Moves v Gone v) c.self.view_is (is_gone (c.is_gone.ensures.0 c.if-is_gone.true) refl refl)

pub returns-then-sight-clause-was : goal.returns-then-sight-clause-was
returns-then-sight-clause-was g c = subst (λ (v : LiveView). IsLive v) c.self.view_is c.self.invariant.live

pub returns-clause-was : goal.returns-clause-was
returns-clause-was g c = subst (λ (v : LiveView). IsLive v) c.self.view_is c.self.invariant.live

pub returns-then-is_gone-clause-keeps : goal.returns-then-is_gone-clause-keeps
returns-then-is_gone-clause-keeps g c =
    subst (λ (v : LiveView). IsLive v) c.self.view_is c.self.invariant.live

pub returns-then-is_gone-clause-runs : goal.returns-then-is_gone-clause-runs
returns-then-is_gone-clause-runs g c = λ e. absurd (cc e)

pub returns-then-is_gone-clause-was : goal.returns-then-is_gone-clause-was
returns-then-is_gone-clause-was g c =
    subst (λ (v : LiveView). IsLive v) c.self.view_is c.self.invariant.live

pub look_with_slots-sight-requires-clause-here : goal.look_with_slots-sight-requires-clause-here
look_with_slots-sight-requires-clause-here g c =
    λ gone. false≢true (sym c.if-is_gone.false ∙ c.is_gone.ensures.1 gone)

pub returns-then-sight-clause-runs : goal.returns-then-sight-clause-runs
returns-then-sight-clause-runs g c = λ e. absurd (cc e)

pub phase_work-requires-clause-ending : goal.phase_work-requires-clause-ending
phase_work-requires-clause-ending g c =
    subst (λ (s : StationView Asked). SawEnding s.post.last) (sym c.look_with_slots-sight.ensures.looks.1)

pub returns-clause-keeps : goal.returns-clause-keeps
returns-clause-keeps g c = c.phase_work.ensures.live

pub returns-clause-runs : goal.returns-clause-runs
returns-clause-runs g c =
    runs-after (live_of c.look_with_slots-sight.new.self c.self.inside.found)
    (live_of c.phase_work.new.station c.phase_work.new.found) c.look_with_slots-sight.result.ending c.phase_work.result c.phase_work.ensures.works
