use Rattle.std.proofs.Common.{Bool, true, refl, ap, sym, subst, ◌∙◌}
use Rattle.std.proofs.lemmas.Bool.{not-false, not-true}
use Rattle.like_core.specs.Phase.{IsJoined}
use Rattle.like_core.specs.declared.worker_state.WorkerState.{WorkerState}
use Rattle.like_core.specs.WorkerState.{SawEnding, phase_of}
use Rattle.like_seat.specs.StationView.{StationView, phase_at}
use Rattle.like_live.specs.declared.answer.TurnAnswer.TheVariants.{Runs}
use Rattle.like_live.specs.declared.asked.Asked.{Asked}
use Rattle.like_live.specs.LiveView.{IsLive, LiveView, live_of}
use Rattle.like_live.specs.Moves.{Moves, Works, works}
use Rattle.like_live.proofs.Finding.{goes_on}
use Rattle.like_live.proofs.Looking.{after-looked, after-works, has-looked}
use Rattle.like_live.proofs.Moving.{Leaves-works}
use Rattle.like_live.proofs.Showing.{runs-after}
use Rattle.like_live.proofs.live_seat.LiveSeat.advance.Goals as goal

pub returns-then-not-sight-clause-moves : goal.returns-then-not-sight-clause-moves
returns-then-not-sight-clause-moves g c =
    let after = live_of c.look_on-sight.new.self c.self.inside.found in
    let sight = c.look_on-sight.result in
    let saw = c.look_on-sight.ensures.looks in
    let none = λ (joined : IsJoined (phase_of c.look_on-sight.new.self.post.state)).
    ap (λ (s : StationView Asked). s.stash.looks) saw.looks.1
    ∙ c.self.invariant.live.split
    (subst (λ (w : WorkerState). IsJoined (phase_of w)) c.look_on-sight.ensures.stays joined) in
    subst (λ (u : LiveView). Moves u Runs after) c.self.view_is
    (works sight saw.looks.0 _ saw.sight c.look_on-sight.ensures.goes_on
    (subst (λ (u : LiveView). Works u sight.ending Runs after)
    (λ m. live_of (saw.looks.1 m) c.self.inside.found)
    (subst (λ (e : Bool). Works after e Runs after) (sym (not-true _ c.if-not-sight.true))
    (goes_on after (saw.runs c.look_on-sight.ensures.goes_on) none))))

pub returns-clause-moves : goal.returns-clause-moves
returns-clause-moves g c =
    let after = live_of c.phase_work-answer.new.station c.phase_work-answer.new.found in
    let sight = c.look_on-sight.result in
    let looks = c.look_on-sight.ensures.looks.looks in
    subst (λ (u : LiveView). Moves u c.phase_work-answer.result after) c.self.view_is
    (works sight looks.0 _ c.look_on-sight.ensures.looks.sight c.look_on-sight.ensures.goes_on
    (subst (λ (u : LiveView). Works u sight.ending c.phase_work-answer.result after)
    (λ m. live_of (looks.1 m) c.self.inside.found)
    (subst (λ (e : Bool). Works (live_of c.look_on-sight.new.self c.self.inside.found) e c.phase_work-answer.result after)
    (sym (not-false _ c.if-not-sight.false)) c.phase_work-answer.ensures.works)))

pub phase_work-answer-requires-clause-looked : goal.phase_work-answer-requires-clause-looked
phase_work-answer-requires-clause-looked g c =
    let i = c.self.inside in
    has-looked i.station c.look_on-sight.new.self i.found i.home i.pages i.room i.half c.look_on-sight.result
    c.self.invariant c.look_on-sight.ensures.looks c.look_on-sight.ensures.goes_on

pub invariant_of-self : goal.invariant_of-self
invariant_of-self g c =
    let i = c.self.inside in
    after-looked i.station c.look_on-sight.new.self i.found i.home i.pages i.room i.half c.look_on-sight.result
    c.self.invariant c.look_on-sight.ensures.looks (ap phase_of c.look_on-sight.ensures.stays)

pub returns-then-not-sight-clause-keeps : goal.returns-then-not-sight-clause-keeps
returns-then-not-sight-clause-keeps g c = (invariant_of-self g c).live

pub invariant_of-self-2 : goal.invariant_of-self-2
invariant_of-self-2 g c =
    let i = c.self.inside in
    let looks = c.look_on-sight.ensures.looks in
    let done = c.phase_work-answer in
    after-works i.station c.look_on-sight.new.self done.new.station i.found done.new.found i.home i.pages i.room i.half
    c.look_on-sight.result c.self.invariant looks
    (Leaves-works (live_of c.look_on-sight.new.self i.found) (live_of done.new.station done.new.found) true done.result
    looks.station.sized done.ensures.works)
    done.ensures.live done.ensures.capacity

pub returns-then-not-sight-clause-was : goal.returns-then-not-sight-clause-was
returns-then-not-sight-clause-was g c = subst (λ (v : LiveView). IsLive v) c.self.view_is c.self.invariant.live

pub returns-clause-was : goal.returns-clause-was
returns-clause-was g c = subst (λ (v : LiveView). IsLive v) c.self.view_is c.self.invariant.live

pub returns-then-not-runs-clause-moves : goal.returns-then-not-runs-clause-moves
returns-then-not-runs-clause-moves g c = c.advance_late-answer.ensures.moves

pub returns-then-not-runs-clause-keeps : goal.returns-then-not-runs-clause-keeps
returns-then-not-runs-clause-keeps g c = c.advance_late-answer.ensures.keeps

pub returns-then-not-runs-clause-runs : goal.returns-then-not-runs-clause-runs
returns-then-not-runs-clause-runs g c = c.advance_late-answer.ensures.runs

pub returns-then-not-runs-clause-was : goal.returns-then-not-runs-clause-was
returns-then-not-runs-clause-was g c = c.advance_late-answer.ensures.was

pub returns-then-not-runs-clause-phase : goal.returns-then-not-runs-clause-phase
returns-then-not-runs-clause-phase g c =
    c.phase.ensures.phase ∙ ap (λ (v : LiveView). phase_at v.station) c.self-then-not-runs.view_is

pub look_on-sight-requires : goal.look_on-sight-requires
look_on-sight-requires g c = record { running = c.if-not-runs.ensures.runs.0 refl }

pub returns-then-not-sight-clause-runs : goal.returns-then-not-sight-clause-runs
returns-then-not-sight-clause-runs g c =
    λ _. c.look_on-sight.ensures.looks.runs c.look_on-sight.ensures.goes_on

pub returns-then-not-sight-clause-phase : goal.returns-then-not-sight-clause-phase
returns-then-not-sight-clause-phase g c =
    c.phase-phase.ensures.phase ∙ ap phase_of (sym c.look_on-sight.ensures.stays)

pub phase_work-answer-requires-clause-ending : goal.phase_work-answer-requires-clause-ending
phase_work-answer-requires-clause-ending g c =
    λ _. subst (λ (s : StationView Asked). SawEnding s.post.last) (sym c.look_on-sight.ensures.looks.looks.1)
    (not-false _ c.if-not-sight.false)

pub returns-clause-keeps : goal.returns-clause-keeps
returns-clause-keeps g c = c.phase_work-answer.ensures.live

pub returns-clause-runs : goal.returns-clause-runs
returns-clause-runs g c =
    runs-after (live_of c.look_on-sight.new.self c.self.inside.found)
    (live_of c.phase_work-answer.new.station c.phase_work-answer.new.found) true c.phase_work-answer.result c.phase_work-answer.ensures.works

pub returns-clause-phase : goal.returns-clause-phase
returns-clause-phase g c = c.phase-2.ensures.phase
