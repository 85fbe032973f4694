use Rattle.std.proofs.Common.{ap, refl, subst, sym, ◌∙◌}
use Rattle.std.proofs.lemmas.Bool.{false≢true}
use Rattle.like_core.specs.OpeningLimits.{has_slots}
use Rattle.like_core.specs.WorkerState.{SawEnding}
use Rattle.like_seat.specs.StationView.{StationView}
use Rattle.like_live.specs.declared.answer.TurnAnswer.TheVariants.{Between, Gone}
use Rattle.like_live.specs.declared.asked.Asked.{Asked}
use Rattle.like_live.specs.LiveView.{IsLive, LiveView, live_of}
use Rattle.like_live.specs.Moves.{is_gone, waits, works}
use Rattle.like_live.specs.Calls.{RetireCase, RetireWorks}
use Rattle.like_live.proofs.Moving.{IsSized, Leaves-retires, Leaves-retire_works, same_seat}
use Rattle.like_live.proofs.Looking.{after-waits, after-works, has-looked}
use Rattle.like_live.proofs.live_seat.LiveSeat.retire.Goals as goal

pub returns-then-sight-clause-case : goal.returns-then-sight-clause-case
returns-then-sight-clause-case g c =
    subst (λ (v : LiveView). RetireCase v Between (live_of c.look_with_slots-sight.new.self c.self.inside.found)) c.self.view_is
    (waits c.look_with_slots-sight.result c.look_with_slots-sight.ensures.looks.0 c.look_with_slots-sight.ensures.sight c.if-sight.true refl
    (λ m. live_of (c.look_with_slots-sight.ensures.looks.1 m) c.self.inside.found))

pub returns-clause-case : goal.returns-clause-case
returns-clause-case g c =
    let after = live_of c.work_or_retire.new.station c.work_or_retire.new.found in
    let sight = c.look_with_slots-sight.result in
    let looks = c.look_with_slots-sight.ensures.looks in
    subst (λ (v : LiveView). RetireCase v c.work_or_retire.result after) c.self.view_is
    (works sight looks.0 _ c.look_with_slots-sight.ensures.sight c.if-sight.false
    (subst (λ (v : LiveView). RetireWorks v sight.ending c.work_or_retire.result after)
    (λ m. live_of (looks.1 m) c.self.inside.found) c.work_or_retire.ensures.works))

pub returns-clause-tallies : goal.returns-clause-tallies
returns-clause-tallies g c =
    let after = live_of c.work_or_retire.new.station c.work_or_retire.new.found in
    (Leaves-retires c.args.self.now after c.work_or_retire.result
    (subst IsSized c.self.view_is c.self.invariant.live.station.sized) (returns-clause-case g c)).tallies

pub returns-clause-same : goal.returns-clause-same
returns-clause-same g c =
    let after = live_of c.work_or_retire.new.station c.work_or_retire.new.found in
    (Leaves-retires c.args.self.now after c.work_or_retire.result
    (subst IsSized c.self.view_is c.self.invariant.live.station.sized) (returns-clause-case g c)).same

pub returns-clause-last : goal.returns-clause-last
returns-clause-last g c =
    let after = live_of c.work_or_retire.new.station c.work_or_retire.new.found in
    (Leaves-retires c.args.self.now after c.work_or_retire.result
    (subst IsSized c.self.view_is c.self.invariant.live.station.sized) (returns-clause-case g c)).last

pub invariant_of-self : goal.invariant_of-self
invariant_of-self g c =
    let i = c.self.inside in
    after-waits i.station c.look_with_slots-sight.new.self i.found i.home i.pages i.room i.half
    c.look_with_slots-sight.result c.self.invariant c.look_with_slots-sight.ensures c.if-sight.true

pub returns-then-sight-clause-keeps : goal.returns-then-sight-clause-keeps
returns-then-sight-clause-keeps g c = (invariant_of-self g c).live

pub work_or_retire-requires-clause-looked : goal.work_or_retire-requires-clause-looked
work_or_retire-requires-clause-looked g c =
    let i = c.self.inside in
    has-looked i.station c.look_with_slots-sight.new.self i.found i.home i.pages i.room i.half
    c.look_with_slots-sight.result c.self.invariant c.look_with_slots-sight.ensures c.if-sight.false

pub invariant_of-self-2 : goal.invariant_of-self-2
invariant_of-self-2 g c =
    let i = c.self.inside in
    let looked = c.look_with_slots-sight in
    let done = c.work_or_retire in
    after-works i.station looked.new.self done.new.station i.found done.new.found i.home i.pages i.room i.half looked.result
    c.self.invariant looked.ensures
    (Leaves-retire_works (live_of looked.new.self i.found) (live_of done.new.station done.new.found) looked.result.ending
    done.result looked.ensures.station.sized done.ensures.works)
    done.ensures.live done.ensures.capacity

pub look_with_slots-sight-requires-clause-slotted : goal.look_with_slots-sight-requires-clause-slotted
look_with_slots-sight-requires-clause-slotted g c = ap has_slots c.self.invariant.live.limits

pub returns-then-is_gone-clause-case : goal.returns-then-is_gone-clause-case
returns-then-is_gone-clause-case g c =
    subst (λ (v : LiveView). RetireCase v Gone v) c.self.view_is (is_gone (c.is_gone.ensures.0 c.if-is_gone.true) refl refl)

pub returns-then-is_gone-clause-keeps : goal.returns-then-is_gone-clause-keeps
returns-then-is_gone-clause-keeps g c =
    subst (λ (v : LiveView). IsLive v) c.self.view_is c.self.invariant.live

pub returns-then-is_gone-clause-same : goal.returns-then-is_gone-clause-same
returns-then-is_gone-clause-same g c = same_seat c.args.self.now

pub returns-then-is_gone-clause-tallies : goal.returns-then-is_gone-clause-tallies
returns-then-is_gone-clause-tallies g c = λ page. refl

pub returns-then-is_gone-clause-last : goal.returns-then-is_gone-clause-last
returns-then-is_gone-clause-last g c = refl

pub look_with_slots-sight-requires-clause-here : goal.look_with_slots-sight-requires-clause-here
look_with_slots-sight-requires-clause-here g c =
    λ gone. false≢true (sym c.if-is_gone.false ∙ c.is_gone.ensures.1 gone)

pub returns-then-sight-clause-same : goal.returns-then-sight-clause-same
returns-then-sight-clause-same g c =
    (Leaves-retires c.args.self.now (live_of c.look_with_slots-sight.new.self c.self.inside.found) Between
    (subst IsSized c.self.view_is c.self.invariant.live.station.sized) (returns-then-sight-clause-case g c)).same

pub returns-then-sight-clause-tallies : goal.returns-then-sight-clause-tallies
returns-then-sight-clause-tallies g c =
    (Leaves-retires c.args.self.now (live_of c.look_with_slots-sight.new.self c.self.inside.found) Between
    (subst IsSized c.self.view_is c.self.invariant.live.station.sized) (returns-then-sight-clause-case g c)).tallies

pub returns-then-sight-clause-last : goal.returns-then-sight-clause-last
returns-then-sight-clause-last g c =
    (Leaves-retires c.args.self.now (live_of c.look_with_slots-sight.new.self c.self.inside.found) Between
    (subst IsSized c.self.view_is c.self.invariant.live.station.sized) (returns-then-sight-clause-case g c)).last

pub work_or_retire-requires-clause-ending : goal.work_or_retire-requires-clause-ending
work_or_retire-requires-clause-ending g c =
    subst (λ (s : StationView Asked). SawEnding s.post.last) (sym c.look_with_slots-sight.ensures.looks.1)

pub returns-clause-keeps : goal.returns-clause-keeps
returns-clause-keeps g c = c.work_or_retire.ensures.live
