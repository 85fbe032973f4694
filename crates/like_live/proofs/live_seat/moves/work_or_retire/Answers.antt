use Rattle.std.proofs.Common.{arith, refl, ap, sym, subst}
use Rattle.like_core.specs.Post.{retired}
use Rattle.like_core.specs.WorkerState.{RunsJoined, RunsSplit}
use Rattle.like_seat.specs.StationView.{IsStation, StationView}
use Rattle.like_live.specs.declared.asked.Asked.{Asked}
use Rattle.like_live.specs.LiveView.{IsLive, LiveView, live_of, waiting}
use Rattle.like_live.specs.Calls.{retires, stays}
use Rattle.like_live.proofs.Finding.{joined_since, split_since}
use Rattle.like_live.proofs.Looking.{found-live, stopped-live}
use Rattle.like_live.proofs.live_seat.moves.work_or_retire.Goals as goal

pub returns-then-phase-eq1-clause-works : goal.returns-then-phase-eq1-clause-works
returns-then-phase-eq1-clause-works g c =
    let odd = c.if-phase-eq1.true in
    let split : RunsSplit c.args.station.now.post.state =
    split_since _ c.phase-phase.result c.requires.looked.runs c.phase-phase.ensures.phase (λ even. absurd (omega arith)) in
    stays split c.phase_work.ensures.works

pub returns-clause-works : goal.returns-clause-works
returns-clause-works g c =
    let joined : RunsJoined c.args.station.now.post.state =
    joined_since _ c.phase-phase.result c.requires.looked.runs c.phase-phase.ensures.phase (omega (arith, c.if-phase-eq1.false)) in
    retires (live_of c.find_all.new.station c.find_all.new.found) joined refl c.find_all.ensures.finds
    (λ m. live_of (c.retire.ensures.ends m) c.find_all.new.found)

pub phase_work-requires-clause-looked : goal.phase_work-requires-clause-looked
phase_work-requires-clause-looked g c = c.requires.looked

pub phase_work-requires-clause-ending : goal.phase_work-requires-clause-ending
phase_work-requires-clause-ending g c = c.requires.ending

pub returns-then-phase-eq1-clause-live : goal.returns-then-phase-eq1-clause-live
returns-then-phase-eq1-clause-live g c = c.phase_work.ensures.live

pub returns-then-phase-eq1-clause-capacity : goal.returns-then-phase-eq1-clause-capacity
returns-then-phase-eq1-clause-capacity g c = c.phase_work.ensures.capacity

pub find_all-requires-clause-looked : goal.find_all-requires-clause-looked
find_all-requires-clause-looked g c = c.requires.looked

pub find_all-requires-clause-joined : goal.find_all-requires-clause-joined
find_all-requires-clause-joined g c =
    joined_since _ c.phase-phase.result c.requires.looked.runs c.phase-phase.ensures.phase (omega (arith, c.if-phase-eq1.false))

pub retire-requires : goal.retire-requires
retire-requires g c =
    subst (λ (v : LiveView). RunsJoined v.station.post.state) (sym c.find_all.ensures.finds.rest)
    (joined_since _ c.phase-phase.result c.requires.looked.runs c.phase-phase.ensures.phase (omega (arith, c.if-phase-eq1.false)))

pub returns-clause-live : goal.returns-clause-live
returns-clause-live g c =
    let found = found-live c.args.station.now c.find_all.new.station c.args.found.now c.find_all.new.found c.requires.looked
    c.find_all.ensures.finds c.find_all.ensures.next c.find_all.ensures.station in
    let is = c.retire.ensures.ends in
    subst (λ (s : StationView Asked). IsLive (live_of s c.find_all.new.found)) (sym is)
    (stopped-live (live_of c.find_all.new.station c.find_all.new.found) (retired c.find_all.new.station.post) found
    (ap (λ (v : LiveView). waiting v) c.find_all.ensures.finds.rest) refl
    (subst (λ (s : StationView Asked). IsStation s) is c.retire.ensures.station))

pub returns-clause-capacity : goal.returns-clause-capacity
returns-clause-capacity g c = c.find_all.ensures.capacity
