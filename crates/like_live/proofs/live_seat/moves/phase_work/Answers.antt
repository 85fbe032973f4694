use Rattle.std.proofs.Common.{arith, refl}
use Rattle.like_core.specs.WorkerState.{RunsSplit}
use Rattle.like_live.specs.LiveView.{live_of}
use Rattle.like_live.specs.Moves.{reports, runs_split}
use Rattle.like_live.proofs.Finding.{joined_since, split_since}
use Rattle.like_live.proofs.Looking.{looked-live, merged-live}
use Rattle.like_live.proofs.live_seat.moves.phase_work.Goals as goal

pub returns-clause-works : goal.returns-clause-works
returns-clause-works g c =
    let split : RunsSplit c.args.station.now.post.state =
    split_since _ c.phase-phase.result c.requires.looked.runs c.phase-phase.ensures.phase c.if-phase-eq0.false in
    reports c.merge_and_report.new.self split c.if-not-ending.false refl c.merge_and_report.ensures.reports
    (refl {a = live_of c.merge_and_report.new.self c.args.found.now})

pub joined_work-requires-clause-looked : goal.joined_work-requires-clause-looked
joined_work-requires-clause-looked g c = c.requires.looked

pub joined_work-requires-clause-joined : goal.joined_work-requires-clause-joined
joined_work-requires-clause-joined g c =
    joined_since _ c.phase-phase.result c.requires.looked.runs c.phase-phase.ensures.phase c.if-phase-eq0.true

pub joined_work-requires-clause-ending : goal.joined_work-requires-clause-ending
joined_work-requires-clause-ending g c = c.requires.ending

pub returns-then-phase-eq0-clause-works : goal.returns-then-phase-eq0-clause-works
returns-then-phase-eq0-clause-works g c = c.joined_work.ensures.works

pub returns-then-phase-eq0-clause-live : goal.returns-then-phase-eq0-clause-live
returns-then-phase-eq0-clause-live g c = c.joined_work.ensures.live

pub returns-then-phase-eq0-clause-capacity : goal.returns-then-phase-eq0-clause-capacity
returns-then-phase-eq0-clause-capacity g c = c.joined_work.ensures.capacity

pub returns-then-not-ending-clause-works : goal.returns-then-not-ending-clause-works
returns-then-not-ending-clause-works g c =
    let split : RunsSplit c.args.station.now.post.state =
    split_since _ c.phase-phase.result c.requires.looked.runs c.phase-phase.ensures.phase c.if-phase-eq0.false in
    runs_split split c.if-not-ending.true refl refl

pub returns-then-not-ending-clause-live : goal.returns-then-not-ending-clause-live
returns-then-not-ending-clause-live g c =
    looked-live c.args.station.now c.args.found.now c.requires.looked
    (omega (arith, c.phase-phase.ensures.phase, c.if-phase-eq0.false))

pub returns-then-not-ending-clause-capacity : goal.returns-then-not-ending-clause-capacity
returns-then-not-ending-clause-capacity g c = refl

pub merge_and_report-requires-clause-split : goal.merge_and_report-requires-clause-split
merge_and_report-requires-clause-split g c =
    split_since _ c.phase-phase.result c.requires.looked.runs c.phase-phase.ensures.phase c.if-phase-eq0.false

pub merge_and_report-requires-clause-ending : goal.merge_and_report-requires-clause-ending
merge_and_report-requires-clause-ending g c = c.requires.ending c.if-not-ending.false

pub returns-clause-capacity : goal.returns-clause-capacity
returns-clause-capacity g c = refl

pub returns-clause-live : goal.returns-clause-live
returns-clause-live g c =
    merged-live c.args.station.now c.merge_and_report.new.self c.args.found.now c.requires.looked
    (omega (arith, c.phase-phase.ensures.phase, c.if-phase-eq0.false)) c.merge_and_report.ensures.reports
    c.merge_and_report.ensures.station
