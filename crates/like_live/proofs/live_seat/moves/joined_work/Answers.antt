use Rattle.std.proofs.Common.{refl, ap, sym, subst}
use Rattle.like_core.specs.Post.{answered}
use Rattle.like_core.specs.WorkerState.{RunsJoined, SawEnding}
use Rattle.like_seat.specs.StationView.{IsStation, StationView}
use Rattle.like_live.specs.declared.asked.Asked.{Asked}
use Rattle.like_live.specs.LiveView.{IsLive, LiveView, live_of, waiting}
use Rattle.like_live.specs.Moves.{acknowledges, runs_joined}
use Rattle.like_live.proofs.Looking.{found-live, stopped-live}
use Rattle.like_live.proofs.live_seat.moves.joined_work.Goals as goal

pub returns-clause-works : goal.returns-clause-works
returns-clause-works g c =
    acknowledges (live_of c.find_all.new.station c.find_all.new.found) c.requires.joined c.if-not-ending.false refl
    c.find_all.ensures.finds
    (λ m. live_of (c.acknowledge.ensures.stops m) c.find_all.new.found)

pub find_all-requires-clause-looked : goal.find_all-requires-clause-looked
find_all-requires-clause-looked g c = c.requires.looked

pub find_all-requires-clause-joined : goal.find_all-requires-clause-joined
find_all-requires-clause-joined g c = c.requires.joined

pub returns-then-not-ending-clause-works : goal.returns-then-not-ending-clause-works
returns-then-not-ending-clause-works g c =
    runs_joined c.requires.joined c.if-not-ending.true refl c.find_all.ensures.finds

pub returns-then-not-ending-clause-live : goal.returns-then-not-ending-clause-live
returns-then-not-ending-clause-live g c =
    found-live c.args.station.now c.find_all.new.station c.args.found.now c.find_all.new.found c.requires.looked
    c.find_all.ensures.finds c.find_all.ensures.next c.find_all.ensures.station

pub returns-then-not-ending-clause-capacity : goal.returns-then-not-ending-clause-capacity
returns-then-not-ending-clause-capacity g c = c.find_all.ensures.capacity

pub acknowledge-requires-clause-runs : goal.acknowledge-requires-clause-runs
acknowledge-requires-clause-runs g c =
    subst (λ (v : LiveView). RunsJoined v.station.post.state) (sym c.find_all.ensures.finds.rest) c.requires.joined

pub acknowledge-requires-clause-ending : goal.acknowledge-requires-clause-ending
acknowledge-requires-clause-ending g c =
    subst (λ (v : LiveView). SawEnding v.station.post.last) (sym c.find_all.ensures.finds.rest)
    (c.requires.ending c.if-not-ending.false)

pub returns-clause-live : goal.returns-clause-live
returns-clause-live g c =
    let found = found-live c.args.station.now c.find_all.new.station c.args.found.now c.find_all.new.found c.requires.looked
    c.find_all.ensures.finds c.find_all.ensures.next c.find_all.ensures.station in
    let is = c.acknowledge.ensures.stops in
    subst (λ (s : StationView Asked). IsLive (live_of s c.find_all.new.found)) (sym is)
    (stopped-live (live_of c.find_all.new.station c.find_all.new.found) (answered c.find_all.new.station.post) found
    (ap (λ (v : LiveView). waiting v) c.find_all.ensures.finds.rest) refl
    (subst (λ (s : StationView Asked). IsStation s) is c.acknowledge.ensures.station))

pub returns-clause-capacity : goal.returns-clause-capacity
returns-clause-capacity g c = c.find_all.ensures.capacity
