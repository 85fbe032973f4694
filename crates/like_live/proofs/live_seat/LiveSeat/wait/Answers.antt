use Rattle.std.proofs.Common.{ap, sym, subst, ◌∙◌, arith}
use Rattle.like_core.specs.WorkerState.{RunsSplit}
use Rattle.like_seat.specs.StationView.{phase_at}
use Rattle.like_live.specs.Calls.{asked_in}
use Rattle.like_live.specs.Kept.{AreLiveSeatParts}
use Rattle.like_live.specs.LiveView.{IsOwn, LiveView}
use Rattle.like_live.specs.LookRoom.{RoomView}
use Rattle.like_live.proofs.Requests.{after-stashed, stashes}
use Rattle.like_live.proofs.live_seat.LiveSeat.wait.Goals as goal

pub invariant_of-self : goal.invariant_of-self
invariant_of-self g c =
    let i = c.self.inside in
    subst (λ (r : RoomView). AreLiveSeatParts i.station i.found i.home i.pages r i.half)
    (sym (c.take_free.ensures.none c.if-not-take_free.true).1) c.self.invariant

pub stash-requires : goal.stash-requires
stash-requires g c =
    omega (arith, c.self.invariant.room_is, (c.take_free.ensures.taken c.if-not-take_free.false).1)

pub invariant_of-self-2 : goal.invariant_of-self-2
invariant_of-self-2 g c =
    let i = c.self.inside in
    let a = asked_in c.args.phase c.args.user c.args.page c.args.tag in
    let taken = c.take_free.ensures.taken c.if-not-take_free.false in
    after-stashed i.station c.stash.new.self i.found i.home i.pages i.room c.take_free.new.self i.half a c.self.invariant
    (subst (λ (w : LiveView). RunsSplit w.station.post.state) (sym c.self.view_is) c.requires.split)
    (subst (λ (w : LiveView). IsOwn w.station a) (sym c.self.view_is) c.requires.own)
    (c.requires.phase ∙ ap (λ (w : LiveView). phase_at w.station) (sym c.self.view_is))
    taken.1 (λ _. omega (arith, c.self.invariant.early (omega (arith, taken.0)), taken.0))
    c.stash.ensures.holds c.stash.ensures.station

pub returns-clause-waits : goal.returns-clause-waits
returns-clause-waits g c = λ _.
    let i = c.self.inside in
    stashes c.args.self.now i.station c.stash.new.self i.found i.home i.pages i.room i.half
    (asked_in c.args.phase c.args.user c.args.page c.args.tag) c.self.invariant c.self.view_is
    (omega (arith, (c.take_free.ensures.taken c.if-not-take_free.false).1)) c.stash.ensures.holds

pub returns-clause-keeps : goal.returns-clause-keeps
returns-clause-keeps g c = (invariant_of-self-2 g c).live
