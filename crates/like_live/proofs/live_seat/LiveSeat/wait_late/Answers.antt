use Rattle.std.proofs.Common.{◌≡◌, ◌+◌, length, refl, ap, sym, subst, ◌∙◌, arith}
use Rattle.std.proofs.lemmas.Bool.{false≢true}
use Rattle.like_core.specs.WorkerState.{RunsSplit}
use Rattle.like_seat.specs.StationView.{phase_at}
use Rattle.like_live.specs.Calls.{asked_in}
use Rattle.like_live.specs.LiveView.{IsLive, IsOwn, LiveView, room_of, waiting}
use Rattle.like_live.proofs.Requests.{after-stashed, stashes}
use Rattle.like_live.proofs.live_seat.LiveSeat.wait_late.Goals as goal

pub returns-then-left-eq0-clause-full : goal.returns-then-left-eq0-clause-full
returns-then-left-eq0-clause-full g c = λ _.
    subst (λ (w : LiveView). length (waiting w) + length w.found ≡ room_of w) c.self.view_is
    (omega (arith, c.self.invariant.room_is, c.left.ensures, c.if-left-eq0.true))

pub stash-requires : goal.stash-requires
stash-requires g c = omega (arith, c.self.invariant.room_is, c.take.ensures.left)

pub invariant_of-self : goal.invariant_of-self
invariant_of-self g c =
    let i = c.self.inside in
    let a = asked_in c.args.phase c.args.user c.args.page c.args.tag in
    after-stashed i.station c.stash.new.self i.found i.home i.pages i.room c.plan_ahead.new.room i.half a c.self.invariant
    (subst (λ (w : LiveView). RunsSplit w.station.post.state) (sym c.self.view_is) c.requires.split)
    (subst (λ (w : LiveView). IsOwn w.station a) (sym c.self.view_is) c.requires.own)
    (c.requires.phase ∙ ap (λ (w : LiveView). phase_at w.station) (sym c.self.view_is))
    (c.take.ensures.left ∙ ap (λ n. n + 1) (sym c.plan_ahead.ensures.left))
    (λ some. omega (
      arith,
      some,
      c.plan_ahead.ensures.free,
      c.len.ensures,
      c.self.invariant.room_is,
      c.self.invariant.half_is,
      c.take.ensures.left,
    ))
    c.stash.ensures.holds c.stash.ensures.station

pub returns-clause-waits : goal.returns-clause-waits
returns-clause-waits g c = λ _.
    let i = c.self.inside in
    stashes c.args.self.now i.station c.stash.new.self i.found i.home i.pages i.room i.half
    (asked_in c.args.phase c.args.user c.args.page c.args.tag) c.self.invariant c.self.view_is
    (omega (arith, c.take.ensures.left)) c.stash.ensures.holds

pub returns-clause-keeps : goal.returns-clause-keeps
returns-clause-keeps g c = (invariant_of-self g c).live

pub returns-clause-full : goal.returns-clause-full
returns-clause-full g c = λ e. absurd (false≢true (sym e))

pub returns-clause-none : goal.returns-clause-none
returns-clause-none g c = λ e. absurd (false≢true (sym e))

pub returns-then-left-eq0-clause-waits : goal.returns-then-left-eq0-clause-waits
returns-then-left-eq0-clause-waits g c = λ e. absurd (false≢true e)

pub returns-then-left-eq0-clause-none : goal.returns-then-left-eq0-clause-none
returns-then-left-eq0-clause-none g c = λ _. refl

pub returns-then-left-eq0-clause-keeps : goal.returns-then-left-eq0-clause-keeps
returns-then-left-eq0-clause-keeps g c =
    subst (λ (v : LiveView). IsLive v) c.self.view_is c.self.invariant.live

pub take-requires : goal.take-requires
take-requires g c = omega (arith, c.left.ensures, c.if-left-eq0.false)
