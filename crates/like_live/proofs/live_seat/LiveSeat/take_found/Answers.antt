use Rattle.std.proofs.Common.{◌+◌, List, Some, drop, length, ap, refl, sym, subst, ◌∙◌, arith}
use Rattle.std.specs.List.{All}
use Rattle.std.proofs.lemmas.List.Elements.{All-head}
use Rattle.like_live.specs.declared.asked.Found.{Found}
use Rattle.like_live.specs.Calls.{TakesFound}
use Rattle.like_live.specs.LiveView.{LiveView, RanNext, live_of}
use Rattle.like_live.specs.LookRoom.{RoomView}
use Rattle.like_core.proofs.Lists.{first_of, none_first}
use Rattle.like_live.proofs.Requests.{after-taken}
use Rattle.like_live.proofs.live_seat.LiveSeat.take_found.Goals as goal

pub invariant_of-self : goal.invariant_of-self
invariant_of-self g c =
    let i = c.self.inside in
    let none = none_first i.found.looks (sym c.pop_front.ensures.first ∙ c.in_err-found.was) in
    after-taken i.station i.found c.pop_front.new.self i.home i.pages i.room i.room i.half c.self.invariant
    c.pop_front.ensures.rest
    (ap (λ (xs : List Found). i.room.left + length (drop 1 xs)) none
    ∙ sym (ap (λ (xs : List Found). i.room.left + length xs) none)) refl

pub returns-in_err-found-clause-keeps : goal.returns-in_err-found-clause-keeps
returns-in_err-found-clause-keeps g c = (invariant_of-self g c).live

pub returns-in_err-found-clause-takes : goal.returns-in_err-found-clause-takes
returns-in_err-found-clause-takes g c =
    let i = c.self.inside in
    subst (λ (v : LiveView). TakesFound v c.from_residual.result (live_of i.station c.pop_front.new.self)) c.self.view_is (
      c.from_residual.ensures ∙ sym c.in_err-found.was ∙ c.pop_front.ensures.first,
      ap (live_of i.station) c.pop_front.ensures.rest,
    )

pub give-requires : goal.give-requires
give-requires g c = omega (arith, c.self.invariant.room_is, c.self.invariant.live.station.waiting.few)

pub invariant_of-self-2 : goal.invariant_of-self-2
invariant_of-self-2 g c =
    let i = c.self.inside in
    let first = first_of i.found.looks c.in_ok-found.found (sym c.pop_front.ensures.first ∙ c.in_ok-found.was) in
    after-taken i.station i.found c.pop_front.new.self i.home i.pages i.room c.give.new.self i.half c.self.invariant
    c.pop_front.ensures.rest
    (omega (arith, ap (λ (xs : List Found). length xs) first, ap (λ (r : RoomView). r.left) c.give.ensures))
    (ap (λ (r : RoomView). r.free) c.give.ensures)

pub returns-clause-keeps : goal.returns-clause-keeps
returns-clause-keeps g c = (invariant_of-self-2 g c).live

pub returns-clause-next : goal.returns-clause-next
returns-clause-next g c =
    let i = c.self.inside in
    let first = first_of i.found.looks c.in_ok-found.found (sym c.pop_front.ensures.first ∙ c.in_ok-found.was) in
    All-head RanNext c.in_ok-found.found (drop 1 i.found.looks) (subst (All RanNext) first c.self.invariant.live.next)

pub returns-clause-takes : goal.returns-clause-takes
returns-clause-takes g c =
    let i = c.self.inside in
    subst (λ (v : LiveView). TakesFound v (Some c.in_ok-found.found) (live_of i.station c.pop_front.new.self)) c.self.view_is
    (sym c.in_ok-found.was ∙ c.pop_front.ensures.first, ap (live_of i.station) c.pop_front.ensures.rest)
