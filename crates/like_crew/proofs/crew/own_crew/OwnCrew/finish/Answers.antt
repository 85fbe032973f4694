use Rattle.std.proofs.Common.{◌≡◌, ◌∙◌, ℕ, List, length, map, sym, ap, subst}
use Rattle.std.specs.Vec.{with_items}
use Rattle.std.proofs.lemmas.List.{length-map, with_items_is}
use Rattle.like_core.specs.declared.view.CoordSeatView.{CoordSeatView}
use Rattle.like_board.specs.Closed.{IsClosedBoard}
use Rattle.like_board.specs.Own.{own_views}
use Rattle.like_board.specs.OwnClosed.{all_views, as_shared}
use Rattle.like_board.specs.Seats.{AreAll}
use Rattle.like_board.specs.declared.worker_seat.WorkerSeat.{WorkerSeat}
use Rattle.like_roles.specs.coordinator.CoordTurns.{HasEndedJoined}
use Rattle.like_crew.specs.Crew.{AreGone, CrewView}
use Rattle.like_crew.specs.declared.outcome.Outcome.{Outcome}
use Rattle.like_crew.specs.OwnCrew.{servers_of}
use Rattle.like_crew.specs.OwnServer.{OwnServerView}
use Rattle.like_crew.proofs.servers.OwnFinishing.{own-all, own-gone, own-like, views-left}
use Rattle.like_crew.proofs.crew.own_crew.OwnCrew.finish.Goals as goal

pub finish_own-requires : goal.finish_own-requires
finish_own-requires c = subst (λ (v : CrewView). AreGone v.servers) (sym c.self.view_is) c.requires.gone

pub close-requires-clause-known : goal.close-requires-clause-known
close-requires-clause-known c =
    views-left (own_views c.self.inside.board) c.self.inside.coordinator.seat c.self.inside.servers.items
    c.in_ok-logs.seats.items c.self.invariant.0 c.in_ok-logs.ensures.seats
    ∙ ap (λ (v : CoordSeatView). all_views v c.in_ok-logs.seats.items) (sym c.finish-coord.ensures.view)

pub close-requires-clause-all : goal.close-requires-clause-all
close-requires-clause-all c =
    let seat = c.self.inside.coordinator.seat in
    let owned = c.self.inside.servers.items in
    let many : length owned ≡ seat.opening.workers =
    sym (length-map owned (λ (s : OwnServerView). s.server))
    ∙ subst (λ (v : CrewView). length v.servers ≡ v.coordinator.seat.opening.workers) (sym c.self.view_is)
    c.requires.all in
    subst (λ (v : CoordSeatView). AreAll v.opening.workers (map as_shared c.in_ok-logs.seats.items))
    (sym c.finish-coord.ensures.view)
    (own-all (own_views c.self.inside.board) seat owned c.in_ok-logs.seats.items c.self.invariant.0
    c.in_ok-logs.ensures.seats seat.opening.workers many)

pub close-requires-clause-gone : goal.close-requires-clause-gone
close-requires-clause-gone c =
    own-gone c.self.inside.servers.items c.in_ok-logs.seats.items c.in_ok-logs.ensures.seats
    (subst (λ (v : CrewView). AreGone v.servers) (sym c.self.view_is) c.requires.gone)

pub close-requires-clause-places : goal.close-requires-clause-places
close-requires-clause-places c =
    ap (λ (xs : List ℕ). length xs) c.deref_mut.ensures.value ∙ c.self.invariant.1
    ∙ ap (λ (v : CoordSeatView). length v.opening.counts) (sym c.finish-coord.ensures.view)

closed-as : (v w : CoordSeatView) (seats : List WorkerSeat) (counts items : List ℕ)
    → v ≡ w
    → counts ≡ items
    → IsClosedBoard v seats counts
    → IsClosedBoard w seats items
closed-as v w seats counts items same is h =
    subst (λ x. IsClosedBoard x seats items) same (subst (IsClosedBoard v seats) is h)

pub returns : goal.returns
returns c =
    let outcome : Outcome =
    record {
      logs = c.in_ok-logs.logs;
      counts = with_items c.self.inside.counts c.close.new.counts;
      phases = c.phase-phases.result;
      chosen = c.finish-coord.result.1;
    } in
    let many : length c.close.new.counts ≡ c.self.inside.counts.len =
    c.close.ensures.len ∙ ap (λ (v : CoordSeatView). length v.opening.counts) c.finish-coord.ensures.view
    ∙ sym (c.self.inside.counts.ok.0 ∙ c.self.invariant.1) in
    record {
      crew = record { coordinator = c.self.inside.coordinator; servers = servers_of c.self.inside.servers.items };
      of = c.self.view_is;
      ended = subst (λ (v : CrewView). HasEndedJoined v.coordinator) (sym c.self.view_is) c.requires.ended;
      logs = c.in_ok-logs.ensures.logs;
      seats = map as_shared c.in_ok-logs.seats.items;
      seats_are = own-like c.self.inside.servers.items c.in_ok-logs.seats.items c.in_ok-logs.ensures.seats;
      counts = closed-as _ _ (map as_shared c.in_ok-logs.seats.items) _ _ c.finish-coord.ensures.view
          (sym (with_items_is c.self.inside.counts c.close.new.counts many)) c.close.ensures;
      phases = c.phase-phases.ensures;
      chosen = c.finish-coord.ensures.chosen;
      chose = c.self.invariant.2.chose;
    }
