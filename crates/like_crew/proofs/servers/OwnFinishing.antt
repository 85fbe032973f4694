-- How the servers of a crew whose thread owns its board leave their seats, and how the board is closed with them.
use Rattle.std.proofs.Common.{◌≡◌, ℕ, List, [], ◌∷◌, length, get_or, map, refl, sym, ap, subst, ◌∙◌, arith}
use Rattle.std.specs.List.{All, AllZip}
use Rattle.std.proofs.lemmas.List.{length-map}
use Rattle.std.proofs.lemmas.Option.{get_or_from_slice_get, slice_get-get_or, slice_get_within}
use Rattle.like_core.specs.declared.view.CoordSeatView.{CoordSeatView}
use Rattle.like_core.specs.declared.view.View.{View}
use Rattle.like_core.specs.declared.view.View.TheVariants.{Coord, Worker}
use Rattle.like_core.specs.declared.view.WorkerSeatView.{WorkerSeatView}
use Rattle.like_core.specs.declared.worker_state.WorkerState.TheVariants.{Gone}
use Rattle.like_board.specs.declared.own_board.worker_seat.OwnWorkerSeat.{OwnWorkerSeat}
use Rattle.like_board.specs.declared.worker_seat.WorkerSeat.{WorkerSeat}
use Rattle.like_board.specs.Own.{own_view}
use Rattle.like_board.specs.OwnClosed.{all_views, as_shared}
use Rattle.like_board.specs.Seats.{AreAll, seat_view}
use Rattle.like_board.proofs.InOrder.{all_in_order}
use Rattle.like_crew.specs.Crew.{AreGone}
use Rattle.like_crew.specs.OwnCrew.{AreSeated, IsOwnSeatOf, servers_of}
use Rattle.like_crew.specs.OwnServer.{OwnServerView}
use Rattle.like_crew.specs.Outcome.{IsSeatLike}
use Rattle.like_crew.specs.Server.{ServerView}
use Rattle.like_crew.proofs.Whole.{left-at}
use Rattle.like_crew.proofs.lists.Mapped.{mapped-at}
use Rattle.like_crew.proofs.lists.Pairs.{pairs-length}
use Rattle.like_crew.proofs.servers.Seated.{server-at}

-- the seats know what the servers' posts do
same-views : (owned : List OwnServerView) (seats : List OwnWorkerSeat) → AllZip IsOwnSeatOf owned seats
    → map (λ (s : ServerView). Worker s.worker.post) (servers_of owned)
    ≡ map (λ (seat : OwnWorkerSeat). Worker (own_view seat)) seats
same-views [] [] are = refl
same-views [] (seat ∷ seats) are = absurd are
same-views (s ∷ owned) [] are = absurd are
same-views (s ∷ owned) (seat ∷ seats) are =
    λ m. Worker (sym are.0.view m) ∷ same-views owned seats are.1 m

module _ (views : List View) (c : CoordSeatView) (owned : List OwnServerView) (seats : List OwnWorkerSeat)
    (h : AreSeated views c owned) (are : AllZip IsOwnSeatOf owned seats) where
  -- so does their board
  pub views-left : views ≡ all_views c seats
  views-left = h.views_are ∙ ap (λ vs. Coord c ∷ vs) (same-views owned seats are)

  -- all workers' seats are there once
  pub own-all : (workers : ℕ) → length owned ≡ workers → AreAll workers (map as_shared seats)
  own-all workers sized =
      all_in_order (map as_shared seats) workers
      (length-map seats as_shared ∙ sym (pairs-length IsOwnSeatOf owned seats are) ∙ sized) (λ k seat e.
      let it = mapped-at as_shared seats k seat e in
      let own : OwnWorkerSeat = it.0 in
      let s = left-at IsOwnSeatOf owned seats k own are it.1.0 in
      let is = own.numbered in
      let at = own.placed in
      let here = s.1.1.place in
      let place = h.places k s.0 s.1.0 in
      ap (λ (x : WorkerSeat). (seat_view x).worker) (sym it.1.1) ∙ omega (arith, is, at, here, place))

pub own-gone : (owned : List OwnServerView) (seats : List OwnWorkerSeat)
    → AllZip IsOwnSeatOf owned seats
    → AreGone (servers_of owned)
    → All (λ seat. (own_view seat).state ≡ Gone) seats
own-gone owned seats are gone = λ k d within.
    let seat : OwnWorkerSeat = get_or seats k d in
    let s = left-at IsOwnSeatOf owned seats k seat are (slice_get-get_or seats k d within) in
    let at = server-at owned k s.0 s.1.0 in
    let x : ServerView = s.0.server in
    ap (λ (p : WorkerSeatView). p.state) s.1.1.view
    ∙ subst (λ (y : ServerView). y.worker.post.state ≡ Gone) (get_or_from_slice_get (servers_of owned) k x x at)
    (gone k x (slice_get_within (servers_of owned) k x at))

pub own-like : (owned : List OwnServerView) (seats : List OwnWorkerSeat)
    → AllZip IsOwnSeatOf owned seats
    → AllZip IsSeatLike (servers_of owned) (map as_shared seats)
own-like [] [] are = tt
own-like [] (seat ∷ seats) are = absurd are
own-like (s ∷ owned) [] are = absurd are
own-like (s ∷ owned) (seat ∷ seats) are = (are.0.view, own-like owned seats are.1)
