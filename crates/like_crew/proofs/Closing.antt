-- How a run that has ended on a board that threads share leaves its outcome.
use Rattle.std.proofs.Common.{◌≡◌, ◌∙◌, ℕ, Bool, List, [], length, get_or, slice_get, Some, sym, ap, subst, Vec, Global}
use Rattle.std.specs.List.{AllZip}
use Rattle.std.proofs.lemmas.Option.{get_or_from_slice_get, slice_get-get_or, slice_get_within}
use Rattle.like_requests.specs.declared.request.Request.{Request}
use Rattle.like_requests.specs.declared.setup.Setup.{Setup}
use Rattle.like_core.specs.declared.opening.Opening.{Opening}
use Rattle.like_core.specs.declared.worker_state.WorkerState.TheVariants.{Gone}
use Rattle.like_board.specs.declared.worker_seat.WorkerSeat.{WorkerSeat}
use Rattle.like_board.specs.Closed.{IsClosedBoard}
use Rattle.like_board.specs.Seats.{AreAll, board_id, board_numbers, coord_view, seat_board, seat_view}
use Rattle.like_board.proofs.InOrder.{all_in_order}
use Rattle.like_board.proofs.BoardNumbers.{same_board}
use Rattle.like_core.specs.declared.view.CoordSeatView.{CoordSeatView}
use Rattle.like_core.specs.declared.view.WorkerSeatView.{WorkerSeatView}
use Rattle.like_promises.specs.Workload.{workload_of}
use Rattle.like_promises.specs.declared.chosen.Chosen.{Chosen}
use Rattle.like_promises.specs.declared.log.WorkerLog.{WorkerLog}
use Rattle.like_crew.specs.declared.ended.Ended.{Ended}
use Rattle.like_crew.specs.declared.outcome.Outcome.{Outcome}
use Rattle.like_crew.specs.declared.site.Site.{Site}
use Rattle.like_crew.specs.Crew.{CrewView, GoesOn, IsCrew, IsCrewAt, IsCrewOf}
use Rattle.like_crew.specs.Ended.{AreLeft, IsEnded, IsSeatOf}
use Rattle.like_crew.specs.Outcome.{IsOutcome, IsSeatLike}
use Rattle.like_crew.specs.Server.{IsLogOf, ServerView}
use Rattle.like_crew.specs.Servers.{IsServer}
use Rattle.like_crew.specs.Site.{opening_of}
use Rattle.like_crew.proofs.Ending.{as-many, crew-later, server-at}
use Rattle.like_crew.proofs.Whole.{left-at}
use Rattle.like_crew.proofs.lists.Pairs.{pairs-length, pairs-then}

module _ (setup : Setup) (plans : List (List Request)) (site : Site) (e : Ended) (h : IsEnded (IsCrew setup plans site) e) where
  -- the crew when its run had ended
  abbrev last : CrewView
  last = record { coordinator = h.coordinator; servers = h.left.servers }

  last-is : IsCrewAt setup plans (board_numbers (board_id site.board)) site.notes last
  last-is = crew-later setup plans (board_numbers (board_id site.board)) site.notes h.crew last h.of.crew
      (record { coordinator = h.later; servers = h.left.later })

  pub opening-is : (coord_view e.coord).opening ≡ opening_of setup
  opening-is = ap (λ (v : CoordSeatView). v.opening) h.coordinator_is.view ∙ last-is.opening

  -- its board can be closed
  pub left-of : AreLeft (board_id site.board) e.coord e.seats.items
  left-of = record {
    coord_here = h.coordinator_is.coord ∙ h.later.board ∙ h.of.board;
    seats_here = λ k d within. here k (get_or e.seats.items k d) (slice_get-get_or e.seats.items k d within);
    all = subst (λ n. AreAll n e.seats.items) (sym (ap (λ (x : Opening). x.workers) opening-is))
        (all_in_order e.seats.items setup.workers sized whose);
    gone = λ k d within. gone k (get_or e.seats.items k d) (slice_get-get_or e.seats.items k d within);
  } where
    sized : length e.seats.items ≡ setup.workers
    sized = sym (pairs-length IsSeatOf last.servers e.seats.items h.left.seats_are)
        ∙ as-many (workload_of setup plans) setup.workers (board_numbers (board_id site.board)) site.notes last.servers
        last-is.servers

    seat-at : (k : ℕ) (seat : WorkerSeat) → slice_get e.seats.items k ≡ Some seat
        → (s : ServerView) × ((slice_get last.servers k ≡ Some s) × IsSeatOf s seat)
    seat-at k seat at = left-at IsSeatOf last.servers e.seats.items k seat h.left.seats_are at

    is : (k : ℕ) (s : ServerView) → slice_get last.servers k ≡ Some s
        → IsServer (workload_of setup plans) setup.workers (board_numbers (board_id site.board)) site.notes k s
    is k s at = server-at (workload_of setup plans) setup.workers (board_numbers (board_id site.board)) site.notes
        last.servers k s at last-is.servers

    here : (k : ℕ) (seat : WorkerSeat) → slice_get e.seats.items k ≡ Some seat → seat_board seat ≡ board_id site.board
    here k seat at =
        let s = seat-at k seat at in
        same_board (seat_board seat) (board_id site.board)
        (s.1.1.board ∙ (is k s.0 s.1.0).board_is)

    whose : (k : ℕ) (seat : WorkerSeat) → slice_get e.seats.items k ≡ Some seat → (seat_view seat).worker ≡ k
    whose k seat at =
        let s = seat-at k seat at in
        ap (λ (p : WorkerSeatView). p.worker) s.1.1.view ∙ (is k s.0 s.1.0).whose

    gone : (k : ℕ) (seat : WorkerSeat) → slice_get e.seats.items k ≡ Some seat → (seat_view seat).state ≡ Gone
    gone k seat at =
        let s = seat-at k seat at in
        ap (λ (p : WorkerSeatView). p.state) s.1.1.view
        ∙ subst (λ (x : ServerView). x.worker.post.state ≡ Gone) (get_or_from_slice_get last.servers k s.0 s.0 s.1.0)
        (h.left.gone k s.0 (slice_get_within last.servers k s.0 s.1.0))

  -- and what is left then is the outcome of the run
  pub outcome-of : (o : Outcome)
      → o.logs ≡ e.logs
      → IsClosedBoard (coord_view e.coord) e.seats.items o.counts.items
      → o.phases ≡ e.phases
      → o.chosen ≡ e.chosen → IsOutcome (IsCrewOf setup plans site.notes) o
  outcome-of o logs counts phases chosen = record {
    crew = last;
    of = record { board = board_numbers (board_id site.board); at = last-is };
    ended = h.coordinator_is.ended;
    logs = subst (λ (xs : Vec WorkerLog Global). AllZip IsLogOf last.servers xs.items) (sym logs) h.left.logs_are;
    seats = e.seats.items;
    seats_are = pairs-then IsSeatOf IsSeatLike last.servers e.seats.items (λ k s seat at is. is.view) h.left.seats_are;
    counts = subst (λ v. IsClosedBoard v e.seats.items o.counts.items) h.coordinator_is.view counts;
    phases = phases ∙ h.coordinator_is.phases;
    chosen = ap (λ (xs : Vec Chosen Global). xs.items) chosen ∙ h.coordinator_is.chosen;
    chose = h.coordinator_is.chose;
  }

-- an outcome of a crew is one of what is true of it
pub outcome-as : (Of With : CrewView → Type 0) (o : Outcome)
    → ((c : CrewView) → Of c → With c)
    → IsOutcome Of o
    → IsOutcome With o
outcome-as Of With o then h = record {
  crew = h.crew;
  of = then h.crew h.of;
  ended = h.ended;
  logs = h.logs;
  seats = h.seats;
  seats_are = h.seats_are;
  counts = h.counts;
  phases = h.phases;
  chosen = h.chosen;
  chose = h.chose;
}

-- where the crew's thread owned the board, it is one of the run
pub crew-outcome : (setup : Setup) (plans : List (List Request)) (notes : Bool) (c : CrewView) (o : Outcome)
    → IsCrewAt setup plans [] notes c
    → IsOutcome (GoesOn c) o
    → IsOutcome (IsCrewOf setup plans notes) o
crew-outcome setup plans notes c o is =
    outcome-as (GoesOn c) (IsCrewOf setup plans notes) o
    (λ d on. record { board = []; at = crew-later setup plans [] notes c d is on })
