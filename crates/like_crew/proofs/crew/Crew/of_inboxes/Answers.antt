use Rattle.std.proofs.Common.{ap, ◌∙◌, sym}
use Rattle.like_core.specs.declared.view.CoordSeatView.{CoordSeatView}
use Rattle.like_board.specs.Seats.{board_id}
use Rattle.like_roles.specs.coordinator.CoordTurns.{CoordinatorView, new_coordinator}
use Rattle.like_crew.proofs.crew.Crew.of_inboxes.Goals as goal

pub servers_of-requires-clause-sizes : goal.servers_of-requires-clause-sizes
servers_of-requires-clause-sizes g c = c.deref.ensures.value ∙ c.requires.site.sizes

pub new-requires-clause-counts : goal.new-requires-clause-counts
new-requires-clause-counts g c =
    c.deref-2.ensures.value ∙ c.requires.site.counts
    ∙ sym (ap (λ (v : CoordSeatView). v.opening.counts) c.requires.seats.coord)

pub new-requires-clause-limits : goal.new-requires-clause-limits
new-requires-clause-limits g c = ap (λ (v : CoordSeatView). v.opening.limits) c.requires.seats.coord

pub new-requires-clause-new : goal.new-requires-clause-new
new-requires-clause-new g c = record {
  phase = ap (λ (v : CoordSeatView). v.phase) c.requires.seats.coord;
  masks = ap (λ (v : CoordSeatView). v.masks) c.requires.seats.coord;
}

pub returns-clause-crew : goal.returns-clause-crew
returns-clause-crew g c =
    let coordinator = c.in_ok-coordinator.ensures in
    record {
      board = ap (λ (v : CoordinatorView). v.board) coordinator;
      crew = record {
        opening = ap (λ (v : CoordinatorView). v.seat.opening) coordinator
            ∙ ap (λ (v : CoordSeatView). v.opening) c.requires.seats.coord;
        turns = ap (λ (v : CoordinatorView). v.turns) coordinator;
        hot = ap (λ (v : CoordinatorView). v.choice.hot) coordinator;
        servers = c.in_ok-servers.ensures.servers;
      };
    }

pub returns-clause-new : goal.returns-clause-new
returns-clause-new g c = record {
  board = board_id c.args.site.now.board;
  terms = record { sizes = c.deref.result; notes = c.args.site.now.notes };
  sizes = c.deref.ensures.value ∙ c.requires.site.sizes;
  coordinator = c.in_ok-coordinator.ensures
      ∙ ap (λ (v : CoordSeatView). new_coordinator (board_id c.args.site.now.board) v c.args.setup.now.turns c.args.setup.now.hot) c.requires.seats.coord;
  servers = c.in_ok-servers.ensures.new;
}
