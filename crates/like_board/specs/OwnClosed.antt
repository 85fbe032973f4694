-- How a board that one thread owns ends.
use Rattle.std.specs.Prelude.{List, [], ◌∷◌, length, map}
use Rattle.like_core.specs.{Types.Coord, Types.CoordSeatView, Types.View, Types.Worker, views.Layout.word_of}
use Rattle.like_board.specs.declared.own_board.worker_seat.OwnWorkerSeat.{OwnWorkerSeat}
use Rattle.like_board.specs.{Own.own_view, declared.worker_seat.WorkerSeat.WorkerSeat}

-- a seat that knows the same, at a board that threads share
abbrev pub as_shared : OwnWorkerSeat → WorkerSeat
as_shared s = record {
  access = record {
    marker = record {};
    table_id = record {
      words = word_of (length (own_view s).opening.marks);
      slots = 0;
      views_name = 0;
      atom = 0;
      block = 0;
      offset = 0;
      slot_names = [];
    };
    id = s.access.id;
    me = s.access.me;
  };
  number = s.number;
  form = s.form;
  turn = s.turn;
  is_worker = s.is_worker;
  numbered = s.numbered;
  formed = s.formed;
  few = s.few;
  turned = s.turned;
  sized = λ m. word_of (length (own_view s).opening.marks);
}

-- the views of all seats of a board: the coordinator's and those of these workers' seats
abbrev pub all_views : CoordSeatView → List OwnWorkerSeat → List View
all_views c seats = Coord c ∷ map (λ s. Worker (own_view s)) seats
