use Rattle.std.proofs.Common.{◌≡◌, ap, sym, subst, ◌∙◌, arith}
use Rattle.atomic_table.specs.Table.{Me}
use Rattle.like_core.specs.declared.view.View.{View}
use Rattle.like_board.specs.Closed.{HasAllBack}
use Rattle.like_board.specs.Seats.{coord_view}
use Rattle.like_board.proofs.Allowed.{closing}
use Rattle.like_board.proofs.board.Board.last_counts.Goals as goal

pub load-requires : goal.load-requires
load-requires c = (
  c.gather.ensures.board ∙ c.requires.coord_here,
  c.args.self.now.some_word,
  closing c.args.self.now.table.shared.key _ _ _ _,
)

pub returns : goal.returns
returns c =
    let coord = coord_view c.args.coord in
    let seats = c.args.seats.items in
    let len = c.write_counts.ensures.len in
    let back : HasAllBack c.gather.new.coord.me.0 coord seats =
    record {
      view = ap (λ (m : Me (Unit {0}) View). m.0) c.gather.ensures.coord;
      none = c.args.coord.none_back;
      made = c.args.coord.made_all;
      all = c.requires.all;
    }
    in
    let stays : c.load.new.seat.me ≡ c.gather.new.coord.me = c.load.ensures.2.1 in
    record {
      len = len ∙ c.requires.places;
      totals = λ page on.
          c.write_counts.ensures.counts coord seats
          (subst (λ (m : Me (Unit {0}) View). HasAllBack m.0 coord seats) (sym stays) back) (sym c.requires.places) page
          (omega (arith, on, len));
      closed = c.load.ensures.2.0.closed coord seats back;
    }
