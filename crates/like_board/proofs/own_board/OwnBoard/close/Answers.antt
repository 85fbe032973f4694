use Rattle.std.proofs.Common.{ℕ, List, length, get_or, ap, sym, ◌∙◌, arith}
use lib.ListN.{get_elem?}
use Rattle.like_core.specs.declared.opening.Opening.{Opening}
use Rattle.like_core.specs.declared.view.View.{View}
use Rattle.like_core.specs.views.Layout.{word_of}
use Rattle.like_board.specs.Own.{own_coord, own_opening, own_views}
use Rattle.like_board.proofs.worker.Moves.{coord_opens}
use Rattle.like_board.proofs.OwnClosing.{closes_own}
use Rattle.like_board.proofs.own_board.OwnBoard.close.Goals as goal

pub write_own_counts-requires-clause-sized : goal.write_own_counts-requires-clause-sized
write_own_counts-requires-clause-sized c =
    let board = c.args.self in
    let told = c.tell.ensures in
    let opened = coord_opens (own_opening board) _ (own_views board) 0 (own_coord c.args.coord) told.holds
    (ap (λ (l : List View). get_elem? l 0) c.requires.known) in
    ap (λ (l : List ℕ). length l) told.words ∙ board.sized
    ∙ ap (λ (z : Opening). word_of (length z.counts)) (sym opened) ∙ ap word_of (sym c.requires.places)

pub returns : goal.returns
returns c =
    let board = c.args.self in
    let coord = c.args.coord in
    let told = c.tell.ensures in
    let wrote = c.write_own_counts.ensures in
    let places = c.requires.places in
    let len = wrote.len in
    let closed = closes_own (own_opening board) _ (own_views board) (own_coord coord) c.args.seats.items told.holds
    c.requires.known coord.none_back coord.made_all c.requires.all in
    record {
      len = wrote.len ∙ places;
      totals = λ page on.
          wrote.counts page (omega (arith, on, len))
          ∙ ap (λ (l : List ℕ). get_or l (word_of page) 0) told.words
          ∙ closed.1 page (omega (arith, on, len, places));
      closed = closed.0;
    }
