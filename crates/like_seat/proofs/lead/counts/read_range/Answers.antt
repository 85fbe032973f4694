use Rattle.std.proofs.Common.{◌≡◌, ◌+◌, ◌<◌, length, take, sym, ap, ◌∙◌, subst, arith}
use Rattle.std.proofs.lemmas.List.{length-take-le, take_more_set}
use Rattle.like_core.specs.declared.opening.Opening.{Opening}
use Rattle.like_core.specs.declared.view.CoordSeatView.{CoordSeatView}
use Rattle.like_core.specs.declared.view.View.TheVariants.{Coord}
use Rattle.like_core.specs.views.Shows.{IsKnown}
use Rattle.like_core.specs.views.Views.{counted_coord, MayCount}
use Rattle.like_board.specs.Seats.{coord_view}
use Rattle.like_seat.specs.Lead.{counted_from}
use Rattle.like_seat.proofs.Leading.{counted-is, counted-more, may-count}
use Rattle.like_seat.proofs.lead.counts.read_range.Goals as goal

pub overflow_cast-page : goal.overflow_cast-page
overflow_cast-page c = omega (arith, c.loop-page-test.true, c.requires.there, c.args.seat.now.few_pages)

pub count-requires-clause-may : goal.count-requires-clause-may
count-requires-clause-may c =
    let l = c.loop-page in
    let known = coord_view c.args.seat.now in
    let page = c.args.from + l.page in
    subst (λ (v : CoordSeatView). MayCount v page) (sym l.invariant.view)
    (may-count known c.args.from (take l.page l.counts) page
    (c.requires.saw, c.requires.joined, omega (arith, c.loop-page-test.true, c.requires.there)))

pub loop-page-preserved : goal.loop-page-preserved
loop-page-preserved c =
    let l = c.loop-page in
    let known = coord_view c.args.seat.now in
    let from = c.args.from in
    let count = c.count.result in
    let there : l.page < length l.counts = omega (arith, c.loop-page-test.true, l.auto.counts) in
    let opening : (coord_view l.seat).opening ≡ known.opening =
    ap (λ (v : CoordSeatView). v.opening) (l.invariant.view ∙ counted-is known from (take l.page l.counts)) in
    record {
      board = c.count.ensures.board ∙ l.invariant.board;
      view =
          c.count.ensures.view ∙ ap (λ (v : CoordSeatView). counted_coord v (from + l.page) count) l.invariant.view
          ∙ ap (λ p. counted_coord (counted_from known from (take l.page l.counts)) p count)
          (omega (arith, length-take-le l.page l.counts (omega (arith, there))))
          ∙ sym (counted-more known from (take l.page l.counts) count)
          ∙ ap (counted_from known from) (sym (take_more_set l.counts l.page count there));
      known = λ _. subst (λ (z : Opening). IsKnown z (Coord (coord_view c.count.new.self))) opening c.count.ensures.known;
    }
