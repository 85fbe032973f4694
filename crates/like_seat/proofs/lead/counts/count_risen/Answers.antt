use Rattle.std.proofs.Common.{◌≡◌, ◌+◌, ◌-◌, ◌*◌, ◌^◌, ◌<◌, true, false, leb, length, take, get_or, set, refl, sym, ap, ◌∙◌, subst, arith}
use Rattle.std.proofs.lemmas.Bool.{lt-leb, le-leb}
use Rattle.std.proofs.lemmas.List.{get_or-set_other, length-set, length-take-le, take_more_set}
use Rattle.like_core.specs.declared.view.CoordSeatView.{CoordSeatView}
use Rattle.like_core.specs.Functions.{weight}
use Rattle.like_core.specs.views.Views.{counted_coord, MayCount}
use Rattle.like_board.proofs.Led.{led-none, led-on, leads-on}
use Rattle.like_seat.specs.Lead.{counted_from, has_risen}
use Rattle.like_seat.proofs.Leading.{bit-fits, bit-is, counted-more, mask-more, may-count}
use Rattle.like_seat.proofs.lead.counts.count_risen.Goals as goal
use Rattle.like_seat.proofs.lead.counts.count_risen.Goals.{then-saturating_sub-from, else-saturating_sub-from}

pub loop-page-init : goal.loop-page-init
loop-page-init g c = record {
  board = refl;
  view = refl;
  len = refl;
  rest = λ k past. refl;
  risen = refl;
  led = led-none (g.S.LeadsAt.tells c.args.board.now) (g.S.LeadSeat.board c.args.seat.now)
      (g.S.LeadSeat.view c.args.seat.now) c.requires.here;
}

pub count-count-requires-clause-here : goal.count-count-requires-clause-here
count-count-requires-clause-here g c =
    let l = c.loop-page in
    let view = g.S.LeadSeat.view in
    let tells = g.S.LeadsAt.tells in
    leads-on (tells c.args.board.now) (tells l.board) (g.S.LeadSeat.board c.args.seat.now) (g.S.LeadSeat.board l.seat)
    (view c.args.seat.now) (view l.seat) c.requires.here l.invariant.board l.invariant.led

pub count-count-requires-clause-may : goal.count-count-requires-clause-may
count-count-requires-clause-may g c =
    let l = c.loop-page in
    let view = g.S.LeadSeat.view in
    subst (λ (v : CoordSeatView). MayCount v l.page) (sym l.invariant.view)
    (may-count (view c.args.seat.now) 0 (take l.page l.counts) l.page
    (c.requires.saw, c.requires.joined, omega (arith, c.loop-page-test.true, l.invariant.len, c.requires.there)))

pub overflow_add-mask : goal.overflow_add-mask
overflow_add-mask g c =
    let l = c.loop-page in
    omega (
      arith,
      bit-fits (has_risen c.args.least c.args.counts.now l.counts) l.page l.mask
          (omega (arith, c.loop-page-test.true, l.invariant.len, c.requires.few)) l.invariant.risen,
    )

pub loop-page-preserved : goal.loop-page-preserved
loop-page-preserved g c =
    let l = c.loop-page in
    let view = g.S.LeadSeat.view in
    let tells = g.S.LeadsAt.tells in
    let count = c.count-count.result in
    let first = c.args.counts.now in
    let there : l.page < length l.counts = omega (arith, c.loop-page-test.true) in
    let few : l.page < 64 = omega (arith, there, l.invariant.len, c.requires.few) in
    let by : c.saturating_sub.result ≡ count - get_or first l.page 0 =
    c.saturating_sub.ensures ∙ ap (λ n. count - n) (l.invariant.rest l.page (omega arith)) in
    let rose : c.if-saturating_sub-from.mask
    ≡ l.mask + weight (leb c.args.least (count - get_or first l.page 0)) * 2 ^ l.page =
    elim c.if-saturating_sub-from.branch [
      | then-saturating_sub-from w ↦
          let yes_ : leb c.args.least (count - get_or first l.page 0) ≡ true =
          le-leb c.args.least (count - get_or first l.page 0)
          (omega (arith, w.if-saturating_sub-from.true, c.from.ensures, by)) in
          w.mask-is ∙ ap (λ n. l.mask + n) (bit-is l.page few ∙ omega (arith, ap (λ b. weight b * 2 ^ l.page) yes_))
      | else-saturating_sub-from w ↦
          let no : leb c.args.least (count - get_or first l.page 0) ≡ false =
          lt-leb c.args.least (count - get_or first l.page 0)
          (omega (arith, w.if-saturating_sub-from.false, c.from.ensures, by)) in
          w.mask-is ∙ omega (arith, ap (λ b. weight b * 2 ^ l.page) no)
    ]
    in
    let view_is : view c.count-count.new.self
    ≡ counted_from (view c.args.seat.now) 0 (take (l.page + 1) (set l.counts l.page count)) =
    c.count-count.ensures.view ∙ ap (λ (v : CoordSeatView). counted_coord v l.page count) l.invariant.view
    ∙ ap (λ p. counted_coord (counted_from (view c.args.seat.now) 0 (take l.page l.counts)) p count)
    (omega (arith, length-take-le l.page l.counts (omega (arith, there))))
    ∙ sym (counted-more (view c.args.seat.now) 0 (take l.page l.counts) count)
    ∙ ap (counted_from (view c.args.seat.now) 0) (sym (take_more_set l.counts l.page count there))
    in
    record {
      board = c.count-count.ensures.board ∙ l.invariant.board;
      view = view_is;
      len = length-set l.counts l.page count ∙ l.invariant.len;
      rest = λ k past. get_or-set_other l.counts l.page k count 0 (omega (arith, past))
          ∙ l.invariant.rest k (omega (arith, past));
      risen = rose ∙ mask-more c.args.least l.page count l.mask first l.counts there l.invariant.risen;
      led = led-on (tells c.args.board.now) (tells l.board) (tells c.count-count.new.board) (view l.seat)
          (view c.count-count.new.self) l.invariant.led c.count-count.ensures.led;
    }
