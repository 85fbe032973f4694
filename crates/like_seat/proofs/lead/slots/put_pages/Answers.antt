use Rattle.std.proofs.Common.{◌+◌, List, ℕ, length, refl, sym, ap, ◌∙◌, subst, arith}
use Rattle.like_board.specs.Seats.{coord_board, coord_view}
use Rattle.like_board.specs.declared.coord_seat.CoordSeat.{CoordSeat}
use Rattle.like_seat.proofs.Choosing.{PutsFirst, may-put, puts-all, puts-more, puts-none, puts-unused}
use Rattle.like_seat.proofs.lead.slots.put_pages.Goals as goal
use Rattle.like_seat.proofs.lead.slots.put_pages.Goals.{then-has_bit, else-has_bit}

pub loop-slot-init : goal.loop-slot-init
loop-slot-init c = record {
  board = refl;
  puts = puts-none (coord_view c.args.seat.now) c.args.pages.now c.args.bits
      (sym (ap (λ (xs : List ℕ). length xs) c.requires.held) ∙ c.requires.all);
  held = c.requires.held;
}

pub bounds-pages-slot : goal.bounds-pages-slot
bounds-pages-slot c = omega (arith, c.requires.may.len, c.loop-slot-test.true)

pub put_page-requires-clause-may : goal.put_page-requires-clause-may
put_page-requires-clause-may c =
    let l = c.loop-slot in
    may-put (coord_view c.args.seat.now) c.args.pages.now c.args.bits l.slot (coord_view l.seat)
    c.requires.may l.invariant.puts c.loop-slot-test.true (sym c.has_bit.ensures ∙ c.if-has_bit.true)

pub put_page-requires-clause-all : goal.put_page-requires-clause-all
put_page-requires-clause-all c =
    let l = c.loop-slot in
    ap (λ (xs : List ℕ). length xs) l.invariant.held ∙ l.invariant.puts.all

pub loop-slot-preserved : goal.loop-slot-preserved
loop-slot-preserved c =
    let l = c.loop-slot in
    let first = coord_view c.args.seat.now in
    elim c.if-has_bit.branch [
      | then-has_bit w ↦ record {
        board = ap coord_board w.seat-is ∙ w.put_page.ensures.board ∙ l.invariant.board;
        puts = subst (λ (s : CoordSeat). PutsFirst first c.args.pages.now c.args.bits (l.slot + 1) (coord_view s))
            (sym w.seat-is)
            (puts-more first c.args.pages.now c.args.bits l.slot (coord_view l.seat) (coord_view w.put_page.new.seat)
            l.invariant.puts w.put_page.ensures.puts c.loop-slot-test.true
            (sym c.has_bit.ensures ∙ w.if-has_bit.true));
        held = w.held-is ∙ w.put_page.ensures.held ∙ sym (ap (λ (s : CoordSeat). (coord_view s).slots) w.seat-is);
      }
      | else-has_bit w ↦ record {
        board = ap coord_board w.seat-is ∙ l.invariant.board;
        puts = subst (λ (s : CoordSeat). PutsFirst first c.args.pages.now c.args.bits (l.slot + 1) (coord_view s))
            (sym w.seat-is)
            (puts-unused first c.args.pages.now c.args.bits l.slot (coord_view l.seat) l.invariant.puts
            (sym c.has_bit.ensures ∙ w.if-has_bit.false));
        held = w.held-is ∙ l.invariant.held ∙ sym (ap (λ (s : CoordSeat). (coord_view s).slots) w.seat-is);
      }
    ]

pub returns-clause-puts : goal.returns-clause-puts
returns-clause-puts c =
    let l = c.loop-slot in
    puts-all (coord_view c.args.seat.now) c.args.pages.now c.args.bits (coord_view l.seat)
    (subst (λ n. PutsFirst (coord_view c.args.seat.now) c.args.pages.now c.args.bits n (coord_view l.seat))
    (omega (arith, l.invariant, c.loop-slot-test.false)) l.invariant.puts)
