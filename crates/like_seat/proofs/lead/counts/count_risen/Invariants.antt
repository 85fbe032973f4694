use Rattle.std.proofs.Common.{◌≡◌, ◌≤◌, ℕ, length, take, get_or}
use Rattle.like_board.specs.Led.{led}
use Rattle.like_core.specs.Functions.{mask}
use Rattle.like_seat.specs.Lead.{counted_from, has_risen}
use Rattle.like_seat.proofs.lead.counts.count_risen.Given as goal

abbrev pub invariant-loop-page : goal.invariant-loop-page
invariant-loop-page g l =
    let knows = g.S.LeadSeat.view in
    let tells = g.S.LeadsAt.tells in
    record {
      board : g.S.LeadSeat.board l.seat ≡ g.S.LeadSeat.board l.initial.seat;
      view : knows l.seat ≡ counted_from (knows l.initial.seat) 0 (take l.page l.counts);
      len : length l.counts ≡ length l.initial.counts;
      rest : (k : ℕ) → l.page ≤ k → get_or l.counts k 0 ≡ get_or l.initial.counts k 0;
      risen : l.mask ≡ mask (has_risen l.least l.initial.counts l.counts) l.page;
      led : tells l.board ≡ led (tells l.initial.board) (knows l.seat);
    }
