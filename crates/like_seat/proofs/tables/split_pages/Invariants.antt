use Rattle.like_seat.specs.Kept.{IsFilled, is_split_in_run}
use Rattle.like_seat.proofs.tables.split_pages.Given as goal

abbrev pub invariant-loop-page : goal.invariant-loop-page
invariant-loop-page g l = IsFilled l.initial.slice l.page (is_split_in_run l.marks l.mask) l.slice
