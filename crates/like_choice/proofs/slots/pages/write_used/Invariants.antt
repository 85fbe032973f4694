use Rattle.std.proofs.Common.{◌≡◌, ◌≤◌, length, take, drop}
use Rattle.like_choice.specs.Slots.{pages_below}
use Rattle.like_choice.proofs.slots.pages.write_used.Given as goal

abbrev pub invariant-loop-slot : goal.invariant-loop-slot
invariant-loop-slot l = record {
  len : length l.pages ≡ length l.initial.pages;
  few : l.many ≤ length l.initial.pages;
  pages : take l.many l.pages ≡ take (length l.initial.pages) (pages_below l.slots l.bits l.slot);
  rest : drop l.many l.pages ≡ drop l.many l.initial.pages;
}
