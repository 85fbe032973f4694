-- A pass, after a write to the value that it holds.
use Rattle.atomic_table.specs.Lent.{seat_with}
use Rattle.told_lock.specs.declared.pass.Pass.{Pass}

-- the pass, with this value in place of what it holds
abbrev pub pass_with : {T C : Type 0} → Pass T C → T → Pass T C
pass_with p y = record p { seat = seat_with p.seat 0 y }
