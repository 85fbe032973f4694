-- Calls, one after the other, leave the same driver and the same seat.
use Rattle.std.proofs.Common.{◌<◌, refl, sym, ◌∙◌, subst}
use Rattle.like_live.specs.Driver.{DriverView, IsSameDriver}
use Rattle.like_live.proofs.Moving.{same_seat, same_seat_both}
use Rattle.like_shared.specs.Staying.{SameStays}

pub same-driver : (v : DriverView) → IsSameDriver v v
same-driver v = record { board = refl; opening = refl; marked = record { marks = refl; slots = λ slot less. refl } }

-- the same driver, twice
pub same-drivers : (u v w : DriverView) → IsSameDriver u v → IsSameDriver v w → IsSameDriver u w
same-drivers u v w p q = record {
  board = q.board ∙ p.board;
  opening = q.opening ∙ p.opening;
  marked = record {
    marks = q.marked.marks ∙ p.marked.marks;
    slots = λ slot less.
        q.marked.slots slot (subst (λ n. slot < n) (sym p.marked.marks) less) ∙ p.marked.slots slot less;
  };
}

pub same-stays : SameStays
same-stays = record {
  driver_first = same-driver;
  driver_then = same-drivers;
  seat_first = same_seat;
  seat_then = same_seat_both;
}
