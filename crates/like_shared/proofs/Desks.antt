-- Whatever is done at the desk of a service, its keeper stays its keeper.
use Rattle.std.proofs.Common.{◌≡◌, ℕ, List, [], ◌∷◌, get_or, sym, ap, ◌∙◌, subst, arith}
use Rattle.std.specs.List.{AllZip}
use Rattle.std.proofs.lemmas.Slice.Zip.{AllZip-long}
use Rattle.told_lock.specs.Deeds.{HasRun}
use Rattle.told_lock.specs.Lending.{pass_with}
use Rattle.told_lock.specs.Rights.{IsHolding, IsKeeper}
use Rattle.told_lock.specs.declared.keeper.Keeper.{Keeper}
use Rattle.told_lock.specs.declared.lock.Lock.{Lock}
use Rattle.told_lock.specs.declared.pass.Pass.{Pass}
use Rattle.told_lock.proofs.Keepers.{one-lock}
use Rattle.like_live.specs.LiveView.{LiveView}
use Rattle.like_shared.specs.declared.deed.SeatDeed.{SeatDeed}
use Rattle.like_shared.specs.declared.deed.SeatDeeds.{SeatDeeds}
use Rattle.like_shared.specs.declared.desk.DeskDeed.{DeskDeed}
use Rattle.like_shared.specs.declared.service.ServiceKeeper.{ServiceKeeper}
use Rattle.like_shared.specs.declared.service.SharedService.{SharedService}
use Rattle.like_shared.specs.Desk.{DeskDoes}
use Rattle.like_shared.specs.Shared.{IsServiceKeeper}

-- keepers have one list of locks
one-list : (locks others : List (Lock LiveView SeatDeed SeatDeeds)) (before after : List (Keeper LiveView SeatDeed))
    → AllZip IsKeeper locks before → AllZip IsKeeper others before → AllZip IsKeeper others after
    → AllZip IsKeeper locks after
one-list [] [] [] [] this that zip = tt
one-list [] [] [] (l ∷ after) this that zip = zip
one-list [] (o ∷ others) [] after this that zip = absurd that
one-list [] others (k ∷ before) after this that zip = absurd this
one-list (a ∷ locks) others [] after this that zip = absurd this
one-list (a ∷ locks) [] (k ∷ before) after this that zip = absurd that
one-list (a ∷ locks) (o ∷ others) (k ∷ before) [] this that zip = absurd zip
one-list (a ∷ locks) (o ∷ others) (k ∷ before) (l ∷ after) this that zip =
    (one-lock a o k l this.0 that.0 zip.0, one-list locks others before after this.1 that.1 zip.1)

-- it has one service
one-service : (s other : SharedService) (k l : ServiceKeeper) → IsServiceKeeper s k → IsServiceKeeper other k
    → IsServiceKeeper other l → IsServiceKeeper s l
one-service s other k l this that after =
    let one = AllZip-long IsKeeper s.seats.items k.seats.items this.seats in
    let two = AllZip-long IsKeeper other.seats.items k.seats.items that.seats in
    record {
      some = this.some;
      whole = this.whole;
      seats = one-list s.seats.items other.seats.items k.seats.items l.seats.items this.seats that.seats after.seats;
      driver = one-lock s.driver other.driver k.driver l.driver this.driver that.driver after.driver;
      out = after.out;
      none = after.none;
      room = omega (arith, one, two, after.room);
    }

pub stays-kept : (s : SharedService) (k l : ServiceKeeper) (ds : List DeskDeed) → IsServiceKeeper s k
    → HasRun DeskDoes k ds l → IsServiceKeeper s l
stays-kept s k l [] is run = subst (IsServiceKeeper s) (sym run) is
stays-kept s k l (d ∷ ds) is run =
    let step = run.1 in
    stays-kept s run.0 l ds (one-service s step.0 k run.0 is step.1 step.2) run.2

-- what a pass has is one value
pub as-held : {T C D : Type 0} (lock : Lock T C D) (p : Pass T C) (x y z w : T) → IsHolding lock p x y
    → IsHolding lock p z w → y ≡ w
as-held {T} lock p x y z w this that =
    ap (λ (l : List (ℕ × T)). (get_or l 0 (0, y)).1) (ap (λ m. m.1) (sym this.holding ∙ that.holding))

-- and has another once it is written
pub as-written : {T C D : Type 0} (lock : Lock T C D) (p : Pass T C) (z w : T) → IsHolding lock p z z
    → IsHolding lock (pass_with p w) z w
as-written lock p z w is = record {
  here = is.here;
  holding = λ i. (pass_with (record p { seat = record p.seat { me = is.holding i } }) w).seat.me;
}
