-- That a keeper is a service's has one proof at most, so a hub can keep it.
use Rattle.std.proofs.Common.{◌≡◌, List, [], ◌∷◌, get_or, length, refl, sym, ap, ◌∙◌, arith}
use Rattle.std.specs.Coded.{Coded-set, Unit-prop, Π_prop, ×_prop, coded_list, coded_ℕ, le_prop}
use Rattle.std.specs.List.{AllZip}
use mathlib.Core.HLevel.{collapsible→set}
use mathlib.Core.Logic.{∥∥₁_elim}
use mathlib.Core.Path.{path_j}
use Rattle.told_lock.specs.Rights.{IsKeeper, first_of}
use Rattle.told_lock.specs.declared.keeper.Keeper.{Keeper}
use Rattle.told_lock.specs.declared.lock.Lock.{Lock}
use Rattle.like_live.specs.Driver.{DriverView}
use Rattle.like_live.specs.LiveView.{LiveView}
use Rattle.like_live.specs.Service.{AreItsSeats}
use Rattle.like_shared.specs.declared.deed.DriverDeed.{DriverDeed}
use Rattle.like_shared.specs.declared.deed.SeatDeed.{SeatDeed}
use Rattle.like_shared.specs.declared.hub.Hub.{Hub}
use Rattle.like_shared.specs.declared.service.ServiceKeeper.{ServiceKeeper}
use Rattle.like_shared.specs.declared.service.SharedService.{SharedService}
use Rattle.like_shared.specs.contracts.service.ServiceKeeper.{the_row}
use Rattle.like_shared.specs.Shared.{IsServiceKeeper, first_driver, first_seats}

-- service keepers are equal in one way, so what is in one is, too
keepers-set : IsSet ServiceKeeper
keepers-set = Coded-set the_row.coded

-- what can be put into a type that is equal in one way, and read again, is equal in one way
pub part-set : {A B : Type 0} → IsSet A → (put : B → A) (get : A → B) → ((b : B) → get (put b) ≡ b) → IsSet B
part-set set put get back =
    collapsible→set (λ x y p. sym (back x) ∙ ap get (ap put p) ∙ back y)
    (λ x y p q. ap (λ z. sym (back x) ∙ ap get z ∙ back y) (set (put x) (put y) (ap put p) (ap put q)))

abbrev with_seat : ServiceKeeper → Keeper LiveView SeatDeed → ServiceKeeper
with_seat k x = record k {
  seats = record {
    ptr = k.seats.ptr;
    len = 1;
    cap = 1;
    alloc = k.seats.alloc;
    items = x ∷ [];
    ok = (refl, omega arith);
    small = omega arith;
  };
}

seat-set : ServiceKeeper → Keeper LiveView SeatDeed → IsSet (Keeper LiveView SeatDeed)
seat-set k d = part-set keepers-set (with_seat k) (λ (z : ServiceKeeper). get_or z.seats.items 0 d) (λ x. refl)

driver-set : ServiceKeeper → IsSet (Keeper DriverView DriverDeed)
driver-set k =
    part-set keepers-set (λ (x : Keeper DriverView DriverDeed). record k { driver = x })
    (λ (z : ServiceKeeper). z.driver) (λ x. refl)

pub keeper-prop : {T C D : Type 0} → IsSet (Keeper T C) → (lock : Lock T C D) (k : Keeper T C) → IsProp (IsKeeper lock k)
keeper-prop {T} {C} set lock k p q = λ i. record {
  here = part-set set (λ id. record k { seat = record k.seat { table_id = id } })
      (λ (l : Keeper T C). l.seat.table_id) (λ id. refl) _ _ p.here q.here i;
  keeping = part-set set (λ m. record k { seat = record k.seat { me = m } }) (λ (l : Keeper T C). l.seat.me)
      (λ m. refl) _ _ p.keeping q.keeping i;
}

pub zip-prop : {A B : Type 0} (R : A → B → Type 0) → ((a : A) (b : B) → IsProp (R a b)) → (xs : List A) (ys : List B)
    → IsProp (AllZip R xs ys)
zip-prop R one [] [] = Unit-prop
zip-prop R one [] (y ∷ ys) = λ p. absurd p
zip-prop R one (x ∷ xs) [] = λ p. absurd p
zip-prop R one (x ∷ xs) (y ∷ ys) = ×_prop (one x y) (zip-prop R one xs ys)

whole-prop : (v : DriverView) (seats : List LiveView) → IsProp (AreItsSeats v seats)
whole-prop v seats p q = λ i. record {
  len = Coded-set coded_ℕ _ _ p.len q.len i;
  here = Π_prop (λ k. Π_prop (λ d. Π_prop (λ less. Coded-set (coded_list coded_ℕ) _ _))) p.here q.here i;
  all = Π_prop (λ k. Π_prop (λ less. Coded-set coded_ℕ _ _)) p.all q.all i;
}

-- that a list is empty has one proof
empty : {A : Type 0} (xs : List A) → length xs ≡ 0 → xs ≡ []
empty [] e = refl
empty (x ∷ xs) e = absurd (omega (arith, e))

empty-is : {A : Type 0} (xs : List A) (p : [] ≡ xs) → p ≡ sym (empty xs (ap length (sym p)))
unfolding empty
empty-is {A} xs p = path_j (λ (ys : List A) (q : [] ≡ ys). q ≡ sym (empty ys (ap length (sym q)))) refl p

empty-prop : {A : Type 0} (xs : List A) → IsProp (xs ≡ [])
unfolding empty
empty-prop [] p q = empty-is [] p ∙ sym (empty-is [] q)
empty-prop (x ∷ xs) p q = absurd (omega (arith, ap length p))

service-keeper-prop : (s : SharedService) (k : ServiceKeeper) → IsProp (IsServiceKeeper s k)
service-keeper-prop s k p q = λ i. record {
  some = le_prop p.some q.some i;
  whole = whole-prop (first_driver s) (first_seats s) p.whole q.whole i;
  seats = zip-prop IsKeeper (λ lock x. keeper-prop (seat-set k x) lock x) s.seats.items k.seats.items p.seats q.seats
      i;
  driver = keeper-prop (driver-set k) s.driver k.driver p.driver q.driver i;
  out = Π_prop (λ i. Π_prop (λ d. Π_prop (λ less. Coded-set coded_ℕ _ _))) p.out q.out i;
  none = empty-prop k.back.items p.none q.none i;
  room = le_prop p.room q.room i;
}

-- the keeper that lay at a hub's desk at first
pub kept : (h : Hub) → IsServiceKeeper h.service (first_of h.desk)
kept h = ∥∥₁_elim h.kept (service-keeper-prop h.service (first_of h.desk)) (λ is. is)
