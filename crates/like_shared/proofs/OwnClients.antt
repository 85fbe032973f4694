-- That a client is a service's has one proof at most, so who holds both can keep it.
use Rattle.std.proofs.Common.{ℕ, List, [], ◌∷◌, get_or, refl, sym, ap, ◌∙◌, arith}
use Rattle.std.specs.Coded.{Coded-set, le_prop}
use Rattle.std.specs.Bool.{MatchBool-prop}
use mathlib.Core.HLevel.{Σ_prop_path}
use Rattle.told_lock.specs.Rights.{IsHolding, IsIdle, IsKeeper}
use Rattle.told_lock.specs.contracts.keeper.Keeper.{the_row as cards_row}
use Rattle.told_lock.specs.contracts.pass.Pass.{the_row as pass_row}
use Rattle.told_lock.specs.declared.keeper.Keeper.{Keeper}
use Rattle.told_lock.specs.declared.lock.Lock.{Lock}
use Rattle.told_lock.specs.declared.pass.Pass.{Pass}
use Rattle.like_live.specs.Driver.{DriverView}
use Rattle.like_live.specs.LiveView.{LiveView}
use Rattle.like_shared.specs.declared.client.Client.{Client}
use Rattle.like_shared.specs.declared.deed.DriverDeed.{DriverDeed}
use Rattle.like_shared.specs.declared.deed.SeatDeed.{SeatDeed}
use Rattle.like_shared.specs.declared.deed.SeatDeeds.{SeatDeeds}
use Rattle.like_shared.specs.declared.desk.DeskDeed.{DeskDeed}
use Rattle.like_shared.specs.declared.hub.Hub.{Hub}
use Rattle.like_shared.specs.declared.seat_call.SeatPass.{SeatPass}
use Rattle.like_shared.specs.declared.service.ServiceKeeper.{ServiceKeeper}
use Rattle.like_shared.specs.declared.service.SharedService.{SharedService}
use Rattle.like_shared.specs.contracts.client.Client.{the_row}
use Rattle.like_shared.specs.contracts.desk.DeskDeed.{the_row as deed_row}
use Rattle.like_shared.specs.contracts.service.ServiceKeeper.{the_row as keeper_row}
use Rattle.like_shared.specs.Passes.{IsReady}
use Rattle.like_shared.specs.Shared.{IsClient}
use Rattle.like_shared.proofs.Kept.{keeper-prop, part-set, zip-prop}

-- clients are equal in one way, so what is in one is, too
clients-set : IsSet Client
clients-set = Coded-set the_row.coded

abbrev with_pass : Client → SeatPass → Client
with_pass c x = record c {
  seats = record {
    ptr = c.seats.ptr;
    len = 1;
    cap = 1;
    alloc = c.seats.alloc;
    items = x ∷ [];
    ok = (refl, omega arith);
    small = omega arith;
  };
}

seat-set : Client → SeatPass → IsSet SeatPass
seat-set c d = part-set clients-set (with_pass c) (λ (z : Client). get_or z.seats.items 0 d) (λ x. refl)

free-set : Client → SeatPass → IsSet (Pass LiveView SeatDeed)
free-set c d =
    part-set (seat-set c d) (λ (x : Pass LiveView SeatDeed). record d { pass = x }) (λ (z : SeatPass). z.pass) (λ x. refl)

driver-set : Client → IsSet (Pass DriverView DriverDeed)
driver-set c =
    part-set clients-set (λ (x : Pass DriverView DriverDeed). record c { driver = x }) (λ (z : Client). z.driver)
    (λ x. refl)

-- what a pass of a lock knows is equal in one way
module _ {T C D : Type 0} (set : IsSet (Pass T C)) (lock : Lock T C D) (p : Pass T C) where
  pub idle-prop : IsProp (IsIdle lock p)
  idle-prop a b = λ i. record {
    here = part-set set (λ id. record p { seat = record p.seat { table_id = id } })
        (λ (q : Pass T C). q.seat.table_id) (λ id. refl) _ _ a.here b.here i;
    idle = part-set set (λ m. record p { seat = record p.seat { me = m } }) (λ (q : Pass T C). q.seat.me) (λ m. refl)
        _ _ a.idle b.idle i;
  }

  holding-prop : (x y : T) → IsProp (IsHolding lock p x y)
  holding-prop x y a b = λ i. record {
    here = part-set set (λ id. record p { seat = record p.seat { table_id = id } })
        (λ (q : Pass T C). q.seat.table_id) (λ id. refl) _ _ a.here b.here i;
    holding = part-set set (λ m. record p { seat = record p.seat { me = m } }) (λ (q : Pass T C). q.seat.me)
        (λ m. refl) _ _ a.holding b.holding i;
  }

  -- it holds one value
  held-prop : IsProp ((x : T) × IsHolding lock p x x)
  held-prop a b =
      Σ_prop_path (λ x. holding-prop x x)
      (ap (λ (l : List (ℕ × T)). (get_or l 0 (0, a.0)).1) (ap (λ m. m.1) (sym a.1.holding ∙ b.1.holding)))

ready-prop : Client → (lock : Lock LiveView SeatDeed SeatDeeds) (p : SeatPass) → IsProp (IsReady lock p)
ready-prop c lock p =
    MatchBool-prop p.is_held ((v : LiveView) × IsHolding lock p.pass v v) (IsIdle lock p.pass)
    (held-prop (free-set c p) lock p.pass) (idle-prop (free-set c p) lock p.pass)

pub client-prop : (s : SharedService) (c : Client) → IsProp (IsClient s c)
client-prop s c p q = λ i. record {
  some = le_prop p.some q.some i;
  seats = zip-prop IsReady (ready-prop c) s.seats.items c.seats.items p.seats q.seats i;
  driver = idle-prop (driver-set c) s.driver c.driver p.driver q.driver i;
}

-- so has that a card is a hub's
pub card-prop : (h : Hub) (card : Pass ServiceKeeper DeskDeed) → IsProp (IsIdle h.desk card)
card-prop h card = idle-prop (Coded-set (pass_row keeper_row deed_row).coded) h.desk card

-- and that the right to make cards is
pub cards-prop : (h : Hub) (cards : Keeper ServiceKeeper DeskDeed) → IsProp (IsKeeper h.desk cards)
cards-prop h cards = keeper-prop (Coded-set (cards_row keeper_row deed_row).coded) h.desk cards
