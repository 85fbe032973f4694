-- Who may do what at a lock.
use Rattle.std.specs.Prelude.{◌≡◌, ℕ, List, [], ◌∷◌, ◌++◌, None, Some}
use Rattle.told_lock.specs.Deeds.{Named, deeds_by, named}
use Rattle.told_lock.specs.Known.{made_in, name_in, seen_back, seen_in, told_in}
use Rattle.told_lock.specs.declared.known.Known.TheVariants.{Keeper as Keeps, Pass as Out}
use Rattle.told_lock.specs.declared.{keeper.Keeper.Keeper, lock.Lock.Lock, pass.Pass.Pass}

-- the value that the lock was made with
abbrev pub first_of : {T C : Type 0} {D : _} → Lock T C D → T
first_of lock = lock.table.shared.key.value

-- the pass's name, which no other pass of its lock has
abbrev pub name_of : {T C : Type 0} → Pass T C → ℕ
name_of p = name_in p.seat.me.0

-- the order of all deeds up to its last step
abbrev pub seen_of : {T C : Type 0} → Pass T C → Named C
seen_of p = seen_in p.seat.me.0

-- all deeds that were done with it
abbrev pub log_of : {T C : Type 0} → Pass T C → List C
log_of p = deeds_by (name_of p) (seen_of p)

-- what a pass sees next: what others did meanwhile, and then these deeds of its own
abbrev pub SeesNext : {T C : Type 0} → Pass T C → List C → Pass T C → Type 0
SeesNext p done q = (others : Named _) × (seen_of q ≡ seen_of p ++ others ++ named (name_of p) done)

-- how many passes the keeper has made
abbrev pub made_of : {T C : Type 0} → Keeper T C → ℕ
made_of k = made_in k.seat.me.0

-- the deeds of those that are back
abbrev pub told_of : {T C : Type 0} → Keeper T C → Named C
told_of k = told_in k.seat.me.0

-- the order, as each of them has seen it
abbrev pub seens_of : {T C : Type 0} → Keeper T C → List (Named C)
seens_of k = seen_back k.seat.me.0

-- a pass of this lock that doesn't have it
pub record IsIdle {T C : Type 0} {D : _} (lock : Lock T C D) (p : Pass T C) : Type 0 where
  pub here : p.seat.table_id ≡ lock.table.shared.table_id
  pub idle : p.seat.me ≡ (Out (first_of lock) (name_of p) (seen_of p) None, [])

-- a pass of this lock that has it: the value was x when it was taken, and is y now
pub record IsHolding {T C : Type 0} {D : _} (lock : Lock T C D) (p : Pass T C) (x y : T) : Type 0 where
  pub here : p.seat.table_id ≡ lock.table.shared.table_id
  pub holding : p.seat.me ≡ (Out (first_of lock) (name_of p) (seen_of p) (Some x), (0, y) ∷ [])

-- the keeper of this lock
pub record IsKeeper {T C : Type 0} {D : _} (lock : Lock T C D) (k : Keeper T C) : Type 0 where
  pub here : k.seat.table_id ≡ lock.table.shared.table_id
  pub keeping : k.seat.me ≡ (Keeps (first_of lock) (made_of k) k.out (told_of k) (seens_of k), [])
