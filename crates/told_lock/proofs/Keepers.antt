-- The keeper of a lock, at a desk.
use Rattle.std.proofs.Common.{◌≡◌, List, [], ◌∷◌, sym, ap, ◌∙◌, subst}
use Rattle.told_lock.specs.declared.keeper.Keeper.{Keeper}
use Rattle.told_lock.specs.declared.known.Known.TheVariants.{Keeper as Keeps}
use Rattle.told_lock.specs.declared.lock.Lock.{Lock}
use Rattle.told_lock.specs.Deeds.{HasRun}
use Rattle.told_lock.specs.Rights.{IsKeeper, first_of, made_of, seens_of, told_of}

-- before and after, it is the keeper of one lock
abbrev pub Stays : {T C E : Type 0} (D : Type 0) → Keeper T C → E → Keeper T C → Type 0
Stays {T} {C} D k e l = (lock : Lock T C D) × IsKeeper lock k × IsKeeper lock l

module _ {T C D : Type 0} where
  -- what it knows
  pub kept : (lock : Lock T C D) (k : Keeper T C) → IsKeeper lock k
      → k.seat.me.0 ≡ Keeps (first_of lock) (made_of k) k.out (told_of k) (seens_of k)
  kept lock k is = ap (λ m. m.0) is.keeping

  -- it has one lock
  pub one-lock : (lock other : Lock T C D) (k l : Keeper T C) → IsKeeper lock k → IsKeeper other k → IsKeeper other l
      → IsKeeper lock l
  one-lock lock other k l this that after =
      let first : first_of other ≡ first_of lock = cc (sym (ap (λ m. m.0) that.keeping) ∙ ap (λ m. m.0) this.keeping) in
      record {
        here = after.here ∙ sym that.here ∙ this.here;
        keeping = after.keeping ∙ (λ i. (Keeps (first i) (made_of l) l.out (told_of l) (seens_of l), []));
      }

  -- whatever was done at the desk, it is still the lock's
  pub stays : {E : Type 0} (lock : Lock T C D) (k l : Keeper T C) (es : List E) → IsKeeper lock k
      → HasRun (Stays D) k es l → IsKeeper lock l
  stays lock k l [] is run = subst (IsKeeper lock) (sym run) is
  stays lock k l (e ∷ es) is run =
      let step = run.1 in stays lock run.0 l es (one-lock lock step.0 k run.0 is step.1 step.2) run.2
