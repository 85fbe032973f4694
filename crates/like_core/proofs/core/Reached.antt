-- The start is reachable, and so is what permitted events make of a reachable state.
use Rattle.std.proofs.Common.{List, [], ◌∷◌, ◌++◌, subst, ap, sym, ◌∙◌, refl, fold}
use Rattle.std.proofs.lemmas.List.Sums.{fold-append}
use Rattle.like_core.specs.declared.event.Event.{Event}
use Rattle.like_core.specs.declared.opening.Opening.{Opening}
use Rattle.like_core.specs.core.Table.{Permits}
use Rattle.like_core.specs.core.State.{CoreState, start, after, numbers}
use Rattle.like_core.specs.core.Reachable.{Reachable, PermitsAll}
use Rattle.like_core.specs.Functions.{MayAll}

-- two lists of steps may be made one after the other
pub MayAll-append : {S E : Type 0} (next : S → E → S) (May : S → E → Type 0) (s : S) (first more : List E)
    → MayAll next May s first
    → MayAll next May (fold next s first) more
    → MayAll next May s (first ++ more)
MayAll-append next May s [] more may then_may = then_may
MayAll-append next May s (step ∷ first) more may then_may =
    (may.0, MayAll-append next May (next s step) first more may.1 then_may)

-- the start can be reached
pub start_reached : (z : Opening) → Reachable z (start z)
start_reached z = record { events = []; permitted = tt; reached = refl }

-- after permitted events more, the state can be reached too
pub goes_on : (z : Opening) (s : CoreState) (more : List Event)
    → Reachable z s
    → PermitsAll z s more
    → Reachable z (fold (after z) s more)
goes_on z s more r may = record {
  events = r.events ++ more;
  permitted =
      MayAll-append (after z) (λ (t : CoreState). Permits (numbers z t)) (start z) r.events more r.permitted
      (subst (λ (t : CoreState). PermitsAll z t more) (sym r.reached) may);
  reached = fold-append (after z) (start z) r.events more ∙ ap (λ (t : CoreState). fold (after z) t more) r.reached;
}

-- after one permitted event more, the state can be reached too
pub goes_on_by : (z : Opening) (s : CoreState) (event : Event)
    → Reachable z s
    → Permits (numbers z s) event
    → Reachable z (after z s event)
goes_on_by z s event r may = goes_on z s (event ∷ []) r (may, tt)
