-- What a step that may be made leads to.
use Rattle.std.proofs.Common.{◌≡◌, ℕ, List, [], ◌∷◌, slice_index, slice_set, refl, sym, ◌∙◌, ap, subst}
use Rattle.std.specs.Prelude.{⊤}
use Rattle.atomic_table.specs.Table.{Act, keeps, takes, gives, chain, Me, State, homes_after, carried_after}
use Rattle.own_table.specs.Standing.{CanStep, state}

-- where there are no slots, none is at home after an act
no_homes : {S : Type 0} (c : List (ℕ × S)) (a : Act S) → homes_after [] c a ≡ []
no_homes c keeps = refl
no_homes c (takes k y) = refl
no_homes [] gives = refl
no_homes (x ∷ xs) gives = refl
no_homes c (chain a b) =
    ap (λ hs. homes_after hs (carried_after c a) b) (no_homes c a) ∙ no_homes (carried_after c a) b

-- what the seat then knows, the rule after the step, and what the step tells
pub steps : {V : Type 0} (holds : State ⊤ V → Type 0) (words : List ℕ) (views : List V) (id : ℕ) (me : Me ⊤ V)
    (word new : ℕ) (then : ℕ → Me ⊤ V → Type 0)
    → CanStep holds words views id me word new then
    → holds (state words views)
    → (m : Me ⊤ V) × holds (state (slice_set words word new) (slice_set views id m.0)) × then (slice_index words word) m
steps holds words views id me word new then can held =
    let r = can.allowed (state words views) held refl can.here can.fits in (
      (r.0, carried_after me.1 r.1),
      subst (λ n. holds (state (slice_set words word n) (slice_set views id r.0))) (sym can.becomes)
          (subst (λ hs. holds (record {
            words = slice_set words word (can.change (slice_index words word));
            homes = hs;
            views = slice_set views id r.0;
          })) (no_homes me.1 r.1) r.3),
      r.4,
    )
