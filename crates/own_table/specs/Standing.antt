-- A table that one thread owns, between its steps.
use Rattle.std.specs.Prelude.{◌≡◌, ℕ, ◌<◌, ◌^◌, List, [], ⊤, slice_index}
use Rattle.atomic_table.specs.Table.{Allows, Me, State}
use base.Fml.{Fml, fex, ftrue}
use lib.ListN.{get_elem?}
use mathlib.Core.Option.{some}

-- a table without slots that has these words and these views
abbrev pub state : {S V : Type 0} → List ℕ → List V → State S V
state words views = record { words = words; homes = []; views = views }

-- it is known that this is so
abbrev pub stands : Type 0 → Fml
stands φ = fex φ (λ _. ftrue)

-- a seat may change a word to this number: it is as the views say, and the rule allows the change
pub record CanStep {V : Type 0} (holds : State ⊤ V → Type 0) (words : List ℕ) (views : List V) (id : ℕ) (me : Me ⊤ V)
    (word new : ℕ) (then : ℕ → Me ⊤ V → Type 0) : Type 0 where
  pub here : get_elem? views id ≡ some me.0
  pub fits : slice_index words word < 2 ^ 64
  pub change : ℕ → ℕ
  pub becomes : new ≡ change (slice_index words word)
  pub allowed : Allows holds 0 id me word change then
