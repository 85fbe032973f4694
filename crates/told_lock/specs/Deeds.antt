-- Deeds of several passes, and the one order in which they were done.
use Rattle.std.specs.Prelude.{◌≡◌, ◌==◌, ℕ, All, List, [], ◌∷◌, ◌++◌, filter, map, sum_by}

-- deeds that were done one after the other lead from a value to another
abbrev pub HasRun : {T C : Type 0} → (T → C → T → Type 0) → T → List C → T → Type 0
HasRun does x [] y = y ≡ x
HasRun does x (c ∷ cs) y = (z : _) × does x c z × HasRun does z cs y

-- deeds, each with the name of the pass that did it
abbrev pub Named : Type 0 → Type 0
Named C = List (ℕ × C)

-- the deeds of one log
abbrev pub named : {C : Type 0} → ℕ → List C → Named C
named name log = map (λ c. (name, c)) log

-- the deeds, without names
abbrev pub deeds_in : {C : Type 0} → Named C → List C
deeds_in es = map (λ e. e.1) es

-- the deeds of one pass
abbrev pub deeds_by : {C : Type 0} → ℕ → Named C → List C
deeds_by name es = deeds_in (filter (λ e. e.0 == name) es)

-- a later order continues an earlier one
abbrev pub Continues : {C : Type 0} → (before after : Named C) → Type 0
Continues before after = (more : _) × (after ≡ before ++ more)

-- it does, and what came behind has no deed of this pass
abbrev pub ContinuesWithout : {C : Type 0} → ℕ → (before after : Named C) → Type 0
ContinuesWithout name before after = (more : _) × (after ≡ before ++ more) × (deeds_by name more ≡ [])

-- what the passes told leads from the first value to the last: one order of all deeds does, in which each pass's deeds
-- are those that it told, in its order. It continues the order as each of them has seen it
pub record Leads {T C : Type 0} (does : T → C → T → Type 0) (first : T) (told : Named C) (seen : List (Named C))
    (last : T) : Type 0 where
  pub order : Named C
  pub own : (name : ℕ) → deeds_by name order ≡ deeds_by name told
  pub run : HasRun does first (deeds_in order) last
  pub continues : All (λ s. Continues s order) seen

-- the law of weights: all deeds of the one order weigh as much as all that passes told
abbrev pub LogsWeighAll : {T C : Type 0} → (T → C → T → Type 0) → Type 0
LogsWeighAll {T} {C} does =
    (first last : T) (told : Named C) (seen : List (Named C)) (weight : C → ℕ) (leads : Leads does first told seen last)
    → sum_by weight (deeds_in leads.order) ≡ sum_by weight (deeds_in told)
