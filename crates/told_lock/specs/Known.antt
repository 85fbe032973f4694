-- What passes and the keeper know, and what a step makes of it.
use Rattle.std.specs.Prelude.{◌≡◌, ℕ, ◌+◌, ◌-◌, List, [], ◌∷◌, ◌++◌, None, Some, ⊤}
use Rattle.atomic_table.specs.Table.{Me}
use Rattle.told_lock.specs.Deeds.{ContinuesWithout, HasRun, Named, deeds_by, deeds_in, named}
use Rattle.told_lock.specs.declared.known.Known.{Known, TheVariants.Back, TheVariants.Keeper, TheVariants.Pass}

-- a pass's name, and the order of deeds up to its last step
abbrev pub name_in : {T C : Type 0} → Known T C → ℕ
name_in (Pass first name seen taken) = name
name_in v = 0

abbrev pub seen_in : {T C : Type 0} → Known T C → Named C
seen_in (Pass first name seen taken) = seen
seen_in v = []

-- how many passes the keeper has made, what those told that are back, and the order as each of them has seen it
abbrev pub made_in : {T C : Type 0} → Known T C → ℕ
made_in (Keeper first made out told seen) = made
made_in v = 0

abbrev pub told_in : {T C : Type 0} → Known T C → Named C
told_in (Keeper first made out told seen) = told
told_in v = []

abbrev pub seen_back : {T C : Type 0} → Known T C → List (Named C)
seen_back (Keeper first made out told seen) = seen
seen_back v = []

-- a pass takes the lock, and with it the value. It sees all that others did meanwhile: all deeds have led to the value
abbrev pub Takes : {T C : Type 0} → (T → C → T → Type 0) → Known T C → Me T (Known T C) → Type 0
Takes {T} {C} does (Pass first name seen taken) after =
    (x : T) × (now : Named C) × (after ≡ (Pass first name now (Some x), (0, x) ∷ [])) × ContinuesWithout name seen now
    × HasRun does first (deeds_in now) x
Takes does v after = ⊤

-- it gives the lock back, after these deeds
abbrev pub given_back : {T C : Type 0} → Known T C → List C → Known T C
given_back (Pass first name seen taken) done = Pass first name (seen ++ named name done) None
given_back v done = v

-- it keeps the lock, after these deeds: from now on it has the value as it is now
abbrev pub noted : {T C : Type 0} → Known T C → List (ℕ × T) → List C → Known T C
noted (Pass first name seen taken) ((slot, now) ∷ carried) done = Pass first name (seen ++ named name done) (Some now)
noted v carried done = v

-- the keeper makes a pass
abbrev pub made_one : {T C : Type 0} → Known T C → Known T C
made_one (Keeper first made out told seen) = Keeper first (made + 1) (out + 1) told seen
made_one v = v

abbrev pub new_pass : {T C : Type 0} → Known T C → Known T C
new_pass (Keeper first made out told seen) = Pass first (made + 1) [] None
new_pass v = Back

-- it takes a pass back, with its log and the order as that has seen it
abbrev pub took_back : {T C : Type 0} → Known T C → Known T C → Known T C
took_back (Keeper first made out told seen) w =
    Keeper first made (out - 1) (told ++ named (name_in w) (deeds_by (name_in w) (seen_in w))) (seen ++ seen_in w ∷ [])
took_back v w = v
