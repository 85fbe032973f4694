-- The rule of a lock, which each step keeps.
use Rattle.std.specs.Prelude.{◌≡◌, ◌≢◌, ℕ, ◌+◌, ◌<◌, ◌==◌, if◌then◌else◌, All, List, [], length, slice_index, slice_index_or, sum_by, Option, None, Some}
use Rattle.atomic_table.specs.Table.{State}
use lib.ListN.{get_elem?}
use mathlib.Core.Option.{some}
use Rattle.told_lock.specs.Deeds.{Continues, ContinuesWithout, HasRun, Named, deeds_by, deeds_in}
use Rattle.told_lock.specs.declared.known.Known.{Known, TheVariants.Back, TheVariants.Keeper, TheVariants.Pass}

-- the place of the word that says whether somebody has the lock
abbrev pub lock_word : ℕ
lock_word = 16

-- the word, by the holder's name: 0 if nobody has the lock (no pass is named so), and else 1
abbrev pub word_for : ℕ → ℕ
word_for holder = if holder == 0 then 0 else 1

-- how many passes are out at a seat: 1 or 0
abbrev pub outs : {T C : Type 0} → Known T C → ℕ
outs (Pass first name seen taken) = 1
outs v = 0

-- what the pass of this name has taken: the value, if it is the holder
abbrev pub taken_by : {T : Type 0} → ℕ → T → ℕ → Option T
taken_by holder now name = if holder == name then Some now else None

-- the view at a seat. Passes that are not made yet have done nothing
abbrev pub view_at : {T C : Type 0} → T → List (Known T C) → ℕ → Known T C
view_at first views name = slice_index_or views name (Pass first name [] None)

-- what the seat of this name knows is so, by the value at first and now, all deeds so far, what the keeper was told, and
-- the holder's name (0: nobody). The holder has seen all deeds
abbrev pub Knows : {T C : Type 0} → T → T → Named C → Named C → ℕ → ℕ → Known T C → Type 0
Knows first now order told holder name (Keeper f made out t seen) =
    (name ≡ 0) × (t ≡ told) × (deeds_by 0 order ≡ []) × (deeds_by 0 told ≡ []) × All (λ s. Continues s order) seen
Knows first now order told holder name (Pass f n seen taken) =
    (name ≢ 0) × (f ≡ first) × (n ≡ name) × ContinuesWithout name seen order × (taken ≡ taken_by holder now name)
    × (deeds_by name told ≡ []) × (holder ≡ name → order ≡ seen)
Knows first now order told holder name Back =
    (name ≢ 0) × (deeds_by name order ≡ deeds_by name told) × (holder ≢ name)

-- the rule of a lock: one order of all deeds so far leads from the first value to this one; it continues what each pass
-- has seen, and each that is out has seen its own deeds; the keeper knows those of the passes that are back; the value is
-- at home unless one pass has taken it
pub record IsLocked {T C : Type 0} (does : T → C → T → Type 0) (first : T) (s : State T (Known T C)) :
    Type 0 where
  pub order : Named C
  pub now : T
  pub run : HasRun does first (deeds_in order) now
  pub made : ℕ
  pub out : ℕ
  pub told : Named C
  pub seens : List (Named C)
  pub keeper : get_elem? s.views 0 ≡ some (Keeper first made out told seens)
  pub all : length s.views ≡ made + 1
  pub are_out : sum_by outs s.views ≡ out
  pub holder : ℕ
  pub views : (name : ℕ) → Knows first now order told holder name (view_at first s.views name)
  pub word : slice_index s.words lock_word ≡ word_for holder
  pub sized : lock_word < length s.words
  pub home : holder ≡ 0 → get_elem? s.homes 0 ≡ some (some now)

-- the law of time: who has the lock has seen all that any pass has seen
abbrev pub HoldersSeeAll : {T C : Type 0} → (T → C → T → Type 0) → Type 0
HoldersSeeAll {T} {C} does =
    (first f g x : T) (s : State T (Known T C)) (i j n m : ℕ) (seen other : Named C) (taken : Option T)
    → IsLocked does first s
    → get_elem? s.views i ≡ some (Pass f n seen (Some x))
    → get_elem? s.views j ≡ some (Pass g m other taken)
    → Continues other seen
