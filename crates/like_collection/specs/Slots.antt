-- How answers are gathered: a place for each request, empty or with its answer.
use Rattle.std.specs.Prelude.{◌≡◌, ℕ, zero, suc, ◌+◌, ◌<◌, ◌≤◌, All, Bool, if◌then◌else◌, List, [], length, map, slice_index_or, Option, Some, None, ⊤, zip, option_to_list}
use Rattle.like_promises.specs.{Collected.answer_of, Collected.entries_of, Types.Answer, Types.Ran}
use Rattle.like_collection.specs.declared.collect_fault.CollectFault.TheVariants.{Memory, Missing}
use Rattle.like_collection.specs.{Entries.IsLeast, Entries.IsRequest, declared.collect_fault.CollectFault.CollectFault}

-- the answers at places: those that are marked
abbrev pub answers_there : List Bool → List Answer → List (Option Answer)
answers_there there answers = map (λ p. if p.0 then Some p.1 else None) (zip there answers)

-- what is at the place of a request, if there is such a place
abbrev pub slot_at : List (List (Option Answer)) → ℕ → ℕ → Option Answer
slot_at slots submitter zero = None
slot_at slots submitter (suc place) = slice_index_or (slice_index_or slots submitter []) place None

-- there is a place for this request
pub record IsSlot (slots : List (List (Option Answer))) (submitter number : ℕ) : Type 0 where
  pub there : submitter < length slots
  pub from_one : 1 ≤ number
  pub within : number ≤ length (slice_index_or slots submitter [])

-- the places hold the answers of these entries, one at most for each request, and nothing else
pub record HoldsAll (sizes : List ℕ) (entries : List Ran) (slots : List (List (Option Answer))) : Type 0 where
  pub sized : map length slots ≡ sizes
  pub known : All (λ e. IsRequest sizes e.submitter e.number) entries
  pub each : (submitter number : ℕ)
      → map answer_of (entries_of submitter number entries) ≡ option_to_list (slot_at slots submitter number)

-- why the places of the submitters from this one on do not give all answers
abbrev pub IsSlotsFault : ℕ → List (List (Option Answer)) → CollectFault → Type 0
IsSlotsFault from slots (Missing submitter number) =
    (row : ℕ) × (submitter ≡ from + row) × IsLeast (IsSlot slots) (λ s m. slot_at slots s m ≡ None) row number
IsSlotsFault from slots Memory = ⊤
IsSlotsFault from slots fault = ⊥
