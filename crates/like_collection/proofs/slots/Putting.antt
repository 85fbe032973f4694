-- What a put does: the answer of an entry stands at its place, or there is no such place that is empty.
use Rattle.std.specs.Prelude.{◌≡◌, ◌≢◌, ℕ, ◌-◌, List, [], Option, Some, None, slice_index_or, slice_set}
use Rattle.like_promises.specs.declared.answer.Answer.{Answer}
use Rattle.like_promises.specs.declared.log.Ran.{Ran}
use Rattle.like_promises.specs.Collected.{answer_of}
use Rattle.like_collection.specs.declared.collect_fault.CollectFault.{CollectFault}
use Rattle.like_collection.specs.declared.collect_fault.CollectFault.TheVariants.{Stranger, Double, Missing, Memory}
use Rattle.like_collection.specs.Slots.{IsSlot, slot_at}

-- an answer at the place of a request
abbrev pub with_answer : List (List (Option Answer)) → ℕ → ℕ → Answer → List (List (Option Answer))
with_answer slots submitter number answer =
    slice_set slots submitter (slice_set (slice_index_or slots submitter []) (number - 1) (Some answer))

-- the answer of an entry is put at its place, which was empty
pub record Puts (old : List (List (Option Answer))) (e : Ran) (new : List (List (Option Answer))) : Type 0 where
  pub slot : IsSlot old e.submitter e.number
  pub empty : slot_at old e.submitter e.number ≡ None
  pub is : new ≡ with_answer old e.submitter e.number (answer_of e)

-- an entry has no place, or its place is not empty
abbrev pub RefusesEntry : List (List (Option Answer)) → Ran → CollectFault → Type 0
RefusesEntry slots e (Stranger submitter number) =
    (submitter ≡ e.submitter) × (number ≡ e.number) × ¬ IsSlot slots e.submitter e.number
RefusesEntry slots e (Double submitter number) =
    (submitter ≡ e.submitter) × (number ≡ e.number) × IsSlot slots e.submitter e.number
    × (slot_at slots e.submitter e.number ≢ None)
RefusesEntry slots e (Missing submitter number) = ⊥
RefusesEntry slots e Memory = ⊥
