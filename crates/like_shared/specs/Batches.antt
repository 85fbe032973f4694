-- A batch of rows is a list of calls.
use Rattle.std.specs.Prelude.{◌≡◌, ℕ, ◌+◌, ◌≤◌, List, [], ◌∷◌, ◌++◌, flat_map, take, Result, Ok, Err}
use Rattle.like_live.specs.{Batch.RunCase, History.HasDone, History.Told, LiveView.LiveView, Types.Answer, Types.Call}
use Rattle.like_shared.specs.{Deeds.calls_of, Rows.IsAnswerTo, Rows.deeds_of_call}

-- a row asked for this call, and was told its answer; or it asked for none
pub data IsToldOne {R T : Type 0} (asks : R → Result Call T) (tells : Answer → T) (row : R) (told : T) (one : List Told)
    : Type 0 where
  told_one : (c : Call) (a : Answer) → asks row ≡ Ok c → IsAnswerTo c a → told ≡ tells a
      → one ≡ flat_map calls_of (deeds_of_call c a) → IsToldOne asks tells row told one
  told_none : asks row ≡ Err told → one ≡ [] → IsToldOne asks tells row told one

-- these rows asked for these calls, one after the other, and were told their answers
abbrev pub AreTold : {R T : Type 0} → (R → Result Call T) → (Answer → T) → List R → List T → List Told → Type 0
AreTold asks tells [] [] told = told ≡ []
AreTold asks tells (row ∷ rows) (x ∷ answers) told =
    (one : List Told) × (rest : List Told) × (told ≡ one ++ rest) × IsToldOne asks tells row x one
    × AreTold asks tells rows answers rest
AreTold asks tells rows answers told = ⊥

-- the law of batches: a batch is a list of calls, with the answers that its rows were told. Those that were done are in
-- it, and maybe one more, which must be made again
abbrev pub BatchesAreCalls : {R T : Type 0} → (R → Result Call T) → (Answer → T) → Type 0
BatchesAreCalls {R} {T} asks tells =
    (v after : LiveView) (rows : List R) (answers : List T) (done : ℕ) → RunCase asks tells v rows answers done after
    → (many : ℕ) × (told : List Told) × HasDone v told after
    × AreTold asks tells (take many rows) (take many answers) told × (done ≤ many) × (many ≤ done + 1)
