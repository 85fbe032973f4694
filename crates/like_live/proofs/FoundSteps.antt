-- The steps of looks that are found.
use Rattle.std.proofs.Common.{◌≡◌, ℕ, List, [], ◌∷◌, ◌++◌, All, map, refl}
use Rattle.std.proofs.lemmas.List.Elements.{All-cons, All-nil}
use Rattle.like_core.specs.declared.page_step.PageStep.{PageStep}
use Rattle.like_core.specs.PageSteps.{additions_among, then_steps}
use Rattle.like_core.proofs.Steps.{then-behind}
use Rattle.like_live.specs.declared.asked.Found.{Found}
use Rattle.like_live.specs.Moves.{step_for}

-- found looks add nothing
pub found-additions : (worker : ℕ) (before : List PageStep) (found : List Found)
    → additions_among (then_steps before (map (step_for worker) found)) ≡ additions_among before
found-additions worker before [] = refl
found-additions worker before (f ∷ found) = found-additions worker (step_for worker f ∷ before) found

-- a step that was made for a found look, among these
abbrev pub IsAmong : ℕ → List PageStep → Found → Type 0
IsAmong worker did f = (later : List PageStep) × (earlier : List PageStep) × (did ≡ later ++ step_for worker f ∷ earlier)

-- each found look has one
pub found-among : (worker : ℕ) (before : List PageStep) (found : List Found)
    → All (IsAmong worker (then_steps before (map (step_for worker) found))) found
found-among worker before [] = All-nil (IsAmong worker before)
found-among worker before (f ∷ found) =
    All-cons (IsAmong worker (then_steps before (map (step_for worker) (f ∷ found)))) f found (
      then_steps [] (map (step_for worker) found),
      before,
      then-behind [] (step_for worker f ∷ before) (map (step_for worker) found),
    )
    (found-among worker (step_for worker f ∷ before) found)
