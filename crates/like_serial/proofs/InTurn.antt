-- A step of a list in turn, and those before it.
use Rattle.std.proofs.Common.{◌≡◌, ℕ, suc, ◌+◌, ◌<◌, ◌≤◌, nat_lt, ◌==◌, List, [], ◌∷◌, ◌++◌, ap, sym, ◌∙◌, arith}
use Rattle.std.specs.List.{AllByRecursion}
use Rattle.like_core.specs.declared.page_step.PageStep.{PageStep}
use Rattle.like_core.specs.PageSteps.{AreInTurn, adds_to, likes_in}
use Rattle.like_serial.proofs.Phases.{all_then, not_below}
use Rattle.like_serial.proofs.Totals.{weigh-all_below, weigh-all_none, weigh-suc}
use Rattle.like_serial.proofs.Weigh.{only, sum-weigh, weigh, weigh-append}

-- no step is later than the phase of the list
pub turn_below : (first : ℕ → ℕ) (last : ℕ) (steps : List PageStep)
    → AreInTurn first last steps
    → AllByRecursion (λ s. s.phase < suc last) steps
turn_below first last [] turn = tt
turn_below first last (s ∷ before) turn =
    let least = turn.1 in (
      omega arith,
      all_then (λ (t : PageStep). t.phase < suc s.phase) (λ t. t.phase < suc last) before
          (λ t less. omega (arith, less, least))
          (turn_below first s.phase before turn.3),
    )

-- a step found what those before it left; they are of its phase or earlier, and the others of its phase or later
pub record InTurn (first : ℕ → ℕ) (last : ℕ) (after : List PageStep) (s : PageStep) (before : List PageStep)
    : Type 0 where
  pub found : s.found ≡ first s.page + likes_in s.page before
  pub within : s.phase ≤ last
  pub earlier : AllByRecursion (λ t. t.phase < suc s.phase) before
  pub later : AllByRecursion (λ t. s.phase ≤ t.phase) after

pub in_turn : (first : ℕ → ℕ) (last : ℕ) (after : List PageStep) (s : PageStep) (before : List PageStep)
    → AreInTurn first last (after ++ s ∷ before)
    → InTurn first last after s before
in_turn first last [] s before turn = record {
  found = turn.0;
  within = turn.1;
  earlier = turn_below first s.phase before turn.3;
  later = tt;
}
in_turn first last (u ∷ after) s before turn =
    let i = in_turn first u.phase after s before turn.3 in
    let within = i.within in
    let most = turn.1 in
    record { found = i.found; within = omega arith; earlier = i.earlier; later = (within, i.later) }

-- the count that it found: what all steps of earlier phases added, and the steps before it in its own
pub found_by_phase : (first : ℕ → ℕ) (last : ℕ) (after : List PageStep) (s : PageStep) (before : List PageStep)
    → AreInTurn first last (after ++ s ∷ before)
    → s.found
    ≡ first s.page
    + (weigh (λ t. only (nat_lt t.phase s.phase) (adds_to s.page t)) (after ++ s ∷ before)
    + weigh (λ t. only (t.phase == s.phase) (adds_to s.page t)) before)
found_by_phase first last after s before turn =
    let i = in_turn first last after s before turn in
    let f : PageStep → ℕ = adds_to s.page in
    let early : PageStep → ℕ = λ t. only (nat_lt t.phase s.phase) (f t) in
    let both : weigh f before ≡ weigh early before + weigh (λ t. only (t.phase == s.phase) (f t)) before =
    sym (weigh-all_below (λ (t : PageStep). t.phase) f (suc s.phase) before i.earlier)
    ∙ weigh-suc (λ (t : PageStep). t.phase) f s.phase before
    in
    let none : weigh early after ≡ 0 =
    weigh-all_none early after
    (all_then (λ (t : PageStep). s.phase ≤ t.phase) (λ t. early t ≡ 0) after
    (λ t least. ap (λ b. only b (f t)) (not_below t.phase s.phase least)) i.later)
    in
    let here : early s ≡ 0 = ap (λ b. only b (f s)) (not_below s.phase s.phase (omega arith)) in
    let all : weigh early (after ++ s ∷ before) ≡ weigh early before =
    weigh-append early after (s ∷ before) ∙ omega arith
    in
    let found = i.found in
    let sum = sum-weigh f before in
    omega arith
