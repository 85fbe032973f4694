-- Lists of page steps, the latest first.
use Rattle.std.proofs.Common.{All, ◌≡◌, ℕ, ◌==◌, Bool, true, false, cond, List, [], ◌∷◌, ◌++◌, filter, reverse, map, ap, sym, ◌∙◌, refl, append-nil, append_assoc}
use Rattle.std.proofs.lemmas.List.{map-append}
use Rattle.std.proofs.lemmas.List.Elements.{All-cons, All-head, All-nil, All-push, All-tail, filter-append}
use mathlib.Core.List.{reverse-cons}
use Rattle.like_core.specs.declared.page_step.PageStep.{PageStep}
use Rattle.like_core.specs.declared.view.Addition.{Addition}
use Rattle.like_core.specs.PageSteps.{additions_among, earliest_first, step_adding, steps_by, stretch_of, stretches_of, then_steps}

-- steps in their order are those that `reverse` gives
pub earliest-reverse : (steps : List PageStep) → earliest_first steps ≡ reverse steps
earliest-reverse [] = refl
earliest-reverse (s ∷ before) = ap (λ xs. xs ++ s ∷ []) (earliest-reverse before) ∙ sym (reverse-cons s before)

-- those that pass a test, in their order
pub earliest-filter : (test : PageStep → Bool) (steps : List PageStep)
    → earliest_first (filter test steps) ≡ filter test (earliest_first steps)
earliest-filter test [] = refl
earliest-filter test (s ∷ before) =
    by (test s) (filter test before) (earliest-filter test before)
    ∙ sym (filter-append test (earliest_first before) (s ∷ []))
  where
    by : (b : Bool) (rest : List PageStep) → earliest_first rest ≡ filter test (earliest_first before)
        → earliest_first (cond b (s ∷ rest) rest) ≡ filter test (earliest_first before) ++ cond b (s ∷ []) []
    by true rest is = ap (λ xs. xs ++ s ∷ []) is
    by false rest is = is ∙ sym (append-nil (filter test (earliest_first before)))

-- those of one worker, in their order
pub by-earliest : (i : ℕ) (steps : List PageStep)
    → earliest_first (steps_by i steps) ≡ filter (λ s. s.worker == i) (reverse steps)
by-earliest i steps =
    earliest-filter (λ s. s.worker == i) steps ∙ ap (filter (λ s. s.worker == i)) (earliest-reverse steps)

-- one step more comes last
pub then-push : (before steps : List PageStep) (s : PageStep)
    → then_steps before (steps ++ s ∷ []) ≡ s ∷ then_steps before steps
then-push before [] s = refl
then-push before (t ∷ steps) s = then-push (t ∷ before) steps s

-- steps behind others, in their order
pub then-earliest : (before steps : List PageStep)
    → earliest_first (then_steps before steps) ≡ earliest_first before ++ steps
then-earliest before [] = sym (append-nil (earliest_first before))
then-earliest before (s ∷ steps) =
    then-earliest (s ∷ before) steps ∙ append_assoc (earliest_first before) (s ∷ []) steps

-- additions one after the other are among all
pub then-additions : (worker : ℕ) (before : List PageStep) (adds : List Addition)
    → additions_among (then_steps before (map (step_adding worker) adds)) ≡ additions_among before ++ adds
then-additions worker before [] = sym (append-nil (additions_among before))
then-additions worker before (a ∷ adds) =
    then-additions worker (step_adding worker a ∷ before) adds
    ∙ append_assoc (additions_among before) (a ∷ []) adds

-- the stretch of one step more comes last
pub stretches-push : (s : PageStep) (before : List PageStep)
    → stretches_of (s ∷ before) ≡ stretches_of before ++ stretch_of s ∷ []
stretches-push s before = map-append stretch_of (earliest_first before) (s ∷ [])

-- and those of additions, one after the other
pub then-stretches : (worker : ℕ) (before : List PageStep) (adds : List Addition)
    → stretches_of (then_steps before (map (step_adding worker) adds)) ≡ stretches_of before ++ adds
then-stretches worker before adds =
    ap (map stretch_of) (then-earliest before (map (step_adding worker) adds))
    ∙ map-append stretch_of (earliest_first before) (map (step_adding worker) adds)
    ∙ ap (λ xs. stretches_of before ++ xs) (again adds)
  where
    again : (xs : List Addition) → map stretch_of (map (step_adding worker) xs) ≡ xs
    again [] = refl
    again (x ∷ xs) = ap (λ ys. x ∷ ys) (again xs)

-- what is true of each step, by what came after and before it, is true of all in their order
pub all_split : (P : PageStep → Type 0) (steps : List PageStep)
    → ((later : List PageStep) (s : PageStep) (earlier : List PageStep) → steps ≡ later ++ s ∷ earlier → P s)
    → All P (earliest_first steps)
all_split P [] each = All-nil P
all_split P (s ∷ before) each =
    All-push P (earliest_first before) s
    (all_split P before (λ later t earlier is. each (s ∷ later) t earlier (ap (λ xs. s ∷ xs) is))) (each [] s before refl)

-- what is true of each step before and of each behind is true of all
pub all_then : (P : PageStep → Type 0) (steps before : List PageStep)
    → All P before → All P steps → All P (then_steps before steps)
all_then P [] before old new = old
all_then P (s ∷ steps) before old new =
    all_then P steps (s ∷ before) (All-cons P s before (All-head P s steps new) old) (All-tail P s steps new)

-- steps that are made behind others leave these as they are
pub then-behind : (later before steps : List PageStep)
    → then_steps (later ++ before) steps ≡ then_steps later steps ++ before
then-behind later before [] = refl
then-behind later before (s ∷ steps) = then-behind (s ∷ later) before steps
