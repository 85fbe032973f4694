-- What workers do at the counts of pages, one atomic step after another.
use Rattle.std.specs.Prelude.{◌≡◌, ℕ, ◌+◌, ◌≤◌, ◌==◌, if◌then◌else◌, List, [], ◌∷◌, ◌++◌, filter, length, map, sum_by}
use Rattle.like_core.specs.Types.{Add, Addition, Glance, PageCall, PageStep, Read, Sight}
use Rattle.like_core.specs.{Additions.addition, declared.view.Look.Look}

-- a worker's step in a phase at a page, whose count was this
abbrev pub page_step : ℕ → ℕ → ℕ → ℕ → PageCall → PageStep
page_step worker phase page found call =
    record { worker = worker; phase = phase; page = page; found = found; call = call }

-- the step of a worker that made this addition
abbrev pub step_adding : ℕ → Addition → PageStep
step_adding worker a = page_step worker a.phase a.page a.old (Add a.likes)

-- a look that showed this, after these steps
abbrev pub look_after : Sight → List PageStep → Look
look_after sight did = record { sight = sight; did = length did }

-- how many likes a step adds
abbrev pub likes_of : PageCall → ℕ
likes_of (Add n) = n
likes_of _ = 0

-- how many likes a step adds to this page
abbrev pub adds_to : ℕ → PageStep → ℕ
adds_to page s = if s.page == page then likes_of s.call else 0

-- how many likes steps add to a page
abbrev pub likes_in : ℕ → List PageStep → ℕ
likes_in page steps = sum_by (adds_to page) steps

-- an addition adds at least one like
abbrev pub AddsSome : PageCall → Type 0
AddsSome (Add n) = 1 ≤ n
AddsSome _ = Unit {0}

-- in turn, the latest step first: each step found the page's first count and all likes that the steps before it added
-- to the page, and phases never fall: none is later than this one
abbrev pub AreInTurn : (ℕ → ℕ) → ℕ → List PageStep → Type 0
AreInTurn first phase [] = Unit {0}
AreInTurn first phase (s ∷ before) =
    (s.found ≡ first s.page + likes_in s.page before) × (s.phase ≤ phase) × AddsSome s.call
    × AreInTurn first s.phase before

-- the steps of worker i among these
abbrev pub steps_by : ℕ → List PageStep → List PageStep
steps_by i steps = filter (λ s. s.worker == i) steps

-- steps in their order, where the latest is the first in the list
abbrev pub earliest_first : List PageStep → List PageStep
earliest_first [] = []
earliest_first (s ∷ before) = earliest_first before ++ s ∷ []

-- steps made one after the other, behind those before: the latest step first
abbrev pub then_steps : List PageStep → List PageStep → List PageStep
then_steps before [] = before
then_steps before (s ∷ steps) = then_steps (s ∷ before) steps

-- additions, and one more if a call is one
abbrev pub and_addition : List Addition → ℕ → ℕ → ℕ → PageCall → List Addition
and_addition earlier phase page found (Add n) = earlier ++ addition phase page found n ∷ []
and_addition earlier phase page found _ = earlier

-- the additions among steps, the latest step first, in their order
abbrev pub additions_among : List PageStep → List Addition
additions_among [] = []
additions_among (s ∷ before) = and_addition (additions_among before) s.phase s.page s.found s.call

-- a step's stretch: from the count that it found to the one that it left, which of a read or a glance is the same
abbrev pub stretch_of : PageStep → Addition
stretch_of s = addition s.phase s.page s.found (likes_of s.call)

-- the stretches of steps, in their order
abbrev pub stretches_of : List PageStep → List Addition
stretches_of steps = map stretch_of (earliest_first steps)
