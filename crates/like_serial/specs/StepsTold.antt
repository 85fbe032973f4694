-- What replies tell of steps at pages.
use Rattle.std.specs.Prelude.{ℕ, Bool, not, if◌then◌else◌, List, map, filter, Option, Some, None, option_and_then, filter_map}
use Rattle.like_core.specs.Types.{Add, Glance, PageCall, PageStep, Read}
use Rattle.like_promises.specs.Store.{Ask, like, look, refuse}
use Rattle.like_promises.specs.{Asked.asked, Likes.count_in, Types.Ran, Workload.Workload, Workload.is_split_in}

-- a step without the count that an addition found, which no reply tells: `count` is 0 then
pub record StepTold : Type 0 where
  pub phase : ℕ
  pub page : ℕ
  pub call : PageCall
  pub count : ℕ

-- the count that a step tells
abbrev pub count_told : PageCall → ℕ → ℕ
count_told (Add n) found = 0
count_told Read found = found
count_told Glance found = found

-- what a step tells
abbrev pub step_told : PageStep → StepTold
step_told s = record { phase = s.phase; page = s.page; call = s.call; count = count_told s.call s.found }

-- plain: the page of the step is not split in its phase
abbrev pub is_plain : Workload → PageStep → Bool
is_plain workload s = not (is_split_in workload s.phase s.page)

-- what the plain ones among steps tell, in their order
abbrev pub plain_told : Workload → List PageStep → List StepTold
plain_told workload steps = map step_told (filter (is_plain workload) steps)

-- the plain step of an entry that asked this: a look reads what it shows; a like of a page that is not split in the
-- phase adds 1
abbrev pub step_asked : Workload → Ran → Ask → Option StepTold
step_asked workload e (like user page) =
    if is_split_in workload e.phase page then None
    else Some (record { phase = e.phase; page = page; call = Add 1; count = 0 })
step_asked workload e (look user page) =
    Some (record { phase = e.phase; page = page; call = Read; count = count_in e.reply })
step_asked workload e (refuse why) = None

-- the plain step that an entry took, if it took one
abbrev pub step_ran : Workload → Ran → Option StepTold
step_ran workload e = option_and_then (step_asked workload e) (asked workload e.submitter e.number)

-- the plain steps that the entries of a run list took
abbrev pub steps_ran : Workload → List Ran → List StepTold
steps_ran workload ran = filter_map (step_ran workload) ran
