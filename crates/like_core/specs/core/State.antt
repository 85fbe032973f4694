-- A state of the core: it has lists where the table of events has numbers.
use Rattle.std.specs.Prelude.{ℕ, ◌+◌, ◌==◌, nat_lt, Bool, true, false, not, ◌&&◌, if◌then◌else◌, List, [], ◌∷◌, ◌++◌, length, filter, count_by, replicate, slice_index}
use Rattle.like_limits.specs.Buckets.{run_factor}
use Rattle.like_core.specs.Types.{Answered, CoordLook, Event, Gone, Limits, Look, Opening, Release, Runs, WorkerState}
use Rattle.like_core.specs.declared.event.Event.TheVariants.{Acknowledge, Announce, CoordRead, Hot, Like, Merge, Read}
use Rattle.like_core.specs.declared.event.Event.TheVariants.{Report, Retire}
use Rattle.like_core.specs.{Functions.times, Functions.update, WorkerState.looked, core.Numbers.Numbers}
use Rattle.like_core.specs.{OpeningLimits.run_limits, Phase.is_marked, Phase.split_by}

-- who ran a like, and in which phase
pub record Label : Type 0 where
  pub worker : ℕ
  pub phase : ℕ

-- how many likes of a list the worker ran in the phase
abbrev pub labelled : ℕ → ℕ → List Label → ℕ
labelled worker phase likes = count_by (λ l. (l.worker == worker) && (l.phase == phase)) likes

-- a state of the core
pub record CoreState : Type 0 where
  pub phase : ℕ
  -- whether the end of the phase was announced
  pub ending : Bool
  -- each phase's mask of hot pages
  pub hot : ℕ → ℕ
  -- each worker's state
  pub state : ℕ → WorkerState
  -- the pages of each worker's unmerged likes, in the order of the likes
  pub unmerged : ℕ → List ℕ
  -- the likes applied to each page
  pub applied : ℕ → List Label

-- the label of a like that the worker runs now
abbrev pub label_now : CoreState → ℕ → Label
label_now s i = record { worker = i; phase = s.phase }

-- the opening with these limits, workers, counts and marks, and the factor of a run
abbrev pub opening_with : Limits → ℕ → List ℕ → List Bool → Opening
opening_with limits workers counts marks =
    record { workers = workers; counts = counts; marks = marks; limits = limits; factor = run_factor }

-- the opening of a service: no page is marked, since the pages that are always split keep a slot each
abbrev pub opening_by : ℕ → Limits → ℕ → List ℕ → Opening
opening_by factor limits workers counts =
    record (opening_with limits workers counts (replicate (length counts) false)) { factor = factor }

-- the opening of a run with these workers, counts and marks
abbrev pub opening : ℕ → List ℕ → List Bool → Opening
opening workers counts marks = opening_with run_limits workers counts marks

-- the state at the start: each worker runs phase 0, any other number is gone, and no phase has hot pages yet
abbrev pub start : Opening → CoreState
start z = record {
  phase = 0;
  ending = false;
  hot = λ _. 0;
  state = λ i. (if nat_lt i z.workers then Runs 0 else Gone);
  unmerged = λ _. [];
  applied = λ _. [];
}

-- the likes without those of a page
abbrev pub without : ℕ → List ℕ → List ℕ
without page likes = filter (λ other. not (other == page)) likes

-- whether the page is split in the present phase
abbrev pub is_split_now : Opening → CoreState → ℕ → Bool
is_split_now z s page = split_by z.limits.hot (is_marked z.marks) s.hot s.phase page

-- the state after the event
abbrev pub after : Opening → CoreState → Event → CoreState
after z s (Look i) = record s { state = update s.state i (looked s.phase (s.state i)) }
after z s (Acknowledge i) = record s { state = update s.state i (Answered s.phase) }
after z s (Report i) = record s { state = update s.state i (Answered s.phase) }
after z s (Retire i) = record s { state = update s.state i Gone }
after z s (Like i page) =
    (if is_split_now z s page then
    record s { unmerged = update s.unmerged i (s.unmerged i ++ page ∷ []) }
    else
    record s { applied = update s.applied page (s.applied page ++ label_now s i ∷ []) })
after z s (Merge i page) = record s {
  unmerged = update s.unmerged i (without page (s.unmerged i));
  applied = update s.applied page
      (s.applied page ++ replicate (times page (s.unmerged i)) (label_now s i));
}
after z s Announce = record s { ending = true }
after z s (Release mask) = record s {
  phase = s.phase + 1;
  ending = false;
  hot = update s.hot (s.phase + 1) mask;
}
after z s _ = s

-- the numbers of a state: how long its lists are, and the mask of its phase
abbrev pub numbers : Opening → CoreState → Numbers
numbers z s = record {
  workers = z.workers;
  pages = length z.counts;
  marked = is_marked z.marks;
  limits = z.limits;
  phase = s.phase;
  ending = s.ending;
  hot = s.hot s.phase;
  state = s.state;
  unmerged = λ i page. times page (s.unmerged i);
  count = λ page. slice_index z.counts page + length (s.applied page);
}
