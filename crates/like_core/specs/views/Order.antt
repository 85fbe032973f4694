-- One order of all that workers did at a board, their looks included, for a list of the views of all seats; and that each
-- step keeps it. It is the board's log, and the place of an entry in it is the entry's number.
use Rattle.std.specs.Prelude.{◌≡◌, ℕ, ◌+◌, ◌==◌, ◌≤◌, if◌then◌else◌, All, List, [], ◌∷◌, ◌++◌, length, replicate, slice_index, slice_set, sum_by}
use lib.ListN.{get_elem?}
use mathlib.Core.Option.{some}
use Rattle.like_core.specs.Log.{PhasesRise, applied_of, logged_by, numbered, steps_in}
use Rattle.like_core.specs.PageSteps.{AddsSome, AreInTurn, likes_of, page_step, steps_by}
use Rattle.like_core.specs.Types.{Coord, CoordSeatView, Did, LogEntry, Opening, PageCall, PageStep, Saw, Spent, View}
use Rattle.like_core.specs.Types.{Worker, WorkerSeatView}
use Rattle.like_core.specs.core.State.{CoreState, label_now, labelled}
use Rattle.like_core.specs.views.Views.{gathered_coord, made_coord, seats_of}
use Rattle.like_core.specs.{Post.additions_in, Post.fresh, Post.stepped, WorkerState.phase_of, views.Posts.posts_of}

-- all that a worker's post did at pages are that worker's steps, in their order
abbrev pub HasDone : List PageStep → WorkerSeatView → Type 0
HasDone steps v = steps_by v.worker steps ≡ v.did

-- all that a worker's seat made are that worker's entries in the log, with their numbers; its steps at pages are those
-- among them
pub record HasMade (log : List LogEntry) (v : WorkerSeatView) : Type 0 where
  pub logged : logged_by v.worker log ≡ v.logged
  pub done : HasDone (steps_in log) v

-- a worker's view tells what its seat made in the log; the coordinator's, what the seats that came back to it made
abbrev pub HasOrder : List LogEntry → View → Type 0
HasOrder log (Coord c) =
    (place : ℕ) (v : WorkerSeatView) → get_elem? c.joined place ≡ some v → HasMade log v
HasOrder log (Worker v) = HasMade log v
HasOrder log Spent = Unit {0}

-- one order of a board, the latest entry first
pub record IsOrder (z : Opening) (s : CoreState) (views : List View) (log : List LogEntry) : Type 0 where
  -- each step at a page found what those before it left
  pub in_turn : AreInTurn (slice_index z.counts) s.phase (steps_in log)
  -- phases never fall
  pub rising : PhasesRise s.phase log
  -- the likes applied to a page are those that the log applies to it
  pub applied : (page : ℕ) → s.applied page ≡ applied_of log page
  -- each view's entries are what it says that it made, with their numbers
  pub each : (place : ℕ) (view : View) → get_elem? views place ≡ some view → HasOrder log view
  -- no worker without a seat has an entry
  pub others : (i : ℕ) → sum_by (seats_of i) views ≡ 0 → logged_by i log ≡ []

-- a worker's step at a page comes next: the worker has this seat and no other, runs the present phase, and finds the
-- page's count
pub record ComesNext (z : Opening) (s : CoreState) (views : List View) (place : ℕ) (v : WorkerSeatView) (page found : ℕ)
    : Type 0 where
  pub mine : get_elem? views place ≡ some (Worker v)
  pub once : sum_by (seats_of v.worker) views ≡ 1
  pub present : phase_of v.state ≡ s.phase
  pub finds : found ≡ slice_index z.counts page + length (s.applied page)

-- worker i applies n likes to a page, in the same phase
pub record AppliesTo (i page n : ℕ) (s t : CoreState) : Type 0 where
  pub phase : t.phase ≡ s.phase
  pub likes : (other : ℕ)
      → t.applied other ≡ s.applied other ++ replicate (if page == other then n else 0) (label_now s i)

-- the law of page steps: one keeps the order, and is the last in it. An addition is of some likes
abbrev pub PageStepKeepsOrder : Type 0
PageStepKeepsOrder =
    (z : Opening) (s t : CoreState) (views : List View) (log : List LogEntry) (place : ℕ) (v : WorkerSeatView)
    (page found : ℕ) (call : PageCall)
    → ComesNext z s views place v page found → AddsSome call → AppliesTo v.worker page (likes_of call) s t
    → IsOrder z s views log
    → IsOrder z t (slice_set views place (Worker (stepped v page found call (length log))))
    (Did (page_step v.worker (phase_of v.state) page found call) ∷ log)

-- a view has one look more than another, of this phase and with this number, and its worker did the same at pages
pub record AddsLook (v : WorkerSeatView) (phase number : ℕ) (w : WorkerSeatView) : Type 0 where
  pub worker : w.worker ≡ v.worker
  pub did : w.did ≡ v.did
  pub logged : w.logged ≡ numbered number (Saw v.worker phase) ∷ v.logged

-- the law of looks: one that saw the present phase keeps the order, and is the last in it
abbrev pub LookKeepsOrder : Type 0
LookKeepsOrder =
    (z : Opening) (s t : CoreState) (views : List View) (log : List LogEntry) (place : ℕ) (v w : WorkerSeatView)
    (phase : ℕ)
    → get_elem? views place ≡ some (Worker v) → sum_by (seats_of v.worker) views ≡ 1
    → phase ≡ s.phase → AddsLook v phase (length log) w
    → t.phase ≡ s.phase → ((page : ℕ) → t.applied page ≡ s.applied page)
    → IsOrder z s views log
    → IsOrder z t (slice_set views place (Worker w)) (Saw v.worker phase ∷ log)

-- a view is of the same workers as another, and says the same of what they made
pub record SaysSame (a b : View) : Type 0 where
  pub seats : (i : ℕ) → seats_of i b ≡ seats_of i a
  pub made : (log : List LogEntry) → HasOrder log a → HasOrder log b

-- a step that is no look and does nothing at a page leaves the order
abbrev pub OtherStepKeepsOrder : Type 0
OtherStepKeepsOrder =
    (z : Opening) (s t : CoreState) (views : List View) (log : List LogEntry) (place : ℕ) (a b : View)
    → get_elem? views place ≡ some a → SaysSame a b
    → s.phase ≤ t.phase → ((page : ℕ) → t.applied page ≡ s.applied page)
    → IsOrder z s views log
    → IsOrder z t (slice_set views place b) log

-- a worker's seat that is given back to the coordinator leaves the order
abbrev pub JoinKeepsOrder : Type 0
JoinKeepsOrder =
    (z : Opening) (s : CoreState) (views : List View) (log : List LogEntry) (place other : ℕ) (c : CoordSeatView)
    (v : WorkerSeatView)
    → get_elem? views place ≡ some (Coord c)
    → get_elem? views other ≡ some (Worker v)
    → IsOrder z s views log
    → IsOrder z s (slice_set (slice_set views place (Coord (gathered_coord c v))) other Spent) log

-- a new seat of a worker that had none leaves the order
abbrev pub NewSeatKeepsOrder : Type 0
NewSeatKeepsOrder =
    (z : Opening) (s : CoreState) (views : List View) (log : List LogEntry) (place : ℕ) (c : CoordSeatView)
    → get_elem? views place ≡ some (Coord c)
    → sum_by (seats_of c.made) views ≡ 0
    → IsOrder z s views log
    → IsOrder z s (slice_set views place (Coord (made_coord c)) ++ Worker (fresh z c.made) ∷ []) log

-- the likes with a worker's label of a phase are as many as its seat added then, and a worker without a seat has none
pub record AreLabelled (s : CoreState) (views : List View) : Type 0 where
  pub each : All (λ v. (phase page : ℕ) → labelled v.worker phase (s.applied page) ≡ additions_in v phase page)
      (posts_of views)
  pub others : (i : ℕ) → sum_by (seats_of i) views ≡ 0 → (phase page : ℕ) → labelled i phase (s.applied page) ≡ 0

-- the law of labels, which follows
abbrev pub OrderGivesLabels : Type 0
OrderGivesLabels =
    (z : Opening) (s : CoreState) (views : List View) (log : List LogEntry) → IsOrder z s views log → AreLabelled s views
