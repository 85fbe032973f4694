-- The moves of a board: the events, and what only a service's workers do: one that was gone comes back, and one glances
-- at the count of a page that is split. These are no events.
use Rattle.std.specs.Prelude.{◌≡◌, ◌≢◌, ℕ, ◌<◌, true, false, List, [], ◌∷◌, fold, length}
use Rattle.like_core.specs.Types.{Event, Gone, Limits, Opening, Release, Runs, Seen, Shown}
use Rattle.like_core.specs.core.State.{CoreState, after, is_split_now, numbers, start}
use Rattle.like_core.specs.core.Table.{IsShown, Permits}
use Rattle.like_core.specs.{Functions.MayAll, Functions.update, WorkerState.running_sight, core.Numbers.AllIn}
use Rattle.like_core.specs.{core.Reachable.Reachable, declared.shown.Shown.TheVariants.Count, word.Forms.form_of}

-- an event, or this worker comes back, or it glances at this page
pub data Move : Type 0 where
  makes : Event → Move
  comes_back : ℕ → Move
  glances : ℕ → ℕ → Move

-- workers may come back to a board whose word counts who is gone: a service's
abbrev pub LetsReturn : Limits → Type 0
LetsReturn l = (form_of l.form).lets_return ≡ true

-- the state after worker i came back: it runs the present phase
abbrev pub after_return : CoreState → ℕ → CoreState
after_return s i = record s { state = update s.state i (Runs s.phase) }

-- worker i may come back: it is gone, and the phase isn't ending
pub record MayReturn (z : Opening) (s : CoreState) (i : ℕ) : Type 0 where
  pub lets : LetsReturn z.limits
  pub there : i < z.workers
  pub gone : s.state i ≡ Gone
  pub running : s.ending ≡ false

-- no worker may come back before the next release: none ever does in a run, nor at an ending in a service
abbrev pub NoneReturns : Opening → CoreState → Type 0
NoneReturns z s = LetsReturn z.limits → s.ending ≡ true

-- worker i may glance at the page: it runs the present phase, and the page is split in it
pub record MayGlanceAt (z : Opening) (s : CoreState) (i page : ℕ) : Type 0 where
  pub there : i < z.workers
  pub known : page < length z.counts
  pub runs : s.state i ≡ Runs s.phase
  pub split : is_split_now z s page ≡ true

-- the state after the move: a glance changes nothing
abbrev pub after_move : Opening → CoreState → Move → CoreState
after_move z s (makes event) = after z s event
after_move z s (comes_back i) = after_return s i
after_move z s (glances i page) = s

-- the move may be made
abbrev pub MayMove : Opening → CoreState → Move → Type 0
MayMove z s (makes event) = Permits (numbers z s) event
MayMove z s (comes_back i) = MayReturn z s i
MayMove z s (glances i page) = MayGlanceAt z s i page

-- what the move shows: a worker that comes back sees the phase running, and a glance shows the page's count
abbrev pub IsShownBy : Opening → CoreState → Move → Shown → Type 0
IsShownBy z s (makes event) shown = IsShown (numbers z s) event shown
IsShownBy z s (comes_back i) shown = shown ≡ Seen (running_sight s.phase)
IsShownBy z s (glances i page) shown = shown ≡ Count ((numbers z s).count page)

-- some list of moves leads from the start to the state
pub record Reached (z : Opening) (s : CoreState) : Type 0 where
  pub moves : List Move
  pub may : MayAll (after_move z) (MayMove z) (start z) moves
  pub reached : fold (after_move z) (start z) moves ≡ s

-- moves reach what events reach, and where nobody comes back they reach nothing else
abbrev pub NobodyReturns : Type 0
NobodyReturns =
    (z : Opening) (s : CoreState)
    → (Reachable z s → Reached z s) × (¬ LetsReturn z.limits → Reached z s → Reachable z s)

-- none of the moves releases a phase
abbrev pub NoneReleases : List Move → Type 0
NoneReleases [] = Unit {0}
NoneReleases (move ∷ moves) = ((mask : ℕ) → move ≢ makes (Release mask)) × NoneReleases moves

-- once all are in where none may come back, they are in until the release
abbrev pub AllStayIn : Type 0
AllStayIn =
    (z : Opening) (s : CoreState) (moves : List Move) → NoneReturns z s → AllIn (numbers z s)
    → MayAll (after_move z) (MayMove z) s moves → NoneReleases moves → AllIn (numbers z (fold (after_move z) s moves))

-- once all are in at an ending, no moves before the release change the state
abbrev pub AllInStays : Type 0
AllInStays =
    (z : Opening) (s : CoreState) (moves : List Move) → s.ending ≡ true → AllIn (numbers z s)
    → MayAll (after_move z) (MayMove z) s moves → NoneReleases moves → fold (after_move z) s moves ≡ s
