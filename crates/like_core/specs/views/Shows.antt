-- The rule of a board: its words and the views of all seats show a state of the core.
use Rattle.std.specs.Prelude.{◌≡◌, ◌⊎◌, ℕ, Bool, false, ◌+◌, ◌^◌, ◌<◌, ◌≤◌, All, nat_lt, true, if◌then◌else◌, List, [], ◌∷◌, ◌++◌, length, take, slice_index, slice_set, IfSome, IsSome, fold, sum_by}
use lib.ListN.{get_elem?}
use mathlib.Core.Option.{some}
use Rattle.like_limits.specs.Limits.{hot_pages, max_count}
use Rattle.like_core.specs.OpeningLimits.{AreLimits, has_slots}
use Rattle.like_core.specs.Types.{Coord, CoordSeatView, Event, LogEntry, Opening, Runs, Shown, Spent, View, Worker}
use Rattle.like_core.specs.Types.{WorkerSeatView}
use Rattle.like_core.specs.WorkerState.{IsRunning, RunsSplit, SawEnding, SawNoLater}
use Rattle.like_core.specs.core.Moves.{IsShownBy, LetsReturn, MayMove, Move, NoneReturns, Reached, after_move, makes}
use Rattle.like_core.specs.core.Numbers.{AllGone, AllIn, CoordSees}
use Rattle.like_core.specs.core.{Reachable.PermitsAll, Reachable.Reachable, State.CoreState, State.after, State.numbers}
use Rattle.like_core.specs.views.Layout.{mask_place, phase_place, slot_in, word_of}
use Rattle.like_core.specs.views.{Order.IsOrder, Reads.IsCounted, Tallies.Tallied, Views.seats_of}
use Rattle.like_core.specs.{Phase.IsSplit, PhaseMasks.mask_of, views.Posts.posts_before, views.Posts.posts_of}
use Rattle.like_core.specs.{Slots.IsChoice, Slots.mask_by, core.Exclusive.NoneUnmerged}
use Rattle.like_core.specs.{views.Places.count_after, word.ShownWord.shown_word}

-- an opening that a board may have
pub record IsOpening (z : Opening) : Type 0 where
  pub some_worker : 1 ≤ z.workers
  pub few_workers : z.workers ≤ z.limits.seats
  pub few_pages : length z.counts ≤ z.limits.pages
  -- each page has a mark
  pub marks : length z.marks ≡ length z.counts
  pub counts : All (λ n. n ≤ max_count) z.counts
  pub limits : AreLimits z.limits
  pub factor : z.factor < 2 ^ 32

-- what a worker's seat knows is true of the state
pub record FitsWorker (z : Opening) (s : CoreState) (v : WorkerSeatView) : Type 0 where
  pub opening : v.opening ≡ z
  pub there : v.worker < z.workers
  pub state : s.state v.worker ≡ v.state
  -- its last sight had no number above the phase
  pub number : SawNoLater s.phase v.last
  -- if it runs a phase and saw that ending, it is ending
  pub ending : IsRunning v.state → SawEnding v.last → s.ending ≡ true
  -- each mask that it read is its phase's, and none is of a later phase
  pub masks : All (λ m. (m.phase ≤ s.phase) × (m.mask ≡ s.hot m.phase)) v.masks
  -- it knows slots in a split phase alone
  pub slots : ¬ RunsSplit v.state → v.slots ≡ []

-- what the coordinator knows of the workers' seats is true of the state
pub record KnowsSeats (z : Opening) (s : CoreState) (c : CoordSeatView) : Type 0 where
  pub opening : c.opening ≡ z
  pub made : c.made ≤ z.workers
  -- a worker whose seat is not made yet runs phase 0
  pub unmade : (i : ℕ) → c.made ≤ i → i < z.workers → s.state i ≡ Runs 0
  -- what the seats that were given back knew is true
  pub joined : (place : ℕ) (v : WorkerSeatView) → get_elem? c.joined place ≡ some v
      → FitsWorker z s v

-- what the coordinator knows of the phase is true
pub record KnowsPhase (z : Opening) (s : CoreState) (c : CoordSeatView) : Type 0 where
  pub present : c.phase ≡ s.phase
  pub ending : c.ending ≡ s.ending
  -- its last sight has the phase's number, and shows whether it is ending
  pub last : IfSome c.last (λ sight.
      (sight.number ≡ s.phase) × (sight.ending ≡ s.ending))
  -- if that sight showed all in at an ending, a look would show the same now, and the phase word has not changed
  pub stays : IfSome c.last (λ sight. sight.ending ≡ true → sight.all_in ≡ true
      → CoordSees (numbers z s) sight × (c.word ≡ shown_word z s))
  -- if any sight of the phase showed all in where none may come back, they still are
  pub all_in : c.all_in ≡ true → AllIn (numbers z s) × NoneReturns z s
  -- if all are gone in a split phase, the last sight before its release showed that
  pub gone : IsSplit s.phase → AllGone (numbers z s) → c.gone ≡ true

-- what the coordinator knows of the choice of hot pages is true
pub record KnowsChoice (z : Opening) (s : CoreState) (c : CoordSeatView) : Type 0 where
  -- each count that it read is of an earlier phase, or of this one, which is ending, and all are in
  pub counted : All (λ r. (r.phase ≤ s.phase)
      × (r.phase ≡ s.phase → AllIn (numbers z s) × (s.ending ≡ true))) c.counted
  -- a mask that it published has only bits of pages that exist
  pub published : IfSome c.published (λ mask. mask < 2 ^ length z.counts)
  -- each phase's mask is the one with which it released the phase
  pub masks : (phase : ℕ) → mask_of c.masks phase ≡ s.hot phase

-- what the coordinator's seat knows is true of the state
pub record FitsCoord (z : Opening) (s : CoreState) (c : CoordSeatView) : Type 0 where
  pub seats : KnowsSeats z s c
  pub phase : KnowsPhase z s c
  pub choice : KnowsChoice z s c

-- what a seat knows is true of the state
abbrev pub Fits : Opening → CoreState → View → Type 0
Fits z s (Coord c) = FitsCoord z s c
Fits z s (Worker v) = FitsWorker z s v
Fits z s Spent = Unit {0}

-- when the words tell the phase's mask: in a split phase, and in phase 0 until its end is announced
abbrev pub FixesMask : ℕ → Bool → Type 0
FixesMask phase ending = IsSplit phase ⊎ ((phase ≡ 0) × (ending ≡ false))

-- the mask that a board's words tell
abbrev pub mask_in : Opening → List ℕ → ℕ
mask_in z words = mask_by z.limits (slot_in words) (slice_index words mask_place)

-- in a service the pages in the slots in use are a lawful choice
abbrev pub IsChosen : Opening → List ℕ → Type 0
IsChosen z words =
    has_slots z.limits ≡ true
    → IsChoice z.factor (length z.counts) (slot_in words) (slice_index words mask_place)

-- the words show the state; those that the layout does not name may be anything
pub record WordsShow (z : Opening) (s : CoreState) (words : List ℕ) : Type 0 where
  pub width : length words ≡ word_of (length z.counts)
  pub phase : slice_index words phase_place ≡ shown_word z s
  -- each page's word is its count: the one at the start and the likes applied to it
  pub pages : (page : ℕ) → page < length z.counts
      → slice_index words (word_of page) ≡ slice_index z.counts page + length (s.applied page)
  -- the words tell the phase's mask, when they have to
  pub mask : FixesMask s.phase s.ending → mask_in z words ≡ s.hot s.phase
  pub chosen : FixesMask s.phase s.ending → IsChosen z words

-- the seats fit the state, and this is what the coordinator knows
pub record SeatsFit (z : Opening) (s : CoreState) (coord : CoordSeatView) (views : List View)
    : Type 0 where
  -- the first seat is the coordinator's
  pub first : get_elem? views 0 ≡ some (Coord coord)
  -- no other is
  pub only : (place : ℕ) (c : CoordSeatView) → get_elem? views place ≡ some (Coord c) → place ≡ 0
  -- what each seat knows is true
  pub each : (place : ℕ) (v : View) → get_elem? views place ≡ some v → Fits z s v
  -- each worker whose seat was made has exactly one: its own, or one that was given back
  pub once : (i : ℕ) → sum_by (seats_of i) views ≡ (if nat_lt i coord.made then 1 else 0)
  -- the slots that a worker has read are as the coordinator left them
  pub slots : (place : ℕ) (v : WorkerSeatView) → get_elem? views place ≡ some (Worker v)
      → v.slots ≡ take (length v.slots) coord.slots

-- the words and the views of all seats show the state
pub record Shows (z : Opening) (s : CoreState) (words : List ℕ) (views : List View) : Type 0 where
  pub opening : IsOpening z
  pub merged : NoneUnmerged s
  -- what the coordinator knows; if it published a mask since its last look, the words tell that
  pub coord : CoordSeatView
  pub published : IfSome coord.published (λ mask. mask_in z words ≡ mask)
  pub chosen : IsSome coord.published → IsChosen z words
  -- the slots are as it left them
  pub slots : (slot : ℕ) → slot < hot_pages → slot_in words slot ≡ slice_index coord.slots slot
  pub all_slots : length coord.slots ≡ hot_pages
  pub slots_fit : All (λ page. page < 2 ^ 32) coord.slots
  pub board : WordsShow z s words
  pub seats : SeatsFit z s coord views
  -- each count that the coordinator read is the one at the start plus all that was added up to its phase
  pub counted : All (IsCounted z.counts (posts_before (posts_of views))) coord.counted

-- the words and the views show some state that moves reach
pub record ShowsSome (z : Opening) (words : List ℕ) (views : List View) : Type 0 where
  pub state : CoreState
  pub reachable : Reached z state
  pub shows : Shows z state words views
  -- no count can wrap by what may still be added
  pub tallied : Tallied z.limits state views
  -- all that the views made has one order, the log
  pub log : List LogEntry
  pub order : IsOrder z state views log

-- a moment of a board, between two steps: its words, the views of all its seats, and what these show
pub record Moment (z : Opening) : Type 0 where
  pub words : List ℕ
  pub views : List View
  pub shown : ShowsSome z words views

-- a moment at which this is what some seat knows
pub record IsKnown (z : Opening) (v : View) : Type 0 where
  pub moment : Moment z
  pub place : ℕ
  pub mine : get_elem? moment.views place ≡ some v

-- a last moment, as the coordinator knows it: this is what its seat knows, and all workers are gone
pub record IsLastMoment (z : Opening) (c : CoordSeatView) : Type 0 where
  pub moment : Moment z
  pub mine : get_elem? moment.views 0 ≡ some (Coord c)
  pub gone : AllGone (numbers z moment.shown.state)

-- where nobody comes back, as in a run, events alone lead to the state of each moment
abbrev pub MomentsAreReachable : Type 0
MomentsAreReachable = (z : Opening) (m : Moment z) → ¬ LetsReturn z.limits → Reachable z m.shown.state

-- at a moment at which this is what the coordinator knows, each count that it read in its phase is its page's count at
-- the start and all that the seats have added by then
abbrev pub CountsAreOfOneMoment : Type 0
CountsAreOfOneMoment =
    (z : Opening) (c : CoordSeatView) (m : Moment z) → get_elem? m.views 0 ≡ some (Coord c)
    → All (λ r. r.phase ≡ c.phase → r.count ≡ count_after z.counts m.views r.page) c.counted

-- these events may happen in the state, one after the other, and then this move may be made, which shows this
pub record Happen (z : Opening) (s : CoreState) (events : List Event) (move : Move) (shown : Shown)
    : Type 0 where
  pub before : PermitsAll z s events
  pub permits : MayMove z (fold (after z) s events) move
  pub tells : IsShownBy z (fold (after z) s events) move shown

-- one step of a seat, whose view goes from v to w: at some moment these events happen, and this move is made last. Then
-- at most one word has changed and the seat's view is w, the words and views show the state after the move, and the log
-- of the moment goes on with these entries
pub record IsSteps (z : Opening) (events : List Event) (move : Move) (shown : Shown) (entries : List LogEntry) (v w : View)
    : Type 0 where
  pub moment : Moment z
  -- the seat's place among the views
  pub place : ℕ
  pub mine : get_elem? moment.views place ≡ some v
  pub happen : Happen z moment.shown.state events move shown
  -- the word that may have changed, and what it is now
  pub changed : ℕ
  pub word : ℕ
  pub shows_after :
      Shows z (after_move z (fold (after z) moment.shown.state events) move)
      (slice_set moment.words changed word) (slice_set moment.views place w)
  pub goes_on :
      IsOrder z (after_move z (fold (after z) moment.shown.state events) move)
      (slice_set moment.views place w) (entries ++ moment.shown.log)

-- one step of a seat with this entry, which comes last in the log: its number is how many entries the log had
abbrev pub IsEntry : Opening → List Event → Move → Shown → LogEntry → View → View → Type 0
IsEntry z events move shown entry v w = IsSteps z events move shown (entry ∷ []) v w

-- one step of a seat is this event, and has no entry
abbrev pub IsStep : Opening → Event → Shown → View → View → Type 0
IsStep z event shown v w = IsSteps z [] (makes event) shown [] v w
