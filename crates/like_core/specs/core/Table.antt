-- The table of events: when each may happen, what it shows, and the numbers after it.
use Rattle.std.specs.Prelude.{List, fold, take, slice_get, Some, ◌≡◌, ◌≢◌, ℕ, ◌+◌, ◌^◌, ◌<◌, true, false, if◌then◌else◌}
use Rattle.like_limits.specs.Limits.{total_bound}
use Rattle.like_core.specs.Types.{Answered, CoordLook, CoordSight, Event, Gone, Look, Release, Runs, Seen, Shown, Sight}
use Rattle.like_core.specs.core.Numbers.{AllIn, CoordSees, Numbers, Sees, splits, total, with_like, with_look}
use Rattle.like_core.specs.core.Numbers.{with_more, with_state, with_unmerged}
use Rattle.like_core.specs.declared.event.Event.TheVariants.{Acknowledge, Announce, CoordRead, Hot, Like, Merge, Read}
use Rattle.like_core.specs.declared.event.Event.TheVariants.{Report, Retire}
use Rattle.like_core.specs.declared.pure_core.refusal.NotNow.TheVariants.{Full, Last, NoSuch, Phase}
use Rattle.like_core.specs.declared.pure_core.refusal.{NotNow.NotNow, Wrong.Wrong}
use Rattle.like_core.specs.declared.shown.Shown.TheVariants.{Coord, Count, Done, Hot as HotShown, Old, Sliced}
use Rattle.like_core.specs.{Functions.MayAll, Phase.IsJoined, Phase.IsSplit}

-- the worker and the page that the event names exist, and so does the page of each bit of its mask
abbrev pub NamesWhatIsThere : Numbers → Event → Type 0
NamesWhatIsThere n (Look i) = i < n.workers
NamesWhatIsThere n (Acknowledge i) = i < n.workers
NamesWhatIsThere n (Report i) = i < n.workers
NamesWhatIsThere n (Retire i) = i < n.workers
NamesWhatIsThere n (Like i page) = (i < n.workers) × (page < n.pages)
NamesWhatIsThere n (Read i page) = (i < n.workers) × (page < n.pages)
NamesWhatIsThere n (Merge i page) = (i < n.workers) × (page < n.pages)
NamesWhatIsThere n (Hot i) = i < n.workers
NamesWhatIsThere n (CoordRead page) = page < n.pages
NamesWhatIsThere n (Release mask) = mask < 2 ^ n.pages
NamesWhatIsThere n _ = Unit {0}

-- the event suits the workers' states, the kind of the phase and the unmerged likes
abbrev pub Suits : Numbers → Event → Type 0
Suits n (Look i) = n.state i ≢ Gone
Suits n (Acknowledge i) = (n.state i ≡ Runs n.phase) × IsJoined n.phase × (n.ending ≡ true)
Suits n (Report i) =
    (n.state i ≡ Runs n.phase) × IsSplit n.phase × (n.ending ≡ true)
    × ((page : ℕ) → n.unmerged i page ≡ 0)
Suits n (Retire i) = (n.state i ≡ Runs n.phase) × IsJoined n.phase
Suits n (Like i page) = n.state i ≡ Runs n.phase
Suits n (Read i page) = (n.state i ≡ Runs n.phase) × (splits n page ≡ false)
Suits n (Merge i page) = (n.state i ≡ Runs n.phase) × (splits n page ≡ true) × (n.ending ≡ true)
Suits n (Hot i) = (n.state i ≡ Runs n.phase) × IsSplit n.phase
Suits n Announce = n.ending ≡ false
Suits n (Release mask) = (n.ending ≡ true) × AllIn n × (IsSplit n.phase → mask ≡ 0)
Suits n _ = Unit {0}

-- the event does not announce the end of the last phase
abbrev pub LeavesLast : Numbers → Event → Type 0
LeavesLast n Announce = n.phase < n.limits.last_phase
LeavesLast n _ = Unit {0}

-- the event does not take a page's total to its bound
abbrev pub StaysBelowBound : Numbers → Event → Type 0
StaysBelowBound n (Like i page) = total n page + 1 < total_bound
StaysBelowBound n _ = Unit {0}

-- the event may happen
pub record Permits (n : Numbers) (event : Event) : Type 0 where
  pub there : NamesWhatIsThere n event
  pub suits : Suits n event
  pub leaves_last : LeavesLast n event
  pub room : StaysBelowBound n event

-- this is the first reason why the event may not happen
abbrev pub Refuses : Numbers → Event → NotNow → Type 0
Refuses n event NoSuch = ¬ NamesWhatIsThere n event
Refuses n event Phase = NamesWhatIsThere n event × ¬ Suits n event
Refuses n event Last = NamesWhatIsThere n event × Suits n event × ¬ LeavesLast n event
Refuses n event Full = NamesWhatIsThere n event × Suits n event × LeavesLast n event × ¬ StaysBelowBound n event

-- what the event shows
abbrev pub IsShown : Numbers → Event → Shown → Type 0
IsShown n (Look i) shown = ((sight : Sight) × (shown ≡ Seen sight) × Sees n i sight)
IsShown n (Like i page) shown = shown ≡ (if splits n page then Sliced else Old (n.count page))
IsShown n (Read i page) shown = shown ≡ Count (n.count page)
IsShown n (Merge i page) shown = shown ≡ Old (n.count page)
IsShown n (Hot i) shown = shown ≡ HotShown n.hot
IsShown n CoordLook shown = ((sight : CoordSight) × (shown ≡ Coord sight) × CoordSees n sight)
IsShown n (CoordRead page) shown = shown ≡ Count (n.count page)
IsShown n _ shown = shown ≡ Done

-- the numbers after the event
abbrev pub next : Numbers → Event → Numbers
next n (Look i) = with_look n i
next n (Acknowledge i) = with_state n i (Answered n.phase)
next n (Report i) = with_state n i (Answered n.phase)
next n (Retire i) = with_state n i Gone
next n (Like i page) =
    (if splits n page then with_like n i page else with_more n page 1)
next n (Merge i page) = with_more (with_unmerged n i page 0) page (n.unmerged i page)
next n Announce = record n { ending = true }
next n (Release mask) = record n { phase = n.phase + 1; ending = false; hot = mask }
next n _ = n

-- the events before the index may happen, and the one there is refused for the reason
pub record IsWrong (n : Numbers) (events : List Event) (wrong : Wrong) : Type 0 where
  pub before : MayAll next Permits n (take wrong.index events)
  pub event : Event
  pub at : slice_get events wrong.index ≡ Some event
  pub refused : Refuses (fold next n (take wrong.index events)) event wrong.reason
