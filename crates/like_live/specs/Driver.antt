-- What a driver does in its calls.
use Rattle.std.specs.Prelude.{◌≡◌, ◌≢◌, ℕ, zero, suc, ◌+◌, ◌||◌, ◌<◌, ◌≤◌, nat_lt, Bool, true, false, List, [], length, replicate, slice_index, Vec, vec_capacity, Option, Some, None}
use Rattle.std.specs.declared.alloc.Global.{Global}
use Rattle.like_core.specs.{OpeningLimits.service_limits, Phase.IsJoined, Phase.IsSplit, Types.Coord, Types.CoordSight}
use Rattle.like_core.specs.{views.Places.count_after, views.Shows.IsKnown, views.Shows.IsLastMoment}
use Rattle.like_board.specs.{Rule.opened_coord, Seats.BoardId, declared.worker_seat.WorkerSeat.WorkerSeat}
use Rattle.like_choice.specs.Slots.{AreSlots, Chooses}
use Rattle.like_seat.specs.Lead.{LeadView, Sees, announced, new_lead, published_choice, released, with_counts}
use Rattle.like_live.specs.Splits.{AreSplitsOf, KeepsMarked, Proposes, SplitsView, new_splits, would_split}
use Rattle.like_live.specs.declared.driver_answer.DriverAnswer.TheVariants.{Announced, Ended, Released, Running}
use Rattle.like_live.specs.declared.driver_answer.DriverAnswer.TheVariants.{Waiting}
use Rattle.like_live.specs.declared.driver_end.End.TheVariants.{Always, IfItServes, No}
use Rattle.like_live.specs.{Opening.board_opening, Types.DriverAnswer, Types.End, Types.Opening}

-- a driver: its lead; which pages are split, and which are proposed; whether it heard a seat ask for the end of the
-- phase; and whether its service is over, since it has written last counts
pub record DriverView : Type 0 where
  pub lead : LeadView
  pub splits : SplitsView
  pub hinted : Bool
  pub is_over : Bool

-- the driver with this lead and these pages, what it heard, and whether its service is over
abbrev pub driver_of : LeadView → SplitsView → Bool → Bool → DriverView
driver_of lead splits hinted is_over = record { lead = lead; splits = splits; hinted = hinted; is_over = is_over }

-- the driver chooses slots for the proposed pages, and publishes them
pub record PublishesSlots (v after : DriverView) : Type 0 where
  pub chooses : Chooses v.splits.slots v.splits.proposed after.splits.slots
  pub lawful : AreSlots after.splits.slots
  pub publishes : after.lead ≡ published_choice v.lead after.splits.slots.slots after.splits.slots.bits
  pub rest : after ≡ record v {
    lead = after.lead;
    splits = record v.splits { slots = after.splits.slots; held = after.lead.seat.slots };
  }

-- it releases the next phase: before a split one it gives slots to the pages that are split in it
pub data ReleasesNext (v after : DriverView) : Type 0 where
  releases_joined : IsSplit v.lead.seat.phase → after ≡ record v { lead = released v.lead } → ReleasesNext v after
  releases_split : IsJoined v.lead.seat.phase → (chosen : DriverView) → PublishesSlots v chosen
      → after ≡ record chosen { lead = released chosen.lead } → ReleasesNext v after

-- all seats have left a joined phase
pub record IsLeft (v : LeadView) (sight : CoordSight) : Type 0 where
  pub joined : IsJoined v.seat.phase
  pub all_gone : sight.all_gone ≡ true

-- the phase may end: it is not a service's last, and no joined one that all seats have left, since nobody would run the
-- next
pub record MayEnd (v : LeadView) (sight : CoordSight) : Type 0 where
  pub goes_on : v.seat.phase < service_limits.last_phase
  pub left : ¬ IsLeft v sight

-- whether the host asks for the end of a joined phase: never; if something would be split in the next; or in any case
abbrev pub asks_end : End → SplitsView → Bool
asks_end No s = false
asks_end IfItServes s = would_split s
asks_end Always s = true

-- whether a joined phase is due to end, if it may. Only if its host may want that, and nothing would be split in the
-- next, the driver first asks its choice. Otherwise the same pages stay proposed
pub data EndsJoined (s : SplitsView) (end : End) (is_due : Bool) (after : SplitsView) : Type 0 where
  unasked : end ≡ No → is_due ≡ false → after ≡ s → EndsJoined s end is_due after
  as_proposed : end ≢ No → would_split s ≡ true → is_due ≡ true → after ≡ s → EndsJoined s end is_due after
  proposes : end ≢ No → would_split s ≡ false → Proposes s after → is_due ≡ asks_end end after
      → EndsJoined s end is_due after

-- whether a split phase is due to end, if it may: its host wants that; or it doesn't, and the driver hears that a seat
-- does. Before it ends, the driver asks its choice. Otherwise the same pages stay proposed
pub data EndsSplit (s : SplitsView) (hinted : Bool) (end : End) (is_due : Bool) (after : SplitsView) (heard : Bool)
    : Type 0 where
  by_host : end ≢ No → heard ≡ hinted → is_due ≡ true → Proposes s after → EndsSplit s hinted end is_due after heard
  by_seat : end ≡ No → heard ≡ true → is_due ≡ true → Proposes s after → EndsSplit s hinted end is_due after heard
  unasked : end ≡ No → heard ≡ false → is_due ≡ false → after ≡ s → EndsSplit s hinted end is_due after heard

-- whether the phase that a look showed running is due to end, and what is proposed
pub data Decides (v : DriverView) (sight : CoordSight) (end : End) (is_due : Bool) (after : DriverView) : Type 0 where
  must_go_on : ¬ MayEnd v.lead sight → is_due ≡ false → after ≡ v → Decides v sight end is_due after
  ends_joined : MayEnd v.lead sight → IsJoined v.lead.seat.phase → EndsJoined v.splits end is_due after.splits
      → after ≡ record v { splits = after.splits } → Decides v sight end is_due after
  ends_split : MayEnd v.lead sight → IsSplit v.lead.seat.phase
      → EndsSplit v.splits v.hinted end is_due after.splits after.hinted
      → after ≡ record v { splits = after.splits; hinted = after.hinted } → Decides v sight end is_due after

-- the cases of a turn whose look showed this: each does at most one thing. A phase that is ending is released once all
-- are in, and what the driver heard counts no more. The end of one that runs is announced if it is due
pub data DriverCase (v : DriverView) (sight : CoordSight) (end : End)
    (answer : DriverAnswer) (after : DriverView) : Type 0 where
  waiting : sight.ending ≡ true → sight.all_in ≡ false
      → answer ≡ Waiting → after ≡ v → DriverCase v sight end answer after
  releases : sight.ending ≡ true → sight.all_in ≡ true
      → answer ≡ Released → ReleasesNext (record v { hinted = false }) after → DriverCase v sight end answer after
  announces : (now : DriverView) → sight.ending ≡ false → Decides v sight end true now
      → answer ≡ Announced → after ≡ record now { lead = announced now.lead } → DriverCase v sight end answer after
  running : sight.ending ≡ false → sight.all_gone ≡ false → Decides v sight end false after
      → answer ≡ Running → DriverCase v sight end answer after
  ended : sight.ending ≡ false → sight.all_gone ≡ true → Decides v sight end false after
      → answer ≡ Ended → DriverCase v sight end answer after

-- it looks, which is the event of the core, and does what the sight asks for
pub record Acts (v : DriverView) (end : End) (answer : DriverAnswer) (after : DriverView) : Type 0 where
  pub sight : CoordSight
  pub seen : LeadView
  pub sees : Sees v.lead sight seen
  pub case : DriverCase (record v { lead = seen }) sight end answer after

-- a turn: a driver acts, until it has written last counts. Then its service is over, and it does nothing more
pub data DriverTurns (v : DriverView) (end : End) (answer : DriverAnswer) (after : DriverView) : Type 0 where
  acts : v.is_over ≡ false → Acts v end answer after → DriverTurns v end answer after
  over : v.is_over ≡ true → answer ≡ Ended → after ≡ v → DriverTurns v end answer after

-- the counts of all pages can be read as those of one moment: a joined phase is ending, and each seat has answered it
-- or is gone
pub record IsBoundary (v : LeadView) (sight : CoordSight) : Type 0 where
  pub joined : IsJoined v.seat.phase
  pub ending : sight.ending ≡ true
  pub all_in : sight.all_in ≡ true

-- the two cases of a snapshot whose look showed this: the counts of the pages from this one on are read and written
-- down, with the phase; or nothing is done
pub data SnapshotCase (v : LeadView) (sight : CoordSight) (from : ℕ) (old : List ℕ) (phase : Option ℕ)
    (after : LeadView) (counts : List ℕ) : Type 0 where
  taken : IsBoundary v sight → phase ≡ Some v.seat.phase → length counts ≡ length old
      → after ≡ with_counts v from counts
      → SnapshotCase v sight from old phase after counts
  not_now : ¬ IsBoundary v sight → phase ≡ None → counts ≡ old → after ≡ v
      → SnapshotCase v sight from old phase after counts

-- the driver looks, and reads the counts if it may; there is a moment at which this is what it knows after that
pub record ReadsBoundary (v : LeadView) (from : ℕ) (old : List ℕ) (phase : Option ℕ) (after : LeadView)
    (counts : List ℕ) : Type 0 where
  pub sight : CoordSight
  pub seen : LeadView
  pub sees : Sees v sight seen
  pub case : SnapshotCase seen sight from old phase after counts
  pub known : IsKnown v.seat.opening (Coord after.seat)

-- a snapshot of the pages from this one on; once the service is over there is none
pub data TakesSnapshot (v : DriverView) (from : ℕ) (old : List ℕ) (phase : Option ℕ) (after : DriverView)
    (counts : List ℕ) : Type 0 where
  reads : v.is_over ≡ false → ReadsBoundary v.lead from old phase after.lead counts
      → after ≡ record v { lead = after.lead } → TakesSnapshot v from old phase after counts
  none_once_over : v.is_over ≡ true → phase ≡ None → counts ≡ old → after ≡ v
      → TakesSnapshot v from old phase after counts

-- the driver looks whether all seats have left a joined phase that is ending. If nobody announced its end, it does so,
-- unless the phase is a service's last, and looks again
pub data LooksForEnd (v : LeadView) (is_end : Bool) (after : LeadView) : Type 0 where
  goes_on : (sight : CoordSight) → Sees v sight after → ¬ IsLeft after sight
      → is_end ≡ false → LooksForEnd v is_end after
  is_last : (sight : CoordSight) → Sees v sight after → IsLeft after sight → sight.ending ≡ false
      → nat_lt after.seat.phase service_limits.last_phase ≡ false
      → is_end ≡ false → LooksForEnd v is_end after
  is_ending : (sight : CoordSight) → Sees v sight after → IsLeft after sight → sight.ending ≡ true
      → is_end ≡ true → LooksForEnd v is_end after
  ends : (sight again : CoordSight) (seen : LeadView) → Sees v sight seen → IsLeft seen sight → sight.ending ≡ false
      → nat_lt seen.seat.phase service_limits.last_phase ≡ true → Sees (announced seen) again after
      → is_end ≡ again.all_gone → LooksForEnd v is_end after

-- these are last counts, of the pages from this one on: there is a moment at which this is what the driver knows and all
-- seats are gone, and each is its page's first count and all that the seats have added by then
pub record AreLastCounts (v : LeadView) (from : ℕ) (counts : List ℕ) : Type 0 where
  pub end : IsLastMoment v.seat.opening v.seat
  pub totals : (i : ℕ) → i < length counts
      → slice_index counts i ≡ count_after v.seat.opening.counts end.moment.views (from + i)

-- if the driver sees the end, it reads the counts of the pages from this one on, and they are last counts; else nothing
-- is written
pub data ReadsLast (v : LeadView) (from : ℕ) (old : List ℕ) (is_done : Bool) (after : LeadView) (counts : List ℕ)
    : Type 0 where
  not_ended : LooksForEnd v false after → is_done ≡ false → counts ≡ old → ReadsLast v from old is_done after counts
  counted : (now : LeadView) → LooksForEnd v true now → length counts ≡ length old
      → after ≡ with_counts now from counts → AreLastCounts after from counts
      → is_done ≡ true → ReadsLast v from old is_done after counts

-- last counts are asked for, of the pages from this one on. Once they are written, the service is over
pub record TakesLast (v : DriverView) (from : ℕ) (old : List ℕ) (is_done : Bool) (after : DriverView) (counts : List ℕ)
    : Type 0 where
  pub case : ReadsLast v.lead from old is_done after.lead counts
  pub over : after ≡ record v { lead = after.lead; is_over = is_done || v.is_over }

-- last counts were asked for so often
abbrev pub AsksLast : LeadView → ℕ → LeadView → Type 0
AsksLast v zero after = after ≡ v
AsksLast v (suc n) after =
    (now : LeadView) × (from : ℕ) × (old : List ℕ) × (counts : List ℕ) × (is_done : Bool)
    × ReadsLast v from old is_done now counts × AsksLast now n after

-- last counts stay: once they were written, they are written whenever they are asked for, and a page has the same count
abbrev pub LastCountsStay : Type 0
LastCountsStay =
    (u v w x : DriverView) (n from next : ℕ) (old others counts later : List ℕ) (is_done : Bool)
    → TakesLast u from old true v counts → AsksLast v.lead n w.lead → TakesLast w next others is_done x later
    → (is_done ≡ true) × ((i j : ℕ) → i < length counts → j < length later → from + i ≡ next + j
    → slice_index counts i ≡ slice_index later j)

-- what is true of every driver: its board has the limits of a service, no more pages than these allow, and no mark; and
-- its slots are lawful, and those with which it released the present or last split phase
pub record IsService (v : DriverView) : Type 0 where
  pub few_pages : length v.lead.seat.opening.counts ≤ service_limits.pages
  pub plain : v.lead.seat.opening.marks ≡ replicate (length v.lead.seat.opening.counts) false
  pub limits : v.lead.seat.opening.limits ≡ service_limits
  pub splits : AreSplitsOf v.lead.seat v.splits

-- it is the same driver: of the same board, which was opened alike, with the marked pages in the same slots
pub record IsSameDriver (v after : DriverView) : Type 0 where
  pub board : after.lead.board ≡ v.lead.board
  pub opening : after.lead.seat.opening ≡ v.lead.seat.opening
  pub marked : KeepsMarked v.splits.slots after.splits.slots

-- a driver's parts agree: its lead is that of its board, and it knows how many pages there are
pub record AreDriverParts (board : BoardId) (pages : ℕ) (v : DriverView) : Type 0 where
  pub here : v.lead.board ≡ board
  pub pages_is : pages ≡ length v.lead.seat.opening.counts
  pub service : IsService v

-- there is room for the workers' seats that are given back, and none is yet
pub record HasRoom (back : Vec WorkerSeat Global) (v : DriverView) : Type 0 where
  pub none : back.items ≡ []
  pub enough : v.lead.seat.opening.workers ≤ vec_capacity back

-- a new driver at this board, by this factor: it has done nothing yet
abbrev pub new_driver : Opening → ℕ → BoardId → List ℕ → Bool → DriverView
new_driver o factor board told finds = record {
  lead = new_lead board (opened_coord (board_opening o factor)) None o.counts.items;
  splits = new_splits factor (length o.counts.items) o.marks.items told finds;
  hinted = false;
  is_over = false;
}
