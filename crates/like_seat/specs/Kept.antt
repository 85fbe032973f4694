-- How a station is kept: `W` is what waits, and `C` and `T` keep the likes of its slice and the numbers of their
-- buckets.
use Rattle.std.specs.Prelude.{◌≡◌, ◌↔◌, ℕ, ◌+◌, ◌<◌, ◌≤◌, nat_lt, Bool, true, false, ◌&&◌, ◌||◌, List, [], length, sum}
use Rattle.like_limits.specs.{Buckets.bucket, Buckets.buckets, Buckets.run_factor, Limits.hot_pages}
use Rattle.like_core.specs.Phase.{IsJoined, IsSplit, is_hot, is_hot_by, is_marked}
use Rattle.like_core.specs.{Additions.all_added, Functions.has_bit, OpeningLimits.AreLimits, OpeningLimits.has_slots}
use Rattle.like_core.specs.{PageSteps.additions_among, Post.IsFresh, Post.is_split_at, Post.pages_of, Slots.IsInSlot}
use Rattle.like_core.specs.{Types.Opening, Types.Runs, Types.WorkerSeatView, WorkerState.RunsSplit}
use Rattle.like_tables.specs.SplitSlice.{HasNumbers, IsSplitSlice, SplitSlice, bucket_in, by_page, has_split}
use Rattle.like_tables.specs.UserTable.{UserTable}
use Rattle.like_seat.specs.StationView.{IsStationOf, StationView}
use Rattle.like_seat.specs.{Steps.masks_entered, declared.tables.Tables.Tables}

-- the station of a post and what is kept beside it
abbrev pub view_of : {W C : Type 0} → List ℕ → WorkerSeatView → Tables W C → StationView W
view_of board post t = record {
  board = board;
  post = post;
  stash = t.stash;
  slice = by_page t.slice (pages_of post);
  sliced = t.sliced.likes;
  last = t.last;
}

-- its slice has just the pages that are split in the split phase that it runs, and none in any other
abbrev pub SplitsPages : WorkerSeatView → SplitSlice → Type 0
SplitsPages post s =
    (page : ℕ)
    → (has_split s page ≡ true)
    ↔ (RunsSplit post.state × (page < pages_of post) × (is_split_at post page ≡ true))

-- a board of a run, with these marks: there are no more pages than buckets, and page i has bucket i
pub record IsOfRun (z : Opening) (its : List Bool) : Type 0 where
  pub plain : has_slots z.limits ≡ false
  pub marks : z.marks ≡ its
  pub small : length z.marks ≤ buckets
  pub factor : z.factor ≡ run_factor

-- a new post of a board of a run, with these marks
pub record IsNewOfRun (marks : List Bool) (post : WorkerSeatView) : Type 0 where
  pub fresh : IsFresh post
  pub limits : AreLimits post.opening.limits
  pub few_pages : pages_of post ≤ post.opening.limits.pages
  pub run : IsOfRun post.opening marks

-- a board of a service: no page is marked there
pub record IsOfService (z : Opening) : Type 0 where
  pub slotted : has_slots z.limits ≡ true
  pub unmarked : (page : ℕ) → is_marked z.marks page ≡ false

-- the tables are those of this post
pub record IsKept {W C : Type 0} (post : WorkerSeatView) (t : Tables W C) : Type 0 where
  pub run : has_slots post.opening.limits ≡ false → IsOfRun post.opening t.marks.items
  pub service : has_slots post.opening.limits ≡ true → IsOfService post.opening
  pub state : post.state ≡ t.state
  pub slice : IsSplitSlice t.slice
  pub factor : t.slice.splits.factor ≡ post.opening.factor
  pub numbers : HasNumbers t.slice (pages_of post)
  pub splits : SplitsPages post t.slice
  pub sums : sum (by_page t.slice (pages_of post)) ≡ sum t.slice.counts
  pub likes : t.likes.likes ≡ all_added (additions_among post.did) + sum (by_page t.slice (pages_of post))
  pub station : IsStationOf post t.stash (by_page t.slice (pages_of post))

-- the tables of a station that has done nothing yet, with these marks and this slice, which is empty
pub record AreNew {W C : Type 0} (marks : List Bool) (empty : SplitSlice) (room : ℕ) (users : UserTable) (t : Tables W C)
    : Type 0 where
  pub marks_are : t.marks.items ≡ marks
  pub state : t.state ≡ Runs 0
  pub stash : t.stash ≡ record { looks = []; capacity = room }
  pub slice : t.slice ≡ empty
  pub sliced : t.sliced.likes ≡ []
  pub likes : t.likes.likes ≡ 0
  pub last : t.last ≡ users

-- a slice that has no split page, and may get some
pub record IsUnsplit (s : SplitSlice) (f : ℕ) : Type 0 where
  pub slice : IsSplitSlice s
  pub factor : s.splits.factor ≡ f
  pub none : (page : ℕ) → has_split s page ≡ false

-- just those of the first n pages that pass a test are split now, and the numbers are as before
pub record IsFilled (s : SplitSlice) (n : ℕ) (test : ℕ → Bool) (after : SplitSlice) : Type 0 where
  pub slice : IsSplitSlice after
  pub factor : after.splits.factor ≡ s.splits.factor
  pub counts : after.counts ≡ s.counts
  pub splits : (page : ℕ) → has_split after page ≡ (nat_lt page n && test page)

-- a page is marked, or hot by this mask in a run
abbrev pub is_split_in_run : List Bool → ℕ → ℕ → Bool
is_split_in_run marks mask page = is_marked marks page || is_hot mask page

-- a page is marked, or hot by this mask
abbrev pub is_split_by : WorkerSeatView → ℕ → ℕ → Bool
is_split_by post mask page = is_marked post.opening.marks page || is_hot_by post.opening.limits.hot mask page

-- no two slots in use have pages of one bucket
abbrev pub AreSlotsApart : ℕ → (ℕ → ℕ) → ℕ → Type 0
AreSlotsApart factor slots word =
    (i j : ℕ) → i < hot_pages → j < hot_pages → has_bit word i ≡ true → has_bit word j ≡ true
    → bucket factor (slots i) ≡ bucket factor (slots j) → i ≡ j

-- the slice has a number for the page in each slot in use
abbrev pub HaveSlotsNumbers : SplitSlice → (ℕ → ℕ) → ℕ → Type 0
HaveSlotsNumbers s slots word =
    (i : ℕ) → i < hot_pages → has_bit word i ≡ true → bucket_in s (slots i) < length s.counts

-- just the pages in those of the first n slots that are in use are split now, and the numbers are as before
pub record IsFilledBySlots (s : SplitSlice) (slots : ℕ → ℕ) (word n : ℕ) (after : SplitSlice) : Type 0 where
  pub slice : IsSplitSlice after
  pub factor : after.splits.factor ≡ s.splits.factor
  pub counts : after.counts ≡ s.counts
  pub splits : (page : ℕ) → (has_split after page ≡ true) ↔ IsInSlot slots word n page

-- the post runs the phase, and its slice may get split pages; of its limits the pages that may be hot are known. It has
-- read no slots of the phase
pub record MayEnter (post : WorkerSeatView) (s : SplitSlice) (phase : ℕ) : Type 0 where
  pub runs : post.state ≡ Runs phase
  pub unread : post.slots ≡ []
  pub limits : AreLimits post.opening.limits
  pub few_pages : pages_of post ≤ post.opening.limits.pages
  pub unsplit : IsUnsplit s post.opening.factor
  pub numbers : HasNumbers s (pages_of post)

-- it runs the phase that its post runs. Of a split one the mask was read, which is this, and its slice is filled
pub record EntersBy {W C : Type 0} (post : WorkerSeatView) (phase mask : ℕ) (now : WorkerSeatView) (t after : Tables W C) : Type 0 where
  pub at_post : now ≡ record post { masks = masks_entered post.masks phase mask }
  pub rest : after ≡ record t { state = Runs phase; slice = after.slice }
  pub split : IsSplit phase → IsFilled t.slice (pages_of post) (is_split_by post mask) after.slice
  pub joined : IsJoined phase → after.slice ≡ t.slice

abbrev pub Enters : {W C : Type 0} → WorkerSeatView → ℕ → WorkerSeatView → Tables W C → Tables W C → Type 0
Enters post phase now t after = (mask : ℕ) × EntersBy post phase mask now t after
