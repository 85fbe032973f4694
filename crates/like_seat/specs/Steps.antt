-- What each step of a station does to it. One that has an entry in the board's log has its number in the view after it.
use Rattle.std.specs.Prelude.{◌≡◌, ◌≢◌, ℕ, ◌+◌, ◌%◌, ◌<◌, ◌≤◌, ◌==◌, if◌then◌else◌, true, false, List, [], ◌∷◌, ◌++◌, drop, length, replicate, slice_index, slice_set, Option, Some, MatchOption}
use Rattle.like_limits.specs.Buckets.{bucket}
use Rattle.like_core.specs.Post.{added, additions_of, has_glanced, has_read, is_split_at, looked_at, number_of}
use Rattle.like_core.specs.Post.{pages_of, returned}
use Rattle.like_core.specs.WorkerState.{IsRunning, IsSightOf, SeesEndingStill, phase_of, seen}
use Rattle.like_core.specs.{Types.Sight, Types.WorkerSeatView, declared.view.PhaseMask.PhaseMask}
use Rattle.like_tables.specs.UserTable.{UserTable, last_of, with_last}
use Rattle.like_seat.specs.StationView.{IsStation, StationView, tally_of}
use Rattle.like_seat.specs.{SlicedLike.sliced_like, declared.merged.Merged.Merged, declared.seen.Seen.Seen}

-- a station that has done nothing yet: it holds nothing, its slice is empty, and no like ever went into it
pub record IsNewStation {W : Type 0} (board : List ℕ) (post : WorkerSeatView) (room : ℕ) (users : UserTable) (s : StationView W)
    : Type 0 where
  pub is : IsStation s
  pub at_board : s.board ≡ board
  pub at_post : s.post ≡ post
  pub stash : s.stash ≡ record { looks = []; capacity = room }
  pub slice : s.slice ≡ replicate (pages_of post) 0
  pub sliced : s.sliced ≡ []
  pub last : s.last ≡ users

-- the masks that a station has read that enters a phase: of a split one also its mask, which is this
abbrev pub masks_entered : List PhaseMask → ℕ → ℕ → List PhaseMask
masks_entered masks phase mask =
    if phase % 2 == 1 then record { phase = phase; mask = mask } ∷ masks else masks

-- the masks that a station has read that goes from one phase to another, or stays
abbrev pub masks_in : List PhaseMask → ℕ → ℕ → ℕ → List PhaseMask
masks_in masks from to mask = if to == from then masks else masks_entered masks to mask

-- the post after a look, with this number: where it enters a split phase it has also read that phase's mask, which is this
abbrev pub saw_at : WorkerSeatView → Sight → ℕ → ℕ → WorkerSeatView
saw_at post sight mask number = record (looked_at post sight number) {
  masks = masks_in post.masks (phase_of post.state) (phase_of (seen post.state sight)) mask;
}

-- the station after a look
abbrev pub saw : {W : Type 0} → StationView W → Sight → ℕ → ℕ → StationView W
saw s sight mask number = record s { post = saw_at s.post sight mask number }

-- a worker's station looks, and sees this
abbrev pub Looks : {W : Type 0} → StationView W → Sight → StationView W → Type 0
Looks s sight after = (mask : ℕ) × (after ≡ saw s sight mask (number_of after.post))

-- a look, and what it shows: the phase that the station is in, or the next; and the end of a phase that it has shown
-- before. The station then runs a phase, unless it waits
pub record LooksAndEnters {W : Type 0} (s : StationView W) (shown : Sight) (after : StationView W) : Type 0 where
  pub sight : IsSightOf s.post.state shown
  pub ending : SeesEndingStill s.post.state s.post.last shown
  pub looks : Looks s shown after
  pub runs : shown.waits ≡ false → IsRunning after.post.state
  pub station : IsStation after

-- the post after it came back into a phase, with this number; of a split one it has also read that phase's mask, which is
-- this
abbrev pub returned_at : WorkerSeatView → ℕ → ℕ → ℕ → WorkerSeatView
returned_at post phase mask number = record (returned post phase number) { masks = masks_entered post.masks phase mask }

-- the station after it came back into a phase
abbrev pub came_back : {W : Type 0} → StationView W → ℕ → ℕ → ℕ → StationView W
came_back s phase mask number = record s { post = returned_at s.post phase mask number }

-- a station comes back, into some phase
abbrev pub ComesBack : {W : Type 0} → StationView W → StationView W → Type 0
ComesBack s after = (phase : ℕ) × ((mask : ℕ) × (after ≡ came_back s phase mask (number_of after.post)))

-- one more like of a page in the slice, after all looks so far
abbrev pub sliced : {W : Type 0} → StationView W → ℕ → StationView W
sliced s page = record s {
  slice = slice_set s.slice page (slice_index s.slice page + 1);
  sliced = s.sliced ++ sliced_like page (length s.post.looks) ∷ [];
}

-- n is added to a page's count on the board, which was this before, with this number
abbrev pub with_addition : {W : Type 0} → StationView W → ℕ → ℕ → ℕ → ℕ → StationView W
with_addition s page old n number = record s { post = added s.post page old n number }

-- the user's last like is of this page
abbrev pub liked_last : {W : Type 0} → StationView W → ℕ → ℕ → StationView W
liked_last s user page = record s { last = with_last s.last user page }

-- a user's like of a page is counted, and is the user's last: in the slice, where the page is split, else on the board,
-- where the page's count was the one that is returned
abbrev pub CountsLike : {W : Type 0} → StationView W → ℕ → ℕ → Option ℕ → StationView W → Type 0
CountsLike s user page old after =
    MatchOption old
    ((is_split_at s.post page ≡ true) × (after ≡ liked_last (sliced s page) user page))
    (λ count. (is_split_at s.post page ≡ false)
    × (after ≡ liked_last (with_addition s page count 1 (number_of after.post)) user page))

-- a like of a page that is not split is counted, whatever the page's count was
abbrev pub CountsOnBoard : {W : Type 0} → StationView W → ℕ → ℕ → StationView W → Type 0
CountsOnBoard s user page after = (old : ℕ) × CountsLike s user page (Some old) after

-- a page is read for a user's look: the user's last like is shown, and the page's count
pub record Reads {W : Type 0} (s : StationView W) (user page : ℕ) (shown : Seen) (after : StationView W)
    : Type 0 where
  pub last : shown.last ≡ last_of s.last user
  pub own : additions_of s.post page ≤ shown.count
  pub read : after ≡ record s { post = has_read s.post page shown.count (number_of after.post) }

-- a page that is split is glanced at for a user's look: the user's last like is shown, and the page's count with the
-- station's slice of it, which has all likes that the station has counted
pub record Glances {W : Type 0} (s : StationView W) (user page : ℕ) (shown : Seen) (after : StationView W)
    : Type 0 where
  pub count : ℕ
  pub last : shown.last ≡ last_of s.last user
  pub counts : shown.count ≡ count + slice_index s.slice page
  pub own : tally_of s page ≤ shown.count
  pub glanced : after ≡ record s { post = has_glanced s.post page count (number_of after.post) }

-- one more waits, behind all others
abbrev pub stashing : {W : Type 0} → StationView W → W → StationView W
stashing s w = record s { stash = record s.stash { looks = s.stash.looks ++ w ∷ [] } }

-- without the first look in its stash
abbrev pub without_first : {W : Type 0} → StationView W → StationView W
without_first s = record s { stash = record s.stash { looks = drop 1 s.stash.looks } }

-- a page's likes are added to its count, which was this, with this number, and its slice is emptied
abbrev pub merged_page : {W : Type 0} → StationView W → ℕ → ℕ → ℕ → StationView W
merged_page s page old number =
    let t = with_addition s page old (slice_index s.slice page) number in
    record t { slice = slice_set s.slice page 0 }

-- no page with its bucket from `from` on has a like in the slice
abbrev pub NoneFrom : ℕ → List ℕ → ℕ → Type 0
NoneFrom factor slice from = (page : ℕ) → from ≤ bucket factor page → slice_index slice page ≡ 0

-- the page is the first, by the pages' buckets from `from` on, that has a like in the slice
pub record IsNext (factor : ℕ) (slice : List ℕ) (from page : ℕ) : Type 0 where
  pub after : from ≤ bucket factor page
  pub there : page < length slice
  pub liked : slice_index slice page ≢ 0
  pub first : (other : ℕ) → from ≤ bucket factor other → bucket factor other ≤ bucket factor page → other ≢ page
      → slice_index slice other ≡ 0

-- a page's likes were merged, all of them
pub record MergesPage {W : Type 0} (s : StationView W) (from : ℕ) (m : Merged) (after : StationView W)
    : Type 0 where
  pub next : IsNext s.post.opening.factor s.slice from m.page
  pub likes : m.likes ≡ slice_index s.slice m.page
  pub merged : after ≡ merged_page s m.page m.old (number_of after.post)

-- the first page, by the pages' buckets from `from` on, that has a like is merged, if there is one
abbrev pub MergesNext : {W : Type 0} → StationView W → ℕ → Option Merged → StationView W → Type 0
MergesNext s from merged after =
    MatchOption merged
    (NoneFrom s.post.opening.factor s.slice from × (after ≡ s))
    (λ m. MergesPage s from m after)
