-- What a worker is, as contracts see it.
use Rattle.std.specs.Prelude.{◌≡◌, ℕ, ◌+◌, ◌-◌, ◌<◌, nat_le, if◌then◌else◌, Bool, true, false, List, [], length, slice_index_or, Option}
use Rattle.like_requests.specs.{Types.Request, Verdict.is_known, Verdict.verdict_of}
use Rattle.like_core.specs.{Post.is_split_at, Types.WorkerSeatView, WorkerState.phase_of}
use Rattle.like_tables.specs.Share.{Share, submitter_of}
use Rattle.like_tables.specs.{StashView.StashView, UserTable.UserTable, declared.held.Held.Held}
use Rattle.like_seat.specs.{SlicedLike.SlicedLike, StationView.StationView}
use Rattle.like_promises.specs.{Asked.asked_by, Order.must_wait, Store.Ask, Types.Added, Types.Ran, Types.Took}

-- its post; its stash, which is its backlog in a joined phase; its slice, a
-- number for each page; all likes that ever went into its slice, in order; for each of its submitters by rank, how many
-- requests of it were not taken yet and whether its end mark was taken; the rank at which it looks for a submitter
-- next; the rank of the submitter that it tries, if it tries one; the last likes of its users; what it took and what it
-- ran; whether it notes its additions, and those that it noted
pub record WorkerView : Type 0 where
  pub post : WorkerSeatView
  pub stash : StashView Held
  pub slice : List ℕ
  pub sliced : List SlicedLike
  pub left : List ℕ
  pub ended : List Bool
  pub cursor : ℕ
  pub pending : Option ℕ
  pub last : UserTable
  pub taken : List Took
  pub ran : List Ran
  pub notes : Bool
  pub adds : List Added

-- the station of a worker, whichever board it is at
abbrev pub station_of : WorkerView → StationView Held
station_of v = record { board = []; post = v.post; stash = v.stash; slice = v.slice; sliced = v.sliced; last = v.last }

-- with its station like this, and all else the same
abbrev pub with_station : WorkerView → StationView Held → WorkerView
with_station v s = record v { post = s.post; stash = s.stash; slice = s.slice; sliced = s.sliced; last = s.last }

-- the phase that it runs or has answered
abbrev pub phase_at : WorkerView → ℕ
phase_at v = phase_of v.post.state

-- the submitter at a rank: w, w + N, w + 2 N, .. for worker w of N
abbrev pub submitter_at : WorkerView → ℕ → ℕ
submitter_at v rank = submitter_of v.last.share.workers v.last.share.worker rank

-- it took the end mark of each of its submitters
abbrev pub TookAllEnds : List Bool → Type 0
TookAllEnds ended = (rank : ℕ) → rank < length ended → slice_index_or ended rank true ≡ true

-- how many steps there are from one rank to another of n, going up, and from the last rank on to the first
abbrev pub steps_between : ℕ → ℕ → ℕ → ℕ
steps_between n from to = if nat_le from to then to - from else to + n - from

-- the rank is the first at or after the cursor, in cyclic order, whose submitter's end mark was not taken
pub record IsNextOpen (ended : List Bool) (cursor rank : ℕ) : Type 0 where
  pub there : rank < length ended
  pub not_ended : slice_index_or ended rank true ≡ false
  pub first : (other : ℕ) → other < length ended
      → steps_between (length ended) cursor other < steps_between (length ended) cursor rank
      → slice_index_or ended other true ≡ true

-- what a submitter's request asks of a worker with these users
abbrev pub asked_in : Share → ℕ → Request → Ask
asked_in users submitter r =
    asked_by (verdict_of users.users users.submitters submitter r.user (is_known r.page)) r.op r.user r.page

-- whether a request of a submitter has to wait for the next joined phase, of a worker at this post with these users
abbrev pub waits_at : WorkerSeatView → Share → ℕ → Request → Bool
waits_at post users submitter r = must_wait (is_split_at post) (asked_in users submitter r)

abbrev pub has_to_wait : WorkerView → ℕ → Request → Bool
has_to_wait v submitter r = waits_at v.post v.last.share submitter r
