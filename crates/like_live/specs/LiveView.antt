-- What a live seat is, as contracts see it.
use Rattle.std.specs.Prelude.{◌≡◌, ℕ, ◌+◌, ◌<◌, ◌≤◌, IsTrue, List, [], length, replicate, All, Some}
use Rattle.like_core.specs.{OpeningLimits.service_limits, Phase.IsJoined, Post.pages_of, Types.WorkerSeatView}
use Rattle.like_tables.specs.{Share.owns, StashView.StashView, UserTable.UserTable, UserTable.last_of}
use Rattle.like_seat.specs.StationView.{IsStation, StationView, phase_at, tally_of}
use Rattle.like_live.specs.Types.{Asked, Found}

-- a worker's station, with the looks that wait in its stash; and the looks that were found and not taken yet
pub record LiveView : Type 0 where
  pub station : StationView Asked
  pub found : List Found

-- the live seat of a worker's station and a stash of found looks
abbrev pub live_of : StationView Asked → StashView Found → LiveView
live_of s found = record { station = s; found = found.looks }

-- with this station
abbrev pub with_station : LiveView → StationView Asked → LiveView
with_station v s = record v { station = s }

-- the looks that wait, in the order of asking
abbrev pub waiting : LiveView → List Asked
waiting v = v.station.stash.looks

-- how many looks may wait, found ones included
abbrev pub room_of : LiveView → ℕ
room_of v = v.station.stash.capacity

-- a page's tally: how many likes of it the seat has added to its count, and how many are in its slice
abbrev pub tally : LiveView → ℕ → ℕ
tally v page = tally_of v.station page

-- no page's tally changes
abbrev pub KeepsTallies : LiveView → LiveView → Type 0
KeepsTallies v after = (page : ℕ) → tally after page ≡ tally v page

-- it is the same seat: of the same board, the same worker, with the same users
pub record IsSameSeat (v after : LiveView) : Type 0 where
  pub board : after.station.board ≡ v.station.board
  pub worker : after.station.post.worker ≡ v.station.post.worker
  pub marks : after.station.post.opening.marks ≡ v.station.post.opening.marks
  pub share : after.station.last.share ≡ v.station.last.share

-- the look is one that the seat can answer: its page exists, and its user is the seat's
pub record IsOwn (s : StationView Asked) (a : Asked) : Type 0 where
  pub there : a.page < pages_of s.post
  pub owned : IsTrue (owns s.last.share a.user)

-- each last like is of one of so many pages
abbrev pub HasLastsWithin : ℕ → UserTable → Type 0
HasLastsWithin pages users = (user page : ℕ) → last_of users user ≡ Some page → page < pages

-- a found look ran in the phase after the one in which it was asked
abbrev pub RanNext : Found → Type 0
RanNext f = f.phase ≡ f.asked.phase + 1

-- what is true of every live seat: its board is a service's; its users are those whose number modulo the number of
-- seats is its own, and their last likes are of pages that there are; nothing waits unless it runs or has answered a
-- split phase, and what waits was asked in that phase; what was found ran in the next phase; and no more looks wait or
-- were found than there is room for
pub record IsLive (v : LiveView) : Type 0 where
  pub station : IsStation v.station
  pub limits : v.station.post.opening.limits ≡ service_limits
  pub home : v.station.last.share.submitters ≡ v.station.last.share.workers
  pub lasts : HasLastsWithin (pages_of v.station.post) v.station.last
  pub split : IsJoined (phase_at v.station) → waiting v ≡ []
  pub own : All (IsOwn v.station) (waiting v)
  pub asked : All (λ a. a.phase ≡ phase_at v.station) (waiting v)
  pub next : All RanNext v.found
  pub room : length (waiting v) + length v.found ≤ room_of v

-- a live seat that has done nothing yet
pub record IsNewLive (board : List ℕ) (post : WorkerSeatView) (room : ℕ) (users : UserTable) (v : LiveView) : Type 0 where
  pub at_board : v.station.board ≡ board
  pub at_post : v.station.post ≡ post
  pub stash : v.station.stash ≡ record { looks = []; capacity = room }
  pub slice : v.station.slice ≡ replicate (pages_of post) 0
  pub sliced : v.station.sliced ≡ []
  pub last : v.station.last ≡ users
  pub found : v.found ≡ []
