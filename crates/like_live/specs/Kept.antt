-- How a live seat is kept, between two calls and within one.
use Rattle.std.specs.Prelude.{◌≡◌, ℕ, ◌+◌, ◌/◌, ◌<◌, ◌≤◌, length, All}
use Rattle.like_core.specs.Phase.{IsJoined, IsSplit}
use Rattle.like_core.specs.{OpeningLimits.service_limits, Post.pages_of, WorkerState.IsRunning}
use Rattle.like_tables.specs.{Home.Home, Home.IsHomeOf, StashView.StashView}
use Rattle.like_seat.specs.StationView.{IsStation, StationView, phase_at}
use Rattle.like_live.specs.LiveView.{HasLastsWithin, IsLive, IsOwn, RanNext, live_of}
use Rattle.like_live.specs.{LookRoom.RoomView, Types.Asked, Types.Found}

-- a live seat's parts agree: a worker's station, a stash of found looks, which users have which rank, the number of
-- pages, how many more looks may wait, and half of the room
pub record AreLiveSeatParts (s : StationView Asked) (found : StashView Found) (home : Home) (pages : ℕ) (room : RoomView)
    (half : ℕ) : Type 0 where
  pub live : IsLive (live_of s found)
  pub capacity : found.capacity ≡ s.stash.capacity
  pub home_is : IsHomeOf home s.last.share
  pub pages_are : pages ≡ pages_of s.post
  pub room_is : room.left + length s.stash.looks + length found.looks ≡ s.stash.capacity
  -- if looks are free to wait, they and those that wait are fewer than the room less its half
  pub early : 0 < room.free → room.free + length s.stash.looks + half < s.stash.capacity
  pub half_is : half ≡ s.stash.capacity / 2

-- a live seat's parts after a look at the phase word that showed a phase that it runs: what waits was asked in that
-- phase if it is split, and otherwise in the one before
pub record HasLooked (s : StationView Asked) (found : StashView Found) : Type 0 where
  pub station : IsStation s
  pub runs : IsRunning s.post.state
  pub limits : s.post.opening.limits ≡ service_limits
  pub home : s.last.share.submitters ≡ s.last.share.workers
  pub lasts : HasLastsWithin (pages_of s.post) s.last
  pub own : All (IsOwn s) s.stash.looks
  pub asked : IsSplit (phase_at s) → All (λ a. a.phase ≡ phase_at s) s.stash.looks
  pub before : IsJoined (phase_at s) → All (λ a. phase_at s ≡ a.phase + 1) s.stash.looks
  pub next : All RanNext found.looks
  pub capacity : found.capacity ≡ s.stash.capacity
  pub room : length s.stash.looks + length found.looks ≤ s.stash.capacity
