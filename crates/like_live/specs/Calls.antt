-- The calls of a live seat, case by case.
use Rattle.std.specs.Prelude.{◌≡◌, ◌≢◌, ℕ, ◌+◌, ◌<◌, ◌==◌, nat_lt, if◌then◌else◌, Bool, true, false, drop, length, slice_get, Option}
use Rattle.like_requests.specs.{Types.Accepted, Types.Verdict, Verdict.verdict_of}
use Rattle.like_core.specs.WorkerState.{RunsJoined, RunsSplit}
use Rattle.like_core.specs.{Post.is_split_at, Post.pages_of, Post.retired, Types.WorkerState as state}
use Rattle.like_tables.specs.{Ranked.IsRanked, UserTable.UserTable, UserTable.with_last, declared.ranked.Ranked.Ranked}
use Rattle.like_seat.specs.{StationView.StationView, StationView.likes_of, StationView.phase_at, Steps.ComesBack}
use Rattle.like_seat.specs.{Steps.CountsLike, Steps.Glances, Steps.Reads, Steps.stashing, declared.seen.Seen.Seen}
use Rattle.like_live.specs.LiveView.{LiveView, room_of, tally, waiting, with_station}
use Rattle.like_live.specs.Moves.{FindsAll, Moves, MovesBy, Works}
use Rattle.like_live.specs.Types.{Asked, Found, GlanceAnswer, GlanceAnswer as glance, LikeAnswer, LikeAnswer as like}
use Rattle.like_live.specs.Types.{LookAnswer, LookAnswer as look, TurnAnswer, TurnAnswer as turn}

-- the verdict on a request of a user for a page at this seat
abbrev pub verdict_at : StationView Asked → ℕ → ℕ → Verdict
verdict_at s user page =
    verdict_of s.last.share.users s.last.share.submitters s.last.share.worker user (nat_lt page (pages_of s.post))

-- a request of the user for the page is accepted at this seat, and this is the user with its rank
pub record IsAccepted (s : StationView Asked) (user page : ℕ) (ranked : Ranked) : Type 0 where
  pub verdict : verdict_at s user page ≡ Accepted
  pub there : page < pages_of s.post
  pub user_is : ranked.user ≡ user
  pub rank_is : IsRanked s.last.share ranked

-- what a like does at a seat that runs a phase
pub data LikesNow (v : LiveView) (user page : ℕ) (answer : LikeAnswer) (after : LiveView) : Type 0 where
  refused : verdict_at v.station user page ≢ Accepted
      → answer ≡ like.Refused (verdict_at v.station user page) → after ≡ v → LikesNow v user page answer after
  full : verdict_at v.station user page ≡ Accepted → likes_of v.station ≡ v.station.post.opening.limits.likes
      → answer ≡ like.Full → after ≡ v → LikesNow v user page answer after
  liked : (old : Option ℕ) (s : StationView Asked)
      → verdict_at v.station user page ≡ Accepted → likes_of v.station < v.station.post.opening.limits.likes
      → answer ≡ like.Liked → CountsLike v.station user page old s → after ≡ with_station v s
      → LikesNow v user page answer after

-- like case: the answer to a like, and the seat after; the phase work comes first
pub data LikeCase (v : LiveView) (user page : ℕ) (answer : LikeAnswer) (after : LiveView) : Type 0 where
  gone : Moves v turn.Gone after → answer ≡ like.Gone → LikeCase v user page answer after
  between : Moves v turn.Between after → answer ≡ like.Between → LikeCase v user page answer after
  runs : (now : LiveView) → Moves v turn.Runs now → LikesNow now user page answer after
      → LikeCase v user page answer after

-- a look that is asked in a phase
abbrev pub asked_in : ℕ → ℕ → ℕ → ℕ → Asked
asked_in phase user page tag = record { tag = tag; user = user; page = page; phase = phase }

-- a look is stashed: there was room for one more, and it waits behind all others
pub record Stashes (v : LiveView) (asked : Asked) (after : LiveView) : Type 0 where
  pub room : length (waiting v) + length v.found < room_of v
  pub is : after ≡ with_station v (stashing v.station asked)

-- what a look does at a seat that runs a phase
pub data LooksNow (v : LiveView) (user page tag : ℕ) (answer : LookAnswer) (after : LiveView) : Type 0 where
  refused : verdict_at v.station user page ≢ Accepted
      → answer ≡ look.Refused (verdict_at v.station user page) → after ≡ v → LooksNow v user page tag answer after
  seen : (shown : Seen) (s : StationView Asked)
      → verdict_at v.station user page ≡ Accepted → is_split_at v.station.post page ≡ false
      → answer ≡ look.Seen shown → Reads v.station user page shown s → after ≡ with_station v s
      → LooksNow v user page tag answer after
  no_room : verdict_at v.station user page ≡ Accepted → is_split_at v.station.post page ≡ true
      → length (waiting v) + length v.found ≡ room_of v
      → answer ≡ look.NoRoom → after ≡ v → LooksNow v user page tag answer after
  waits : verdict_at v.station user page ≡ Accepted → is_split_at v.station.post page ≡ true
      → length (waiting v) + length v.found < room_of v
      → answer ≡ look.Waits → after ≡ with_station v (stashing v.station (asked_in (phase_at v.station) user page tag))
      → LooksNow v user page tag answer after

-- look case: the answer to a look, and the seat after; the phase work comes first
pub data LookCase (v : LiveView) (user page tag : ℕ) (answer : LookAnswer) (after : LiveView) : Type 0 where
  gone : Moves v turn.Gone after → answer ≡ look.Gone → LookCase v user page tag answer after
  between : Moves v turn.Between after → answer ≡ look.Between → LookCase v user page tag answer after
  runs : (now : LiveView) → Moves v turn.Runs now → LooksNow now user page tag answer after
      → LookCase v user page tag answer after

-- what a glance does at a seat that runs a phase, and its answer tells which of the two it is. A page that is not split
-- is read. Of a split page, the count is the board's plus the seat's own slice
pub data GlancesNow (v : LiveView) (user page : ℕ) (answer : GlanceAnswer) (after : LiveView) : Type 0 where
  refused : verdict_at v.station user page ≢ Accepted
      → answer ≡ glance.Refused (verdict_at v.station user page) → after ≡ v → GlancesNow v user page answer after
  plain : (shown : Seen) (s : StationView Asked)
      → verdict_at v.station user page ≡ Accepted → is_split_at v.station.post page ≡ false
      → answer ≡ glance.Seen shown → Reads v.station user page shown s → after ≡ with_station v s
      → GlancesNow v user page answer after
  split : (shown : Seen) (s : StationView Asked)
      → verdict_at v.station user page ≡ Accepted → is_split_at v.station.post page ≡ true
      → answer ≡ glance.Glimpsed shown → Glances v.station user page shown s → after ≡ with_station v s
      → GlancesNow v user page answer after

-- glance case: the answer to a glance, and the seat after; the phase work comes first
pub data GlanceCase (v : LiveView) (user page : ℕ) (answer : GlanceAnswer) (after : LiveView) : Type 0 where
  gone : Moves v turn.Gone after → answer ≡ glance.Gone → GlanceCase v user page answer after
  between : Moves v turn.Between after → answer ≡ glance.Between → GlanceCase v user page answer after
  runs : (now : LiveView) → Moves v turn.Runs now → GlancesNow now user page answer after
      → GlanceCase v user page answer after

-- a glance that shows something tells whether its page is split then
abbrev pub TellsIfSplit : LiveView → ℕ → GlanceAnswer → Type 0
TellsIfSplit v page (glance.Seen shown) = is_split_at v.station.post page ≡ false
TellsIfSplit v page (glance.Glimpsed shown) = is_split_at v.station.post page ≡ true
TellsIfSplit v page answer = Unit {0}

-- what a seat that is to retire does after its look, if it runs a phase. In a joined phase, ending or not, it finds all
-- looks that wait, and is gone. In a split phase it does what a turn does
pub data RetireWorks (v : LiveView) (ending : Bool) (answer : TurnAnswer) (after : LiveView) : Type 0 where
  retires : (now : LiveView) → RunsJoined v.station.post.state → answer ≡ turn.Gone
      → FindsAll v now → after ≡ with_station now (record now.station { post = retired now.station.post })
      → RetireWorks v ending answer after
  stays : RunsSplit v.station.post.state → Works v ending answer after → RetireWorks v ending answer after

-- retire case: the answer, and the seat after
abbrev pub RetireCase : LiveView → TurnAnswer → LiveView → Type 0
RetireCase = MovesBy RetireWorks

-- come back case: the answer, and the seat after. A seat that is gone comes back into some phase and runs it; or nothing
-- of it is done, where that phase is ending or other seats changed the phase word meanwhile. Of any other seat this is a
-- turn
pub data ComeBackCase (v : LiveView) (answer : TurnAnswer) (after : LiveView) : Type 0 where
  runs : (s : StationView Asked) → v.station.post.state ≡ state.Gone → answer ≡ turn.Runs
      → ComesBack v.station s → after ≡ with_station v s → ComeBackCase v answer after
  between : v.station.post.state ≡ state.Gone → answer ≡ turn.Between → after ≡ v → ComeBackCase v answer after
  there : v.station.post.state ≢ state.Gone → Moves v answer after → ComeBackCase v answer after

-- the first of the found looks is taken, if there is one
abbrev pub TakesFound : LiveView → Option Found → LiveView → Type 0
TakesFound v taken after = (taken ≡ slice_get v.found 0) × (after ≡ record v { found = drop 1 v.found })

-- how many likes of the other page an answer to a like of a page tells: one, if they are the same and it was liked
abbrev pub told_of : ℕ → ℕ → LikeAnswer → ℕ
told_of page other like.Liked = if page == other then 1 else 0
told_of page other answer = 0

-- a like that is counted adds one to its page's tally, and no answer changes any other
abbrev pub TalliesLike : LiveView → ℕ → LikeAnswer → LiveView → Type 0
TalliesLike v page answer after = (other : ℕ) → tally after other ≡ tally v other + told_of page other answer

-- the last likes after an answer to a like: if it was liked, the page is the user's last
abbrev pub last_after : UserTable → ℕ → ℕ → LikeAnswer → UserTable
last_after t user page like.Liked = with_last t user page
last_after t user page answer = t
