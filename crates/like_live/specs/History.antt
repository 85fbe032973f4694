-- What a live seat's calls were told, from its first call on.
use Rattle.std.specs.Prelude.{◌≡◌, ◌⊎◌, ℕ, ◌==◌, if◌then◌else◌, List, [], ◌∷◌, ◌++◌, map, Option, Some, flat_map, sum_by}
use Rattle.std.specs.List.{last_or}
use Rattle.like_core.specs.Types.{Add, Did, Gone, LogEntry, Logged, Saw, WorkerSeatView}
use Rattle.like_core.specs.{PageSteps.page_step, Post.IsFresh, WorkerState.IsRunning, WorkerState.RunsSplit}
use Rattle.like_tables.specs.{Share.Share, UserTable.last_of, UserTable.table_with_lasts}
use Rattle.like_seat.specs.StationView.{phase_at}
use Rattle.like_live.specs.Types.{Asked, Found, GlanceAnswer, LikeAnswer, Liked, LookAnswer, TurnAnswer}
use Rattle.like_live.specs.{Calls.ComeBackCase, Calls.GlanceCase, Calls.LikeCase, Calls.LikesNow, Calls.LookCase}
use Rattle.like_live.specs.{Calls.RetireCase, Calls.TakesFound, Calls.told_of, LiveView.IsNewLive, LiveView.LiveView}
use Rattle.like_live.specs.{LiveView.tally, LiveView.waiting, Moves.Moves, declared.answer.LookAnswer.TheVariants.Waits}

-- a look at the phase word by this worker in this phase, or a like that it added in it
abbrev pub IsLookOrLike : (worker phase : ℕ) → LogEntry → Type 0
IsLookOrLike worker phase entry =
    (entry ≡ Saw worker phase)
    ⊎ ((page : ℕ) × (old : ℕ) × (entry ≡ Did (page_step worker phase page old (Add 1))))

-- there is a latest of these entries, and this is true of it
abbrev pub HasLatest : (Logged → Type 0) → List Logged → Type 0
HasLatest P [] = ⊥
HasLatest P (e ∷ logged) = P e

-- a seat within a row of likes: it runs a phase, and if that is split, its latest entry is a look at the phase word or
-- a like that it added
pub record IsInRow (v : LiveView) : Type 0 where
  pub runs : IsRunning v.station.post.state
  pub latest : RunsSplit v.station.post.state
      → HasLatest (λ e. IsLookOrLike v.station.post.worker (phase_at v.station) e.entry) v.station.post.logged

-- a call of a seat, with its answer. `like_on` is a like of a row, which makes no look at the phase word
pub data Told : Type 0 where
  turn : TurnAnswer → Told
  like : (user page : ℕ) → LikeAnswer → Told
  like_on : (user page : ℕ) → LikeAnswer → Told
  look : (user page tag : ℕ) → LookAnswer → Told
  glance : (user page : ℕ) → GlanceAnswer → Told
  take_found : Option Found → Told
  retire : TurnAnswer → Told
  come_back : TurnAnswer → Told

-- the call does this to a seat
abbrev pub Does : LiveView → Told → LiveView → Type 0
Does v (turn answer) after = Moves v answer after
Does v (like user page answer) after = LikeCase v user page answer after
Does v (like_on user page answer) after = IsInRow v × LikesNow v user page answer after
Does v (look user page tag answer) after = LookCase v user page tag answer after
Does v (glance user page answer) after = GlanceCase v user page answer after
Does v (take_found taken) after = TakesFound v taken after
Does v (retire answer) after = RetireCase v answer after
Does v (come_back answer) after = ComeBackCase v answer after

-- the calls were made one after the other
abbrev pub HasDone : LiveView → List Told → LiveView → Type 0
HasDone v [] after = after ≡ v
HasDone v (t ∷ told) after = (now : LiveView) × (Does v t now × HasDone now told after)

-- the page of a like of this user that was told `Liked`, if this is one
abbrev pub page_liked : ℕ → Told → List ℕ
page_liked user (like other page Liked) = if other == user then page ∷ [] else []
page_liked user (like_on other page Liked) = if other == user then page ∷ [] else []
page_liked user told = []

-- the pages that this user was told to have liked, in order
abbrev pub pages_liked : ℕ → List Told → List ℕ
pages_liked user told = flat_map (page_liked user) told

-- how many likes of a page this tells: one, if it is a like of the page that was told `Liked`
abbrev pub like_told : ℕ → Told → ℕ
like_told page (like user other answer) = told_of other page answer
like_told page (like_on user other answer) = told_of other page answer
like_told page told = 0

-- how many likes of a page were told `Liked`
abbrev pub likes_told : ℕ → List Told → ℕ
likes_told page told = sum_by (like_told page) told

-- a look that was asked: its tag, its user and its page
pub record TaggedLook : Type 0 where
  pub tag : ℕ
  pub user : ℕ
  pub page : ℕ

-- the look that a found one was
abbrev pub look_of : Found → TaggedLook
look_of f = record { tag = f.asked.tag; user = f.asked.user; page = f.asked.page }

-- a look that was told `Waits`, if this is one
abbrev pub look_told : Told → List TaggedLook
look_told (look user page tag Waits) = record { tag = tag; user = user; page = page } ∷ []
look_told told = []

-- a found look that was taken, if this is one
abbrev pub look_taken : Told → List TaggedLook
look_taken (take_found (Some f)) = look_of f ∷ []
look_taken told = []

-- the looks that were told `Waits`, in order
abbrev pub looks_told : List Told → List TaggedLook
looks_told told = flat_map look_told told

-- the found looks that were taken, in order
abbrev pub looks_taken : List Told → List TaggedLook
looks_taken told = flat_map look_taken told

-- a look that waits
abbrev pub look_waiting : Asked → TaggedLook
look_waiting a = record { tag = a.tag; user = a.user; page = a.page }

-- the looks that were found and not taken yet, and those that wait, in order
abbrev pub looks_left : LiveView → List TaggedLook
looks_left v = map look_of v.found ++ map look_waiting (waiting v)

-- a seat that has done nothing yet, whose users have the last likes of an opening
pub record IsUnused (v : LiveView) : Type 0 where
  pub board : List ℕ
  pub post : WorkerSeatView
  pub share : Share
  pub lasts : List ℕ
  pub room : ℕ
  pub fresh : IsFresh post
  pub new : IsNewLive board post room (table_with_lasts share lasts) v

-- the seat after these calls has counted them: a page's tally is the number of its likes that were told `Liked`; a
-- user's last like is the page of the user's last one, or that with which the seat began; and the looks that were told
-- `Waits` are the found looks that were taken, then those that are left, each once and in order
pub record HistoryIsCounted (v : LiveView) (told : List Told) (after : LiveView) : Type 0 where
  pub tallies : (page : ℕ) → tally after page ≡ likes_told page told
  pub last : (user : ℕ) → last_of after.station.last user ≡ last_or (last_of v.station.last user) (pages_liked user told)
  pub taken : looks_taken told ++ looks_left after ≡ looks_told told

-- the law of histories: whatever calls a fresh seat is asked, they are counted. At a seat that is gone none waits, so
-- once its found looks are taken too, none is left
abbrev pub HistoriesAreCounted : Type 0
HistoriesAreCounted =
    (v after : LiveView) (told : List Told) → IsUnused v → HasDone v told after → HistoryIsCounted v told after

-- nothing waits at a seat that is gone, whatever calls it was asked
abbrev pub NoneWaitsOnceGone : Type 0
NoneWaitsOnceGone =
    (v after : LiveView) (told : List Told) → IsUnused v → HasDone v told after
    → after.station.post.state ≡ Gone → waiting after ≡ []
