-- The counts that a seat's calls were told, and what the seat read.
use Rattle.std.specs.Prelude.{◌≡◌, ◌⊎◌, ℕ, ◌+◌, ◌≤◌, if◌then◌else◌, true, List, ◌∷◌, ◌++◌, slice_index, Contains, Some}
use Rattle.like_core.specs.PageSteps.{additions_among, page_step}
use Rattle.like_core.specs.Types.{Glance, PageCall, PageStep, Read, Runs}
use Rattle.like_core.specs.{Additions.added_in, Post.additions_in, Post.is_split_at, views.Posts.posts_before}
use Rattle.like_seat.specs.StationView.{phase_at}
use Rattle.like_live.specs.History.{Does, HasDone, IsUnused, Told, glance, look, take_found}
use Rattle.like_live.specs.{Driver.DriverView, LiveView.LiveView, Service.AreGone, Service.IsClosedService}
use Rattle.like_live.specs.{Service.posts_at, Types.Found, Types.GlanceAnswer as glanced, Types.LookAnswer as looked}

-- a count that a call was told: the phase in which the call ran; the page; how many likes of the page the seat is known
-- to have counted in that phase before; and the count
pub record Shown : Type 0 where
  pub phase : ℕ
  pub page : ℕ
  pub own : ℕ
  pub count : ℕ

-- how many likes of a page a seat has counted in its phase: those that it added in it, and if the page is split, those
-- in its slice
abbrev pub counted_now : LiveView → ℕ → ℕ
counted_now v page =
    additions_in v.station.post (phase_at v.station) page
    + (if is_split_at v.station.post page then slice_index v.station.slice page else 0)

-- a count of a page that a call was told, if this is the seat right after the call
abbrev pub shown_now : LiveView → (page count : ℕ) → Shown
shown_now v page count =
    record { phase = phase_at v.station; page = page; own = counted_now v page; count = count }

-- the count that a found look was shown: it ran before the seat counted a like in its phase
abbrev pub found_count : Found → Shown
found_count f = record { phase = f.phase; page = f.asked.page; own = 0; count = f.count }

-- if the call was told a count: P is true of it at a look, found looks included, and at a glance that was told `Seen`,
-- and Q at one that was told `Glimpsed`. `now` is the seat right after the call
abbrev pub IfShown : (P Q : Shown → Type 0) → (now : LiveView) → Told → Type 0
IfShown P Q now (look user page tag (looked.Seen shown)) = P (shown_now now page shown.count)
IfShown P Q now (glance user page (glanced.Seen shown)) = P (shown_now now page shown.count)
IfShown P Q now (glance user page (glanced.Glimpsed shown)) = Q (shown_now now page shown.count)
IfShown P Q now (take_found (Some f)) = P (found_count f)
IfShown P Q now told = Unit {0}

-- the seat made this call at a page in a phase, which found this count: later steps came after it, and earlier ones before
abbrev pub HasCalled : LiveView → (phase page count : ℕ) → PageCall → (later earlier : List PageStep) → Type 0
HasCalled v phase page count call later earlier =
    v.station.post.did ≡ later ++ page_step v.station.post.worker phase page count call ∷ earlier

-- the seat read this count of this page in this phase, after it had added its own likes
abbrev pub IsRead : LiveView → Shown → Type 0
IsRead v s =
    (later : List PageStep) × (earlier : List PageStep) × HasCalled v s.phase s.page s.count Read later earlier
    × (s.own ≤ added_in s.phase s.page (additions_among earlier))

-- n likes of a page that the seat had in its slice in a phase, before these later steps: it has added them in that phase,
-- or it runs that phase and has them in its slice still
abbrev pub AreKept : LiveView → (phase page : ℕ) → (later : List PageStep) → (n : ℕ) → Type 0
AreKept v phase page later n =
    (n ≤ added_in phase page (additions_among later))
    ⊎ ((v.station.post.state ≡ Runs phase) × (n ≤ slice_index v.station.slice page))

-- the seat glanced at this page in this phase, in which it is split. The count is the board's at that glance plus the
-- likes of the page in the seat's slice, which are kept. The seat's own likes were added before the glance, or are in
-- that slice
pub record IsGlanced (now v : LiveView) (s : Shown) : Type 0 where
  pub split : is_split_at now.station.post s.page ≡ true
  pub later : List PageStep
  pub earlier : List PageStep
  pub board : ℕ
  pub sliced : ℕ
  pub glanced : HasCalled v s.phase s.page board Glance later earlier
  pub sliced_is : sliced ≡ slice_index now.station.slice s.page
  pub count_is : s.count ≡ board + sliced
  pub own : s.own ≤ added_in s.phase s.page (additions_among earlier) + sliced
  pub kept : AreKept v s.phase s.page later sliced

-- a call in a seat's history: some calls were made before it, and some after it
pub record IsCallOf (v now after : LiveView) (t : Told) : Type 0 where
  pub earlier : List Told
  pub before : LiveView
  pub first : HasDone v earlier before
  pub call : Does before t now
  pub later : List Told
  pub rest : HasDone now later after

-- the law of answers: whatever calls a fresh seat is asked, the count that each of them was told is among what the seat
-- read
abbrev pub AnswersAreReads : Type 0
AnswersAreReads =
    (v now after : LiveView) (t : Told)
    → IsUnused v → IsCallOf v now after t
    → IfShown (IsRead after) (IsGlanced now after) now t

-- the count has the page's first count, all that these seats added in earlier phases, and what the seat itself had
-- counted in this phase before; and nothing of a later phase
pub record IsWithinAdded (v : DriverView) (seats : List LiveView) (s : Shown) : Type 0 where
  pub least :
      slice_index v.lead.seat.opening.counts s.page + posts_before (posts_at seats) s.phase s.page + s.own ≤ s.count
  pub most : s.count ≤ slice_index v.lead.seat.opening.counts s.page + posts_before (posts_at seats) (s.phase + 1) s.page

-- each count that a seat of a closed service was told is within these bounds
abbrev pub AnswersAreBounded : Type 0
AnswersAreBounded =
    (driver : DriverView) (seats : List LiveView) (counts : List ℕ) (v now after : LiveView) (t : Told)
    → IsClosedService driver seats counts → AreGone seats → Contains seats after
    → IsUnused v → IsCallOf v now after t
    → IfShown (IsWithinAdded driver seats) (IsWithinAdded driver seats) now t
