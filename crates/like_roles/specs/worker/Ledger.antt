-- What a worker keeps beside its station.
use Rattle.std.specs.Prelude.{◌≡◌, ℕ, ◌+◌, ◌-◌, ◌<◌, ◌≤◌, true, false, List, [], ◌∷◌, ◌++◌, length, sum, All, Some, None, is_some, replicate, slice_index, slice_set, vec_len, vec_capacity, if◌then◌else◌}
use Rattle.like_limits.specs.Limits.{max_likes}
use Rattle.like_requests.specs.{Setup.IsThere, Types.Setup}
use Rattle.like_core.specs.WorkerState.{IsRunning, phase_of}
use Rattle.like_core.specs.{Additions.all_added, OpeningLimits.run_limits, PageSteps.additions_among, Phase.IsJoined}
use Rattle.like_core.specs.{Phase.IsSplit, Post.pages_of, Types.WorkerSeatView}
use Rattle.like_tables.specs.Share.{Share, dealt, submitter_of, worker_of}
use Rattle.like_tables.specs.{StashView.StashView, declared.held.Held.Held}
use Rattle.like_seat.specs.StationView.{IsStationOf, StationView, likes_of}
use Rattle.like_roles.specs.declared.{terms.Terms.Terms, worker.judged.Judged.Judged, worker.ledger.Ledger.Ledger}
use Rattle.like_roles.specs.worker.{Judged.IsJudged, Serve.noted_if, WorkerView.WorkerView, WorkerView.waits_at}

-- the worker of a station and what is kept beside it
abbrev pub view_of : StationView Held → Ledger → WorkerView
view_of s d = record {
  post = s.post;
  stash = s.stash;
  slice = s.slice;
  sliced = s.sliced;
  last = s.last;
  left = d.left.items;
  ended = d.ended.items;
  cursor = d.cursor;
  pending = d.pending;
  taken = d.taken.items;
  ran = d.ran.items;
  notes = d.notes;
  adds = d.adds.items;
}

-- a request that a worker of these users may hold: of one of its submitters, and of a page that is there
pub record IsOwnOf (post : WorkerSeatView) (users : Share) (h : Held) : Type 0 where
  pub served : worker_of users.workers h.submitter ≡ users.worker
  pub there : IsThere (pages_of post) h.ask.request.page

-- the submitter at a rank is tried: it has not ended, and there is room for a look that waits
pub record IsTriedAt (post : WorkerSeatView) (stash : StashView Held) (d : Ledger) (rank : ℕ) : Type 0 where
  pub there : rank < vec_len d.ended
  pub running : IsRunning post.state
  pub joined : IsJoined (phase_of post.state) → stash.looks ≡ []
  pub split : IsSplit (phase_of post.state) → length stash.looks < stash.capacity

abbrev pub IsTried : StationView Held → Ledger → ℕ → Type 0
IsTried s d rank = IsTriedAt s.post s.stash d rank

-- the submitters by rank
pub record HasSubmitters (s : Share) (d : Ledger) : Type 0 where
  pub is_worker : s.worker < s.workers
  pub sized : vec_len d.left ≡ vec_len d.ended
  pub submitters : (rank : ℕ) → rank < vec_len d.ended
      → submitter_of s.workers s.worker rank < s.submitters
  pub cursor : d.cursor ≤ vec_len d.ended

-- there is room to take and to run what was not taken yet, and to run what is stashed; and, if additions are noted, to
-- note one for each like that was not added yet: at most one for each of these requests and for each like in the slice
pub record HasRoomFor (likes sliced stashed : ℕ) (d : Ledger) : Type 0 where
  pub taken : vec_len d.taken + sum d.left.items ≤ vec_capacity d.taken
  pub ran : vec_len d.ran + stashed + sum d.left.items ≤ vec_capacity d.ran
  pub few_ran : vec_capacity d.ran ≤ max_likes
  pub adds : d.notes ≡ true → vec_len d.adds + sliced + stashed + sum d.left.items ≤ vec_capacity d.adds
  pub few : likes + stashed + sum d.left.items ≤ max_likes

-- there is room to run what is stashed, what was not taken yet and one more request; and, if additions are noted, to
-- note one more
pub record HasRoomForMore (likes sliced stashed : ℕ) (d : Ledger) : Type 0 where
  pub ran : vec_len d.ran + stashed + sum d.left.items < vec_capacity d.ran
  pub adds : d.notes ≡ true → vec_len d.adds + sliced + stashed + sum d.left.items < vec_capacity d.adds
  pub few : likes + stashed + sum d.left.items < max_likes

abbrev pub HasRoomForOne : StationView Held → Ledger → Type 0
HasRoomForOne s d = HasRoomForMore (likes_of s) (sum s.slice) (length s.stash.looks) d

-- there is room to note one more request that was run
abbrev pub HasRoomToNote : StationView Held → Ledger → Type 0
HasRoomToNote s d = vec_len d.ran + length s.stash.looks + sum d.left.items < vec_capacity d.ran

-- a request was noted as taken in a phase from the submitter at a rank, which has one less left
pub record HasNotedTaken (d e : Ledger) (phase rank : ℕ) (h : Held) : Type 0 where
  pub left : e.left.items ≡ slice_set d.left.items rank (slice_index d.left.items rank - 1)
  pub taken : e.taken.items
      ≡ d.taken.items ++ record { phase = phase; submitter = h.submitter; number = h.ask.number } ∷ []
  pub len : vec_len e.taken ≡ vec_len d.taken + 1
  pub capacity : vec_capacity e.taken ≡ vec_capacity d.taken
  pub rest : e ≡ record d { left = e.left; taken = e.taken }

-- an addition to a page in a phase was noted, where additions are
pub record HasNoted (d e : Ledger) (phase page old n : ℕ) : Type 0 where
  pub noted : e.adds.items
      ≡ d.adds.items
      ++ noted_if d.notes (length d.ran.items) (record { phase = phase; page = page; old = old; likes = n } ∷ [])
  pub len : d.notes ≡ true → vec_len e.adds ≡ vec_len d.adds + 1
  pub capacity : vec_capacity e.adds ≡ vec_capacity d.adds
  pub rest : e ≡ record d { adds = e.adds }

-- what is true of a worker between two calls: its board has the limits of a run, and it has started once its post looked
pub record IsSoundAt (post : WorkerSeatView) (stash : StashView Held) (slice : List ℕ) (users : Share) (d : Ledger)
    : Type 0 where
  pub station : IsStationOf post stash slice
  pub run : post.opening.limits ≡ run_limits
  pub started : d.started ≡ is_some post.last
  pub ranks : HasSubmitters users d
  pub room : HasRoomFor (all_added (additions_among post.did) + sum slice) (sum slice) (length stash.looks) d
  pub stashed : All (IsOwnOf post users) stash.looks
  pub tried : (rank : ℕ) → d.pending ≡ Some rank → IsTriedAt post stash d rank

abbrev pub IsSound : StationView Held → Ledger → Type 0
IsSound s d = IsSoundAt s.post s.stash s.slice s.last.share d

-- a worker's ledger is sound, and no submitter is tried
pub record IsSettledAt (post : WorkerSeatView) (stash : StashView Held) (slice : List ℕ) (users : Share) (d : Ledger)
    : Type 0 where
  pub sound : IsSoundAt post stash slice users d
  pub untried : d.pending ≡ None

abbrev pub IsSettled : StationView Held → Ledger → Type 0
IsSettled s d = IsSettledAt s.post s.stash s.slice s.last.share d

-- a judged request of the worker that may be answered now
pub record CanServeAt (post : WorkerSeatView) (users : Share) (h : Held) (j : Judged) : Type 0 where
  pub running : IsRunning post.state
  pub own : IsOwnOf post users h
  pub judged : IsJudged users h j
  pub prompt : waits_at post users h.submitter h.ask.request ≡ false

abbrev pub CanServe : StationView Held → Held → Judged → Type 0
CanServe s h j = CanServeAt s.post s.last.share h j

-- what a worker keeps at first; it has room for additions only if it notes them
pub record IsNewLedger (s : Setup) (terms : Terms) (worker : ℕ) (d : Ledger) : Type 0 where
  pub started : d.started ≡ false
  pub ended : d.ended.items ≡ replicate (length d.left.items) false
  pub left : d.left.items ≡ dealt s.workers worker terms.sizes.now
  pub there : (rank : ℕ) → rank < length d.left.items
      → submitter_of s.workers worker rank < length terms.sizes.now
  pub few : sum d.left.items ≤ max_likes
  pub cursor : d.cursor ≡ 0
  pub pending : d.pending ≡ None
  pub taken : d.taken.items ≡ []
  pub taken_room : vec_capacity d.taken ≡ sum d.left.items
  pub ran : d.ran.items ≡ []
  pub ran_room : vec_capacity d.ran ≡ sum d.left.items
  pub notes_are : d.notes ≡ terms.notes
  pub adds : d.adds.items ≡ []
  pub adds_room : vec_capacity d.adds ≡ (if terms.notes then sum d.left.items else 0)
