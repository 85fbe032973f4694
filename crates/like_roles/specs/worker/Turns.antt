-- The turns of a worker, case by case.
use Rattle.std.specs.Prelude.{◌≡◌, ◌≢◌, ◌⊎◌, ℕ, ◌+◌, ◌-◌, ◌%◌, ◌<◌, ◌≤◌, ◌==◌, count_by, ⊤, Bool, true, false, List, [], ◌∷◌, ◌++◌, length, map, slice_index, slice_index_or, slice_set, Some, None}
use Rattle.like_requests.specs.{Setup.IsThere, Types.Numbered, Types.Taken, Types.Taken as taken}
use Rattle.like_core.specs.WorkerState.{IsSightOf, RunsJoined, RunsSplit}
use Rattle.like_core.specs.{PageSteps.step_adding, PhaseMasks.KeepsMasks, Post.answered, Post.looked_at, Post.number_of}
use Rattle.like_core.specs.{Post.pages_of, Post.retired, Types.Addition, Types.Gone, Types.Logged, Types.Sight}
use Rattle.like_tables.specs.declared.held.Held.{Held}
use Rattle.like_seat.specs.Merge as merge
use Rattle.like_seat.specs.Steps as steps
use Rattle.like_roles.specs.declared.turn.Turn.{Turn, Turn as turn}
use Rattle.like_roles.specs.worker.WorkerView.{IsNextOpen, TookAllEnds, WorkerView, has_to_wait, phase_at, station_of}
use Rattle.like_roles.specs.worker.WorkerView.{submitter_at, with_station}
use Rattle.like_roles.specs.worker.{Merges.Merges, Serve.Runs, Serve.noted}

-- the worker after a look, with this number: where it enters a split phase it has also read that phase's mask, which is
-- this
abbrev pub saw : WorkerView → Sight → ℕ → ℕ → WorkerView
saw v sight mask number = with_station v (steps.saw (station_of v) sight mask number)

-- without the first look in its stash
abbrev pub without_first : WorkerView → List Held → WorkerView
without_first v rest = record v { stash = record v.stash { looks = rest } }

-- it tries the submitter at a rank, and looks for the next one after it
abbrev pub trying : WorkerView → ℕ → WorkerView
trying v rank = record v { pending = Some rank; cursor = (rank + 1) % length v.ended }

-- the slice is added to the board by these additions, which are noted, and emptied; these are then the entries
abbrev pub merged : WorkerView → List Addition → List Logged → WorkerView
merged v adds logged = record (with_station v (merge.merged (station_of v) adds logged)) { adds = v.adds ++ noted v adds }

-- a worker's slice is merged: one addition for each page with likes, which it notes if it notes its additions
abbrev pub IsMerged : WorkerView → WorkerView → Type 0
IsMerged v after =
    (adds : List Addition)
    × (Merges (phase_at v) v.slice (pages_of v.post) adds × (after ≡ merged v adds after.post.logged)
    × merge.LogsSteps (map (step_adding v.post.worker) adds) v.post.logged after.post.logged)

-- it cannot take a request in a split phase
abbrev pub IsStuck : WorkerView → Type 0
IsStuck v = TookAllEnds v.ended ⊎ (length v.stash.looks ≡ v.stash.capacity)

-- what a worker does that has looked and runs a phase: the answer, and the worker after
pub data Works (v : WorkerView) (ending : Bool) (answer : Turn) (after : WorkerView) : Type 0 where
  runs_stashed : (first : Held) (rest : List Held)
      → RunsJoined v.post.state → v.stash.looks ≡ first ∷ rest
      → answer ≡ turn.Ran → Runs (without_first v rest) first true after
      → Works v ending answer after
  retires : RunsJoined v.post.state → v.stash.looks ≡ [] → TookAllEnds v.ended
      → answer ≡ turn.Retired → after ≡ record v { post = retired v.post }
      → Works v ending answer after
  acknowledges : RunsJoined v.post.state → v.stash.looks ≡ [] → ¬ TookAllEnds v.ended → ending ≡ true
      → answer ≡ turn.Acknowledged → after ≡ record v { post = answered v.post }
      → Works v ending answer after
  tries_joined : (rank : ℕ) → RunsJoined v.post.state → v.stash.looks ≡ []
      → IsNextOpen v.ended v.cursor rank → ending ≡ false
      → answer ≡ turn.Try (submitter_at v rank) → after ≡ trying v rank
      → Works v ending answer after
  reports : (now : WorkerView) → RunsSplit v.post.state → ending ≡ true
      → answer ≡ turn.Reported → IsMerged v now → after ≡ record now { post = answered now.post }
      → Works v ending answer after
  idles : RunsSplit v.post.state → ending ≡ false → IsStuck v
      → answer ≡ turn.Idle → after ≡ v → Works v ending answer after
  tries_split : (rank : ℕ) → RunsSplit v.post.state → ending ≡ false
      → length v.stash.looks ≢ v.stash.capacity → IsNextOpen v.ended v.cursor rank
      → answer ≡ turn.Try (submitter_at v rank) → after ≡ trying v rank
      → Works v ending answer after

-- turn case: what a turn does, its answer, and the worker after
pub data Turns (v : WorkerView) (answer : Turn) (after : WorkerView) : Type 0 where
  is_gone : v.post.state ≡ Gone → answer ≡ turn.Retired → after ≡ v → Turns v answer after
  waits : (sight : Sight) → v.post.state ≢ Gone → IsSightOf v.post.state sight → sight.waits ≡ true
      → answer ≡ turn.Waiting → after ≡ record v { post = looked_at v.post sight (number_of after.post) }
      → Turns v answer after
  works : (sight : Sight) (mask number : ℕ) → v.post.state ≢ Gone → IsSightOf v.post.state sight
      → sight.waits ≡ false → Works (saw v sight mask number) sight.ending answer after
      → Turns v answer after

-- the request is the next one of the submitter at a rank, which has one left, and its page exists, if it is known
pub record IsNext (v : WorkerView) (rank : ℕ) (ask : Numbered) : Type 0 where
  pub number : ask.number ≡ count_by (λ t. t.submitter == submitter_at v rank) v.taken + 1
  pub some : 1 ≤ slice_index v.left rank
  pub there : IsThere (pages_of v.post) ask.request.page

-- what may be taken from the submitter that is tried
abbrev pub CanGive : WorkerView → Taken → Type 0
CanGive v (taken.Ask ask) = (rank : ℕ) → v.pending ≡ Some rank → IsNext v rank ask
CanGive v taken.End = ⊤
CanGive v taken.Nothing = ⊤

-- nothing is tried any more
abbrev pub settled : WorkerView → WorkerView
settled v = record v { pending = None }

-- the request is taken in the present phase from the submitter at a rank
abbrev pub with_taken : WorkerView → ℕ → Numbered → WorkerView
with_taken v rank ask = record v {
  left = slice_set v.left rank (slice_index v.left rank - 1);
  taken = v.taken
      ++ record { phase = phase_at v; submitter = submitter_at v rank; number = ask.number } ∷ [];
}

-- the request with the submitter at a rank
abbrev pub held_from : WorkerView → ℕ → Numbered → Held
held_from v rank ask = record { submitter = submitter_at v rank; ask = ask }

-- the look is put into the stash
abbrev pub with_stashed : WorkerView → Held → WorkerView
with_stashed v h = with_station v (steps.stashing (station_of v) h)

-- what becomes of a request that is taken from the submitter at a rank: the answer, and the worker after
pub data TakesAsk (v : WorkerView) (rank : ℕ) (ask : Numbered) (answer : Turn) (after : WorkerView)
    : Type 0 where
  stashes : has_to_wait v (submitter_at v rank) ask.request ≡ true
      → answer ≡ turn.Stashed
      → after ≡ with_stashed (with_taken v rank ask) (held_from v rank ask)
      → TakesAsk v rank ask answer after
  runs : has_to_wait v (submitter_at v rank) ask.request ≡ false
      → answer ≡ turn.Ran → Runs (with_taken v rank ask) (held_from v rank ask) false after
      → TakesAsk v rank ask answer after

-- turn case, where something was taken from the submitter that is tried: what is done, the answer, and the worker after
pub data Gives (v : WorkerView) (took : Taken) (answer : Turn) (after : WorkerView) : Type 0 where
  nothing : took ≡ taken.Nothing → answer ≡ turn.Nothing → after ≡ settled v
      → Gives v took answer after
  ends : (rank : ℕ) → v.pending ≡ Some rank → took ≡ taken.End
      → answer ≡ turn.TookEnd → after ≡ record (settled v) { ended = slice_set v.ended rank true }
      → Gives v took answer after
  asks : (rank : ℕ) (ask : Numbered) → v.pending ≡ Some rank → took ≡ taken.Ask ask
      → TakesAsk (settled v) rank ask answer after → Gives v took answer after

-- a submitter is tried exactly after the answer that says so
abbrev pub Pends : Turn → WorkerView → Type 0
Pends (turn.Try submitter) v =
    (rank : ℕ) × ((v.pending ≡ Some rank) × (submitter_at v rank ≡ submitter)
    × (rank < length v.ended) × (slice_index_or v.ended rank true ≡ false))
Pends answer v = v.pending ≡ None

-- the run and the board are the same, and whether it notes its additions; the masks that were read stay, and what was
-- taken from the submitters is the same
pub record TakesNothing (old new : WorkerView) : Type 0 where
  pub share : new.last.share ≡ old.last.share
  pub marks : new.post.opening.marks ≡ old.post.opening.marks
  pub notes : new.notes ≡ old.notes
  pub taken : new.taken ≡ old.taken
  pub left : new.left ≡ old.left
  pub ended : new.ended ≡ old.ended
  pub masks : KeepsMasks old.post.masks new.post.masks

-- this alone was taken from the submitter that was tried
abbrev pub HasTaken : WorkerView → Taken → WorkerView → Type 0
HasTaken old (taken.Ask ask) new =
    (rank : ℕ) → old.pending ≡ Some rank → TakesNothing (with_taken old rank ask) new
HasTaken old taken.End new =
    (rank : ℕ) → old.pending ≡ Some rank
    → TakesNothing (record old { ended = slice_set old.ended rank true }) new
HasTaken old taken.Nothing new = TakesNothing old new
