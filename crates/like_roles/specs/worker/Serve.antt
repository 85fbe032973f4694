-- What running a request does to a worker.
use Rattle.std.specs.Prelude.{◌≡◌, ℕ, ◌≤◌, Bool, if◌then◌else◌, List, [], ◌∷◌, ◌++◌, length, map}
use Rattle.like_requests.specs.Types.{Request, Verdict}
use Rattle.like_core.specs.{Post.additions_of, Post.has_read, Post.is_split_at, Post.number_of, Types.Addition}
use Rattle.like_tables.specs.{UserTable.last_of, UserTable.with_last, declared.held.Held.Held}
use Rattle.like_seat.specs.Steps as steps
use Rattle.like_promises.specs.Store.{like, look, refuse}
use Rattle.like_promises.specs.Types.{Added, Liked, Ran, Refused, Reply, Seen}
use Rattle.like_roles.specs.worker.WorkerView.{WorkerView, asked_in, phase_at, station_of, with_station}

-- an addition as it is noted when `at` entries had run
abbrev pub noted_at : ℕ → Addition → Added
noted_at at a = record { page = a.page; phase = a.phase; at = at; old = a.old; n = a.likes }

-- what is noted of additions, if they are noted: each, when `at` entries had run
abbrev pub noted_if : Bool → ℕ → List Addition → List Added
noted_if notes at adds = if notes then map (noted_at at) adds else []

-- what a worker notes of additions: each, at the place in the run list, where it notes them, and else none
abbrev pub noted : WorkerView → List Addition → List Added
noted v adds = noted_if v.notes (length v.ran) adds

-- an addition of n to a page's count, which was this before, is noted
abbrev pub noting : WorkerView → ℕ → ℕ → ℕ → WorkerView
noting v page old n = record v {
  adds = v.adds ++ noted v (record {
    phase = phase_at v;
    page = page;
    old = old;
    likes = n;
  } ∷ []);
}

-- n is added to a page's count on the board, which was this before, with this number, and noted
abbrev pub with_addition : WorkerView → ℕ → ℕ → ℕ → ℕ → WorkerView
with_addition v page old n number =
    noting (with_station v (steps.with_addition (station_of v) page old n number)) page old n

-- one more like of a page in the slice
abbrev pub sliced : WorkerView → ℕ → WorkerView
sliced v page = with_station v (steps.sliced (station_of v) page)

-- one more like of a page: in the slice, where the page is split, else on the board, where its count was this, with
-- this number
abbrev pub counted : WorkerView → ℕ → ℕ → ℕ → WorkerView
counted v page old number =
    if is_split_at v.post page then sliced v page else with_addition v page old 1 number

-- a user's like of a page is counted, and is the user's last like
abbrev pub liked : WorkerView → ℕ → ℕ → ℕ → ℕ → WorkerView
liked v user page old number =
    let w = counted v page old number in record w { last = with_last v.last user page }

-- one more like of a page is counted, whatever its count is, and is the user's last
abbrev pub Likes : WorkerView → ℕ → ℕ → WorkerView → Type 0
Likes v user page after = (old : ℕ) × (after ≡ liked v user page old (number_of after.post))

-- a page's count was read, and was this, with this number
abbrev pub shown : WorkerView → ℕ → ℕ → ℕ → WorkerView
shown v page count number = record v { post = has_read v.post page count number }

-- a request of a submitter is answered, and this is what becomes of the worker: its list of what it ran aside
pub data GivesReply (v : WorkerView) (submitter : ℕ) (r : Request) (reply : Reply)
    (after : WorkerView) : Type 0 where
  refuses : (why : Verdict) → asked_in v.last.share submitter r ≡ refuse why → reply ≡ Refused why → after ≡ v
      → GivesReply v submitter r reply after
  likes : (user page : ℕ) → asked_in v.last.share submitter r ≡ like user page → reply ≡ Liked
      → Likes v user page after → GivesReply v submitter r reply after
  looks : (user page count : ℕ) → asked_in v.last.share submitter r ≡ look user page
      → reply ≡ Seen (last_of v.last user) count → additions_of v.post page ≤ count
      → after ≡ shown v page count (number_of after.post)
      → GivesReply v submitter r reply after

-- the entry of a request that runs now
abbrev pub ran_now : WorkerView → Held → Bool → Reply → Ran
ran_now v h stashed reply = record {
  phase = phase_at v;
  submitter = h.submitter;
  number = h.ask.number;
  stashed = stashed;
  reply = reply;
}

-- a request runs: it is answered, and written to the list of what was run
pub record Runs (v : WorkerView) (h : Held) (stashed : Bool) (after : WorkerView) : Type 0 where
  pub reply : Reply
  pub served : WorkerView
  pub serves : GivesReply v h.submitter h.ask.request reply served
  pub noted : after ≡ record served { ran = v.ran ++ ran_now v h stashed reply ∷ [] }
