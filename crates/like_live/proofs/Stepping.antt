-- What a seat does step by step, and relations that follow its steps.
use Rattle.std.proofs.Common.{◌≡◌, ℕ, ◌+◌, Bool, true, false, cond, List, [], ◌∷◌, ◌++◌, drop, map}
use Rattle.std.specs.List.{All}
use Rattle.std.specs.Prelude.{MatchBool}
use Rattle.like_core.specs.declared.log.Logged.{Logged}
use Rattle.like_core.specs.PageSteps.{step_adding}
use Rattle.like_core.specs.declared.sight.Sight.{Sight}
use Rattle.like_core.specs.declared.view.Addition.{Addition}
use Rattle.like_core.specs.declared.worker_state.WorkerState.TheVariants.{Runs, Answered, Gone}
use Rattle.like_core.specs.Post.{answered, has_glanced, has_read, is_split_at, retired}
use Rattle.like_core.specs.declared.worker_state.WorkerState.{WorkerState}
use Rattle.like_core.specs.WorkerState.{IsRunning, IsSightOf, RunsJoined, RunsSplit, phase_of, seen}
use Rattle.like_requests.specs.declared.verdict.Verdict.TheVariants.{Accepted}
use Rattle.like_seat.specs.declared.seen.Seen.{Seen}
use Rattle.like_seat.specs.Merge.{LogsSteps, MergesAll, merged}
use Rattle.like_seat.specs.StationView.{phase_at}
use Rattle.like_seat.specs.Steps.{came_back, liked_last, sliced, stashing, with_addition}
use Rattle.like_tables.specs.UserTable.{last_of}
use Rattle.like_live.specs.declared.asked.Found.{Found}
use Rattle.like_live.specs.LiveView.{LiveView, waiting, with_station}
use Rattle.like_live.specs.Moves.{IsFoundAt, acknowledged, looked, step_for, with_found}
use Rattle.like_live.specs.Calls.{asked_in, verdict_at}
use Rattle.like_live.specs.History.{IsInRow}
use Rattle.like_live.specs.Deeds.{Deed, counted, deed, deed_now, deeds_found, glimpsed, made_since, showed}

-- a seat that looks at the phase word and then runs a phase has seen its number
pub saw_phase : (s : WorkerState) (sight : Sight) → IsSightOf s sight → IsRunning (seen s sight)
    → sight.number ≡ phase_of (seen s sight)
saw_phase (Runs k) sight can runs = can.0
saw_phase (Answered k) sight can runs = by sight.waits can runs where
  by : (b : Bool) → MatchBool b (sight.number ≡ k) (sight.number ≡ k + 1) → IsRunning (cond b (Answered k) (Runs (k + 1)))
      → sight.number ≡ phase_of (cond b (Answered k) (Runs (k + 1)))
  by true at runs = absurd runs
  by false at runs = at
saw_phase Gone sight can runs = absurd can

-- the seat after it retired
abbrev pub retired_seat : LiveView → LiveView
retired_seat v = with_station v (record v.station { post = retired v.station.post })

-- the seat after a merge and its report
abbrev pub reported : LiveView → List Addition → List Logged → LiveView
reported v adds logged =
    let m = merged v.station adds logged in
    with_station v (record m { post = answered m.post })

-- a request is accepted at a seat that runs a phase, for a page that is split there or not
pub record IsRequest (v : LiveView) (user page : ℕ) (split : Bool) : Type 0 where
  pub runs : IsRunning v.station.post.state
  pub accepted : verdict_at v.station user page ≡ Accepted
  pub at : is_split_at v.station.post page ≡ split

-- a step of a seat: what it does, and what is known then
pub data Step (v : LiveView) : Type 0 where
  looks : (sight : Sight) (mask number : ℕ) → IsSightOf v.station.post.state sight → Step v
  finds : (found : List Found) (logged : List Logged) → RunsJoined v.station.post.state
      → map (λ f. f.asked) found ≡ waiting v → All (IsFoundAt v.station) found
      → LogsSteps (map (step_for v.station.post.worker) found) v.station.post.logged logged → Step v
  acknowledges : RunsJoined v.station.post.state → Step v
  reports : (adds : List Addition) (logged : List Logged) → RunsSplit v.station.post.state
      → MergesAll v.station.post.opening.factor (phase_at v.station) v.station.slice adds
      → LogsSteps (map (step_adding v.station.post.worker) adds) v.station.post.logged logged → Step v
  retires : RunsJoined v.station.post.state → Step v
  returns : (phase mask number : ℕ) → v.station.post.state ≡ Gone → Step v
  takes : Step v
  slices_like : (user page : ℕ) → IsRequest v user page true → Step v
  adds_like : (user page old number : ℕ) → IsRequest v user page false → Step v
  reads : (user page : ℕ) (shown : Seen) (number : ℕ) → IsRequest v user page false
      → shown.last ≡ last_of v.station.last user → Step v
  glances : (user page count : ℕ) (shown : Seen) (number : ℕ) → IsRequest v user page true
      → shown.last ≡ last_of v.station.last user → Step v
  holds : (user page tag : ℕ) → IsRequest v user page true → Step v

-- the seat after it
abbrev pub next : (v : LiveView) → Step v → LiveView
next v (looks sight mask number can) = looked v sight mask number
next v (finds found logged joined order shown logs) = with_found v found logged
next v (acknowledges joined) = acknowledged v
next v (reports adds logged split merges logs) = reported v adds logged
next v (retires joined) = retired_seat v
next v (returns phase mask number gone) = with_station v (came_back v.station phase mask number)
next v takes = record v { found = drop 1 v.found }
next v (slices_like user page is) = with_station v (liked_last (sliced v.station page) user page)
next v (adds_like user page old number is) =
    with_station v (liked_last (with_addition v.station page old 1 number) user page)
next v (reads user page shown number is last) =
    with_station v (record v.station { post = has_read v.station.post page shown.count number })
next v (glances user page count shown number is last) =
    with_station v (record v.station { post = has_glanced v.station.post page count number })
next v (holds user page tag is) = with_station v (stashing v.station (asked_in (phase_at v.station) user page tag))

-- the deeds that it is
abbrev pub done_by : (v : LiveView) → Step v → List Deed
done_by v (finds found logged joined order shown logs) = deeds_found (made_since v (with_found v found logged)) found
done_by v (slices_like user page is) = deed_now v user page counted ∷ []
done_by v (adds_like user page old number is) = deed number (phase_at v.station) user page counted ∷ []
done_by v (reads user page shown number is last) = deed number (phase_at v.station) user page (showed shown) ∷ []
done_by v (glances user page count shown number is last) =
    deed number (phase_at v.station) user page (glimpsed shown) ∷ []
done_by v other = []

-- a relation of a seat, deeds and the seat after them, which holds of each step and of steps one after the other
pub record FollowsSteps (R : LiveView → List Deed → LiveView → Type 0) : Type 0 where
  pub none : (v : LiveView) → R v [] v
  pub both : (v now after : LiveView) (first rest : List Deed) → R v first now → R now rest after
      → R v (first ++ rest) after
  pub one : (v : LiveView) (s : Step v) → R v (done_by v s) (next v s)

-- the same of calls, where a like that goes into the slice comes with the look before it
abbrev pub IsNoSlice : (v : LiveView) → Step v → Type 0
IsNoSlice v (slices_like user page is) = ⊥
IsNoSlice v s = Unit {0}

pub record FollowsCalls (R : LiveView → List Deed → LiveView → Type 0) : Type 0 where
  pub none : (v : LiveView) → R v [] v
  pub both : (v now after : LiveView) (first rest : List Deed) → R v first now → R now rest after
      → R v (first ++ rest) after
  pub one : (v : LiveView) (s : Step v) → IsNoSlice v s → R v (done_by v s) (next v s)
  pub slice : (v : LiveView) (sight : Sight) (mask number user page : ℕ) → IsSightOf v.station.post.state sight
      → (is : IsRequest (looked v sight mask number) user page true)
      → R v (done_by (looked v sight mask number) (slices_like user page is))
      (next (looked v sight mask number) (slices_like user page is))

-- and of rows, whose likes may go into the slice without a look of their own
pub record FollowsRows (R : LiveView → List Deed → LiveView → Type 0) : Type 0 where
  pub calls : FollowsCalls R
  pub row : (v : LiveView) (user page : ℕ) (is : IsRequest v user page true) → IsInRow v
      → R v (done_by v (slices_like user page is)) (next v (slices_like user page is))

pub rows_follow : (R : LiveView → List Deed → LiveView → Type 0) → FollowsSteps R → FollowsRows R
rows_follow R f = record {
  calls = record {
    none = f.none;
    both = f.both;
    one = λ v s plain. f.one v s;
    slice = λ v sight mask number user page can is.
        let w = looked v sight mask number in
        f.both v w (next w (slices_like user page is)) [] (done_by w (slices_like user page is))
        (f.one v (looks sight mask number can)) (f.one w (slices_like user page is));
  };
  row = λ v user page is in_row. f.one v (slices_like user page is);
}
