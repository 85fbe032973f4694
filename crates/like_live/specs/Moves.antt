-- The phase work of a live seat: what a look at the phase word makes it do.
use Rattle.std.specs.Prelude.{◌≡◌, ℕ, ◌≤◌, Bool, true, false, List, [], ◌++◌, map, All}
use Rattle.like_core.specs.Types.{Gone, Logged, PageStep, Read, Sight}
use Rattle.like_core.specs.WorkerState.{IsSightOf, RunsJoined, RunsSplit}
use Rattle.like_core.specs.{PageSteps.page_step, PageSteps.then_steps, Post.additions_of, Post.answered, Post.number_of}
use Rattle.like_tables.specs.UserTable.{last_of}
use Rattle.like_seat.specs.StationView.{StationView, phase_at}
use Rattle.like_seat.specs.{Merge.LogsSteps, Merge.MergesAndReports, Steps.saw}
use Rattle.like_live.specs.LiveView.{LiveView, waiting, with_station}
use Rattle.like_live.specs.Types.{Asked, Found, TurnAnswer, TurnAnswer as turn}

-- the seat after a look at the phase word, which has this number; if it enters a split phase, it has also read that
-- phase's mask
abbrev pub looked : LiveView → Sight → ℕ → ℕ → LiveView
looked v sight mask number = with_station v (saw v.station sight mask number)

-- the seat after it acknowledged its phase
abbrev pub acknowledged : LiveView → LiveView
acknowledged v = with_station v (record v.station { post = answered v.station.post })

-- the look is shown its user's last like, and a count of its page that has all that the seat added, in the phase that
-- the seat runs
pub record IsFoundAt (s : StationView Asked) (f : Found) : Type 0 where
  pub last : f.last ≡ last_of s.last f.asked.user
  pub own : additions_of s.post f.asked.page ≤ f.count
  pub phase : f.phase ≡ phase_at s

-- the read of a page's count that was made for a found look, as a step of this worker
abbrev pub step_for : ℕ → Found → PageStep
step_for worker f = page_step worker f.phase f.asked.page f.count Read

-- the seat after these looks were found, each with one read, and no other waits; these are its entries then
abbrev pub with_found : LiveView → List Found → List Logged → LiveView
with_found v found logged = record {
  station = record v.station {
    post = record v.station.post {
      did = then_steps v.station.post.did (map (step_for v.station.post.worker) found);
      logged = logged;
    };
    stash = record v.station.stash { looks = [] };
  };
  found = v.found ++ found;
}

-- all looks that wait are found, in the order of asking
pub record FindsAll (v after : LiveView) : Type 0 where
  pub found : List Found
  pub order : map (λ f. f.asked) found ≡ waiting v
  pub shown : All (IsFoundAt v.station) found
  pub rest : after ≡ with_found v found after.station.post.logged
  pub logs : LogsSteps (map (step_for v.station.post.worker) found) v.station.post.logged after.station.post.logged

-- what a seat does that has looked and runs a phase. In a joined phase, it first finds all looks that wait. If the
-- phase is ending, it then stops: at the end of a joined phase it acknowledges; at the end of a split phase it adds its
-- slice to the pages' counts, empties it, and reports
pub data Works (v : LiveView) (ending : Bool) (answer : TurnAnswer) (after : LiveView) : Type 0 where
  runs_joined : RunsJoined v.station.post.state → ending ≡ false
      → answer ≡ turn.Runs → FindsAll v after → Works v ending answer after
  acknowledges : (now : LiveView) → RunsJoined v.station.post.state → ending ≡ true
      → answer ≡ turn.Between → FindsAll v now → after ≡ acknowledged now → Works v ending answer after
  runs_split : RunsSplit v.station.post.state → ending ≡ false
      → answer ≡ turn.Runs → after ≡ v → Works v ending answer after
  reports : (s : StationView Asked) → RunsSplit v.station.post.state → ending ≡ true
      → answer ≡ turn.Between → MergesAndReports v.station s → after ≡ with_station v s → Works v ending answer after

-- a seat looks at the phase word, and acts on it: it is gone, and does not look; or it has answered a phase and waits,
-- since the next is not released yet; or it runs the phase that it looked at, which it enters by that look if it is the
-- next one, and then does this
pub data MovesBy (Runs : LiveView → Bool → TurnAnswer → LiveView → Type 0) (v : LiveView) (answer : TurnAnswer)
    (after : LiveView) : Type 0 where
  is_gone : v.station.post.state ≡ Gone → answer ≡ turn.Gone → after ≡ v → MovesBy Runs v answer after
  waits : (sight : Sight) (mask : ℕ) → IsSightOf v.station.post.state sight → sight.waits ≡ true
      → answer ≡ turn.Between → after ≡ looked v sight mask (number_of after.station.post) → MovesBy Runs v answer after
  works : (sight : Sight) (mask number : ℕ) → IsSightOf v.station.post.state sight → sight.waits ≡ false
      → Runs (looked v sight mask number) sight.ending answer after → MovesBy Runs v answer after

-- the phase work of a seat
abbrev pub Moves : LiveView → TurnAnswer → LiveView → Type 0
Moves = MovesBy Works
