-- Who runs which kind of phase.
use Rattle.std.proofs.Common.{◌≡◌, ℕ, ◌%◌, ◌==◌, ◌&&◌, ◌||◌, Bool, true, false, refl, arith, eqb-true}
use Rattle.like_core.specs.declared.worker_state.WorkerState.{WorkerState}
use Rattle.like_core.specs.declared.worker_state.WorkerState.TheVariants.{Runs, Answered, Gone}
use Rattle.like_core.specs.declared.view.WorkerSeatView.{WorkerSeatView}
use Rattle.like_core.specs.Phase.{IsSplit, is_hot_by, is_marked}
use Rattle.like_core.specs.PhaseMasks.{mask_of}
use Rattle.like_core.specs.Post.{is_split_at}
use Rattle.like_core.specs.WorkerState.{IsRunning, RunsJoined, RunsSplit, phase_of}

-- who runs a split phase runs a phase
pub split_runs : (s : WorkerState) → RunsSplit s → IsRunning s
split_runs (Runs k) h = tt
split_runs (Answered k) h = absurd h
split_runs Gone h = absurd h

-- who runs a joined phase runs no split one
pub unsplit : (s : WorkerState) → RunsJoined s → RunsSplit s → ⊥
unsplit (Runs k) joined split = omega (arith, joined, split)
unsplit (Answered k) joined split = split
unsplit Gone joined split = split

-- who runs a phase in which a page is split runs a split one
split_odd : (a b : Bool) → (a && b) ≡ true → a ≡ true
split_odd true b e = refl
split_odd false b e = cc

pub runs_split : (post : WorkerSeatView) (page : ℕ) → IsRunning post.state → is_split_at post page ≡ true → RunsSplit post.state
runs_split post page runs is =
    by_state post.state runs
    (eqb-true (phase_of post.state % 2) 1
    (split_odd (phase_of post.state % 2 == 1)
    (is_marked post.opening.marks page || is_hot_by post.opening.limits.hot (mask_of post.masks (phase_of post.state)) page) is))
  where
    by_state : (s : WorkerState) → IsRunning s → IsSplit (phase_of s) → RunsSplit s
    by_state (Runs k) runs odd = odd
    by_state (Answered k) runs odd = absurd runs
    by_state Gone runs odd = absurd runs
