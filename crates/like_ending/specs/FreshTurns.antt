-- The turns of a worker, case by case, as far as they count. Its look is fresh: it shows the crew's phase, and whether
-- that is ending.
use Rattle.std.specs.Prelude.{◌≡◌, ℕ, ◌+◌, ◌-◌, ◌<◌, Bool, true, false}
use Rattle.like_core.specs.Types.{Answered, Gone}
use Rattle.like_core.specs.WorkerState.{RunsJoined, RunsSplit, looked, phase_of}
use Rattle.like_ending.specs.Progress.{WorkerProgress}

-- the worker after a look at this phase
abbrev pub saw : ℕ → WorkerProgress → WorkerProgress
saw phase w = record w { state = looked phase w.state }

-- it took an item
abbrev pub took : WorkerProgress → WorkerProgress
took w = record w { items = w.items - 1 }

-- it answered the phase that it runs
abbrev pub answered : WorkerProgress → WorkerProgress
answered w = record w { state = Answered (phase_of w.state) }

-- what a worker does that has looked and runs a phase. In a split phase it may always be idle: its stash may be full.
-- In a joined one it finds nothing to take only if not all lists are open
pub data FreshWorks (all_open ending : Bool) (w after : WorkerProgress) : Type 0 where
  runs_stashed : RunsJoined w.state → 0 < w.looks → after ≡ record w { looks = w.looks - 1 }
      → FreshWorks all_open ending w after
  retires : RunsJoined w.state → w.looks ≡ 0 → w.items ≡ 0 → after ≡ record w { state = Gone }
      → FreshWorks all_open ending w after
  acknowledges : RunsJoined w.state → w.looks ≡ 0 → 0 < w.items → ending ≡ true → after ≡ answered w
      → FreshWorks all_open ending w after
  takes_joined : RunsJoined w.state → w.looks ≡ 0 → 0 < w.items → ending ≡ false → after ≡ took w
      → FreshWorks all_open ending w after
  finds_nothing : RunsJoined w.state → w.looks ≡ 0 → 0 < w.items → ending ≡ false → all_open ≡ false
      → after ≡ w → FreshWorks all_open ending w after
  reports : RunsSplit w.state → ending ≡ true → after ≡ answered w → FreshWorks all_open ending w after
  idles : RunsSplit w.state → ending ≡ false → after ≡ w → FreshWorks all_open ending w after
  takes_split : RunsSplit w.state → ending ≡ false → 0 < w.items → after ≡ took w
      → FreshWorks all_open ending w after
  stashes : RunsSplit w.state → ending ≡ false → 0 < w.items
      → after ≡ record (took w) { looks = w.looks + 1 } → FreshWorks all_open ending w after

-- turn case: what a whole turn does, where its look shows this phase, and whether it is ending
pub data FreshTurns (all_open : Bool) (phase : ℕ) (ending : Bool) (w after : WorkerProgress)
    : Type 0 where
  is_gone : w.state ≡ Gone → after ≡ w → FreshTurns all_open phase ending w after
  waits : w.state ≡ Answered phase → after ≡ w → FreshTurns all_open phase ending w after
  works : FreshWorks all_open ending (saw phase w) after → FreshTurns all_open phase ending w after
