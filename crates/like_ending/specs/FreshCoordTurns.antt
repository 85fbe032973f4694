-- The turns of the coordinator, case by case, as far as they count. Its look is fresh: it shows the phase, whether that
-- is ending, who is in and who is gone.
use Rattle.std.specs.Prelude.{◌≡◌, ◌+◌, ◌-◌, ◌<◌, true, false}
use Rattle.like_core.specs.Phase.{last_phase}
use Rattle.like_ending.specs.Progress.{AllAreGone, AllAreIn, CrewProgress}

-- turn case of the coordinator: what it does, and the crew after
pub data FreshCoordTurns (c after : CrewProgress) : Type 0 where
  ends : AllAreGone c → after ≡ c → FreshCoordTurns c after
  counts : ¬ AllAreGone c → c.ending ≡ false → 0 < c.left → after ≡ record c { left = c.left - 1 }
      → FreshCoordTurns c after
  stays : ¬ AllAreGone c → c.ending ≡ false → c.left ≡ 0 → c.phase ≡ last_phase → after ≡ c
      → FreshCoordTurns c after
  announces : ¬ AllAreGone c → c.ending ≡ false → c.left ≡ 0 → c.phase < last_phase
      → after ≡ record c { ending = true } → FreshCoordTurns c after
  releases : ¬ AllAreGone c → c.ending ≡ true → AllAreIn c
      → after ≡ record c { phase = c.phase + 1; ending = false; left = c.turns } → FreshCoordTurns c after
  waits : ¬ AllAreGone c → c.ending ≡ true → ¬ AllAreIn c → after ≡ c → FreshCoordTurns c after
