use Rattle.std.proofs.Common.{◌≡◌, ◌≢◌, ℕ, suc, ◌+◌, ◌<◌, Bool, true, false, [], ◌∷◌, All, refl, arith}
use Rattle.std.proofs.lemmas.List.Elements.{All-cons}
use Rattle.like_core.specs.declared.worker_state.WorkerState.{WorkerState}
use Rattle.like_core.specs.declared.worker_state.WorkerState.TheVariants.{Runs, Answered, Gone}
use Rattle.like_core.specs.Phase.{last_phase}
use Rattle.like_core.specs.WorkerState.{IsIn}
use Rattle.like_ending.specs.Progress.{AllAreGone, CrewProgress, WorkerProgress}
use Rattle.like_ending.specs.FreshTurns.{FreshWorks, acknowledges, idles, reports, retires, saw, takes_joined, works}
use Rattle.like_ending.specs.FreshCoordTurns.{announces, releases}
use Rattle.like_ending.specs.Schedules.{IsFreshRound, Unended}
use Rattle.like_ending.specs.Example.{alone}
use Rattle.like_ending.proofs.laws.one_request_lasts.Goals as goal

-- the worker, with so many items
abbrev of : WorkerState → ℕ → WorkerProgress
of state items = record { state = state; items = items; looks = 0 }

-- what holds of the one worker holds of all
all_of_one : (P : WorkerProgress → Type 0) (w : WorkerProgress) → P w → All P (w ∷ [])
all_of_one P w holds = All-cons P w [] holds (λ k d there. absurd (omega (arith, there)))

there : (phase : ℕ) (ending : Bool) (state : WorkerState) (items : ℕ)
    → state ≢ Gone
    → ¬ AllAreGone (alone phase ending state items)
there phase ending state items stays gone = stays (gone 0 (of state items) (omega arith))

-- a round in which the coordinator announces the end of the phase, and then n more
announces_then : (n phase : ℕ) (state after : WorkerState) (items fewer : ℕ) (d : CrewProgress)
    → phase < last_phase
    → state ≢ Gone
    → FreshWorks true true (saw phase (of state items)) (of after fewer)
    → Unended IsFreshRound n (alone phase true after fewer) d
    → Unended IsFreshRound (suc n) (alone phase false state items) d
announces_then n phase state after items fewer d below stays work others =
    let some = there phase false state items stays in
    let round : IsFreshRound (alone phase false state items) (alone phase true after fewer) =
    record {
      led = alone phase true state items;
      coordinator = announces some refl refl below refl;
      workers = (works work, tt);
      rest = refl;
    }
    in
    (some, (alone phase true after fewer, (round, others)))

-- a round in which the coordinator releases the next phase, and then n more
releases_then : (n phase : ℕ) (state after : WorkerState) (items fewer : ℕ) (d : CrewProgress)
    → IsIn phase state
    → state ≢ Gone
    → FreshWorks true false (saw (phase + 1) (of state items)) (of after fewer)
    → Unended IsFreshRound n (alone (phase + 1) false after fewer) d
    → Unended IsFreshRound (suc n) (alone phase true state items) d
releases_then n phase state after items fewer d is_in stays work others =
    let some = there phase true state items stays in
    let round : IsFreshRound (alone phase true state items) (alone (phase + 1) false after fewer) =
    record {
      led = alone (phase + 1) false state items;
      coordinator = releases some refl (all_of_one (λ w. IsIn phase w.state) (of state items) is_in) refl;
      workers = (works work, tt);
      rest = refl;
    }
    in
    (some, (alone (phase + 1) false after fewer, (round, others)))

runs : (phase : ℕ) → Runs phase ≢ Gone
runs phase is = cc

has_answered : (phase : ℕ) → Answered phase ≢ Gone
has_answered phase is = cc

-- where it ends
end : CrewProgress
end = alone 4 true Gone 0

-- joined phases: it takes the request in phase 2, and the end mark in phase 4
from_4 : Unended IsFreshRound 2 (alone 3 true (Answered 3) 1) end
unfolding end
from_4 =
    releases_then 1 3 (Answered 3) (Runs 4) 1 0 end refl (has_answered 3)
    (takes_joined refl refl (omega arith) refl refl)
    (announces_then 0 4 (Runs 4) Gone 0 0 end (omega arith) (runs 4) (retires refl refl refl refl) refl)

from_3 : Unended IsFreshRound 4 (alone 2 true (Answered 2) 1) end
from_3 =
    releases_then 3 2 (Answered 2) (Runs 3) 1 1 end refl (has_answered 2) (idles refl refl refl)
    (announces_then 2 3 (Runs 3) (Answered 3) 1 1 end (omega arith) (runs 3) (reports refl refl refl) from_4)

from_2 : Unended IsFreshRound 6 (alone 1 true (Answered 1) 2) end
from_2 =
    releases_then 5 1 (Answered 1) (Runs 2) 2 1 end refl (has_answered 1)
    (takes_joined refl refl (omega arith) refl refl)
    (announces_then 4 2 (Runs 2) (Answered 2) 1 1 end (omega arith) (runs 2)
    (acknowledges refl refl (omega arith) refl refl) from_3)

from_1 : Unended IsFreshRound 8 (alone 0 true (Answered 0) 2) end
from_1 =
    releases_then 7 0 (Answered 0) (Runs 1) 2 2 end refl (has_answered 0) (idles refl refl refl)
    (announces_then 6 1 (Runs 1) (Answered 1) 2 2 end (omega arith) (runs 1) (reports refl refl refl) from_2)

from_0 : Unended IsFreshRound 9 (alone 0 false (Runs 0) 2) end
from_0 =
    announces_then 8 0 (Runs 0) (Answered 0) 2 2 end (omega arith) (runs 0)
    (acknowledges refl refl (omega arith) refl refl) from_1

pub returns : goal.returns
unfolding end
returns c = record {
  last = end;
  rounds = from_0;
  ended = all_of_one (λ w. w.state ≡ Gone) (of Gone 0) refl;
  within = omega arith;
  beyond = λ most. omega (arith, most);
}
