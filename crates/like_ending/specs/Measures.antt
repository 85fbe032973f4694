-- What each round lowers, and what each fair stretch lowers.
use Rattle.std.specs.Prelude.{ℕ, ◌+◌, ◌-◌, ◌*◌, ◌%◌, ◌==◌, min, nat_lt, if◌then◌else◌, Bool, true, false, length, sum_by}
use Rattle.like_core.specs.{Phase.last_phase, Types.Answered, Types.Gone, Types.Runs, Types.WorkerState}
use Rattle.like_ending.specs.Progress.{CrewProgress, WorkerProgress, remaining_in}

-- how many turns of a worker change its state in the present phase: it enters the phase, and answers it. None does once
-- it is in
abbrev pub changes_ahead : ℕ → WorkerState → ℕ
changes_ahead phase (Runs j) = 1
changes_ahead phase (Answered j) = (if nat_lt j phase then 2 else 0)
changes_ahead phase Gone = 0

-- 1 if some worker has yet to answer the phase, and 0 once all are in
abbrev pub one_until_all_in : CrewProgress → ℕ
one_until_all_in c = min 1 (sum_by (λ w. changes_ahead c.phase w.state) c.workers)

-- what is left of a phase that is split (or joined) and ending (or running), with so many turns in all and so many
-- left, where some worker has yet to answer (1) or all are in (0)
abbrev pub rest_of : Bool → Bool → ℕ → ℕ → ℕ → ℕ
rest_of false false turns left out = (turns + 1 - left) * (turns + 3)
rest_of false true turns left out = (turns + 1) * (turns + 2 + out)
rest_of true false turns left out = (turns + 1) * (left + 1)
rest_of true true turns left out = (turns + 1) * out

-- what is left of the present phase, at most (turns + 1) * (turns + 3). In a joined phase it grows while turns are
-- counted, since the workers' share of the measure falls by more
abbrev pub rest : CrewProgress → ℕ
rest c = rest_of (c.phase % 2 == 1) c.ending c.turns c.left (one_until_all_in c)

-- what each round lowers
abbrev pub measure : CrewProgress → ℕ
measure c = (2 * c.turns + 4) * remaining_in c + rest c

-- what each turn of a worker lowers that changes anything
abbrev pub work_ahead : ℕ → WorkerProgress → ℕ
work_ahead phase w = changes_ahead phase w.state + 2 * w.items + w.looks

-- how many turns change anything in a whole phase, at most: the coordinator counts its turns, announces and releases;
-- each worker enters and answers
abbrev pub changes_in : CrewProgress → ℕ
changes_in c = c.turns + 2 * length c.workers + 2

-- what each turn lowers that changes anything: the phases up to the last, and what is ahead in this one. Before the
-- coordinator announces its end, that is the turns left to it and the one that announces
abbrev pub distance : CrewProgress → ℕ
distance c =
    (last_phase - c.phase) * changes_in c
    + (if c.ending then 0 else c.left + 1)
    + sum_by (work_ahead c.phase) c.workers
