-- Everybody can have a turn.
use Rattle.std.proofs.Common.{◌≡◌, ℕ, ◌≤◌, nat_lt, ◌⊎◌, inl, inr, Bool, true, subst, sym, ap, refl, arith}
use Rattle.std.proofs.lemmas.Bool.{cases_Bool, cases_lt, cond-true, lt-ltb}
use Rattle.std.proofs.lemmas.Option.{slice_get_cases}
use Rattle.like_core.specs.declared.worker_state.WorkerState.{WorkerState}
use Rattle.like_core.specs.declared.worker_state.WorkerState.TheVariants.{Runs, Answered, Gone}
use Rattle.like_core.specs.Phase.{last_phase}
use Rattle.like_core.specs.WorkerState.{RunsJoined, RunsSplit, looked}
use Rattle.like_ending.specs.Progress.{AllAreGone, CrewProgress, WorkerProgress}
use Rattle.like_ending.specs.FreshTurns.{FreshTurns}
use Rattle.like_ending.specs.FreshTurns as turn
use Rattle.like_ending.specs.FreshCoordTurns.{FreshCoordTurns}
use Rattle.like_ending.specs.FreshCoordTurns as lead
use Rattle.like_ending.specs.InPhase.{IsCrewInPhase, SuitsPhase}
use Rattle.like_ending.specs.Schedules.{coordinator, worker}
use Rattle.like_ending.specs.Laws.{AllCanTurn}
use Rattle.like_ending.proofs.Rests.{cases_phase, none_all_gone, none_all_in, all_gone_none, all_in_none, out_of, there_of}
use Rattle.like_ending.proofs.Sums.{holds_at}

-- a worker is gone, waits, or runs the phase after its look
cases_state : (phase : ℕ) (ending : Bool) (state : WorkerState)
    → SuitsPhase phase ending state
    → (state ≡ Gone) ⊎ ((state ≡ Answered phase) ⊎ (looked phase state ≡ Runs phase))
cases_state phase ending (Runs j) suits = inr (inr (ap Runs suits))
cases_state phase ending (Answered j) suits = elim suits [
  | inl now ↦ inr (inl (ap Answered now.0))
  | inr next ↦ inr (inr (cond-true (nat_lt j phase) (Runs phase) (Answered j) (lt-ltb j phase (omega arith))))
]
cases_state phase ending Gone suits = inl refl

-- a turn that some worker makes
CanWork : ℕ → Bool → WorkerProgress → Type 0
CanWork phase ending w = (v : WorkerProgress) × FreshTurns true phase ending w v

works_joined : (phase : ℕ) (ending : Bool) (w : WorkerProgress)
    → RunsJoined (looked phase w.state)
    → CanWork phase ending w
unfolding CanWork
works_joined phase ending w runs = elim (cases_lt 0 w.looks) [
  | inl some ↦ (_, turn.works (turn.runs_stashed runs some refl))
  | inr none ↦ elim (cases_lt 0 w.items) [
    | inl more ↦ elim (cases_Bool ending) [
      | inl now ↦ (_, turn.works (turn.acknowledges runs (omega arith) more now refl))
      | inr run ↦ (_, turn.works (turn.takes_joined runs (omega arith) more run refl))
    ]
    | inr all ↦ (_, turn.works (turn.retires runs (omega arith) (omega arith) refl))
  ]
]

works_split : (phase : ℕ) (ending : Bool) (w : WorkerProgress)
    → RunsSplit (looked phase w.state)
    → CanWork phase ending w
unfolding CanWork
works_split phase ending w runs = elim (cases_Bool ending) [
  | inl now ↦ (_, turn.works (turn.reports runs now refl))
  | inr run ↦ (_, turn.works (turn.idles runs run refl))
]

can_work : (phase : ℕ) (ending : Bool) (w : WorkerProgress) → SuitsPhase phase ending w.state → CanWork phase ending w
unfolding CanWork
can_work phase ending w suits = elim (cases_state phase ending w.state suits) [
  | inl gone ↦ (w, turn.is_gone gone refl)
  | inr there ↦ elim there [
    | inl has ↦ (w, turn.waits has refl)
    | inr runs ↦ elim (cases_phase phase) [
      | inl even ↦ works_joined phase ending w (subst RunsJoined (sym runs) even)
      | inr odd ↦ works_split phase ending w (subst RunsSplit (sym runs) odd)
    ]
  ]
]

-- a turn that the coordinator makes, while some worker is there
leads : (c : CrewProgress) → IsCrewInPhase c → 1 ≤ there_of c → (d : CrewProgress) × FreshCoordTurns c d
leads c p some =
    let there : ¬ AllAreGone c = λ gone. let none = all_gone_none c gone in omega arith in
    elim (cases_Bool c.ending) [
      | inl now ↦ elim (cases_lt 0 (out_of c)) [
        | inl more ↦ (c, lead.waits there now (λ all. let none = all_in_none c all in omega arith) refl)
        | inr none ↦ (_, lead.releases there now (none_all_in c p (omega arith)) refl)
      ]
      | inr run ↦ elim (cases_lt 0 c.left) [
        | inl more ↦ (_, lead.counts there run more refl)
        | inr none ↦ elim (cases_lt c.phase last_phase) [
          | inl below ↦ (_, lead.announces there run (omega arith) below refl)
          | inr past ↦ let within = p.within in (c, lead.stays there run (omega arith) (omega arith) refl)
        ]
      ]
    ]

pub all_can_turn : AllCanTurn
unfolding CanWork
all_can_turn coordinator c p part = elim (cases_lt 0 (there_of c)) [
  | inl some ↦ leads c p some
  | inr none ↦ (c, lead.ends (none_all_gone c (omega arith)) refl)
]
all_can_turn (worker i) c p part = elim (slice_get_cases c.workers i).1 [
  | inl here ↦
      let w = here.0 in
      let suits = holds_at (λ x. SuitsPhase c.phase c.ending x.state) c.workers i w p.suits here.2 in
      let turns = can_work c.phase c.ending w suits in
      (_, record { before = w; after = turns.0; here = here.2; turn = turns.1; rest = refl })
  | inr past ↦ let none = past.0 in absurd (omega arith)
]
