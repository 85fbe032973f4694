-- Fair stretches lower the distance: until all workers are gone, there is somebody whose turn does.
use Rattle.std.proofs.Common.{◌≡◌, ℕ, ◌+◌, ◌-◌, ◌%◌, ◌<◌, ◌≤◌, ◌⊎◌, inl, inr, true, false, List, [], ◌∷◌, Some, slice_get, set, sum_by, subst, ap, sym, ◌∙◌, refl, arith}
use Rattle.std.specs.List.{Contains}
use Rattle.std.proofs.lemmas.Bool.{cases_Bool, cases_lt}
use Rattle.std.proofs.lemmas.Option.{same_Some, slice_get_within}
use Rattle.like_core.specs.Phase.{IsJoined, last_phase}
use Rattle.like_ending.specs.Progress.{AllAreGone, CrewProgress, WorkerProgress, one_until_gone}
use Rattle.like_ending.specs.FreshCoordTurns.{FreshCoordTurns, ends, counts, stays, announces, releases, waits}
use Rattle.like_ending.specs.InPhase.{IsCrewInPhase, SuitsPhase}
use Rattle.like_ending.specs.Schedules.{TakeTurns, IsFairStretch, HasTurn, Participant, TakesPart, HasTurnAt, coordinator, worker}
use Rattle.like_ending.specs.Measures.{changes_ahead, distance, work_ahead}
use Rattle.like_ending.specs.Laws.{FairSchedulesEnd, FairStretchesLower}
use Rattle.like_ending.proofs.WorkerFacts.{GetsDone, turn_does}
use Rattle.like_ending.proofs.CrewFacts.{CrewKeeps, crew_keeps}
use Rattle.like_ending.proofs.Rests.{none_all_in, out_of, some_there}
use Rattle.like_ending.proofs.Sums.{contains_cons, contains_none, holds_at, some_in_sum, sum_set}
use Rattle.like_ending.proofs.Ends.{Down, followed, start_distance, starts_in_phase, fallen}

-- each turn of this participant would lower the distance
Lowering : CrewProgress → Participant → Type 0
Lowering c who = (d : CrewProgress) → HasTurn true who c d → distance d + 1 ≤ distance c

-- a turn that changes something lowers the distance
changed : (c d : CrewProgress) → CrewKeeps c d → (d ≡ c → ⊥) → distance d + 1 ≤ distance c
changed c d k other = elim k.closer [ inl closer ↦ closer | inr same ↦ absurd (other same) ]

-- the coordinator has something to do
HasToLead : CrewProgress → Type 0
HasToLead c =
    ((c.ending ≡ false) × ((0 < c.left) ⊎ (c.phase < last_phase))) ⊎ ((c.ending ≡ true) × (out_of c ≡ 0))

coord_lowers : (c d : CrewProgress)
    → IsCrewInPhase c
    → ¬ AllAreGone c
    → HasToLead c
    → FreshCoordTurns c d
    → distance d + 1 ≤ distance c
unfolding HasToLead
coord_lowers c d p some has (ends gone e) = absurd (some gone)
coord_lowers c d p some has (counts there run more e) =
    changed c d (crew_keeps true coordinator c d p (counts there run more e))
    (λ same.
    let left : c.left ≡ c.left - 1 = ap (λ (x : CrewProgress). x.left) (sym same ∙ e) in
    omega arith)
coord_lowers c d p some has (stays there run none last e) = elim has [
  | inl leads ↦ elim leads.1 [ inl more ↦ absurd (omega arith) | inr below ↦ absurd (omega arith) ]
  | inr is ↦ let now = is.0 in absurd (cc)
]
coord_lowers c d p some has (announces there run none last e) =
    changed c d (crew_keeps true coordinator c d p (announces there run none last e))
    (λ same.
    let now : c.ending ≡ true = ap (λ (x : CrewProgress). x.ending) (sym same ∙ e) in
    cc)
coord_lowers c d p some has (releases there now all e) =
    changed c d (crew_keeps true coordinator c d p (releases there now all e))
    (λ same.
    let phase : c.phase ≡ c.phase + 1 = ap (λ (x : CrewProgress). x.phase) (sym same ∙ e) in
    omega arith)
coord_lowers c d p some has (waits there now out e) = elim has [
  | inl leads ↦ let run = leads.0 in absurd (cc)
  | inr is ↦ absurd (out (none_all_in c p is.1))
]

-- a worker has something to do: it is there in the last phase, or it has yet to answer
HasToWork : CrewProgress → WorkerProgress → Type 0
HasToWork c w =
    (IsJoined c.phase × (c.ending ≡ false) × (1 ≤ one_until_gone w.state))
    ⊎ ((c.ending ≡ true) × (1 ≤ changes_ahead c.phase w.state))

worker_lowers : (c d : CrewProgress) (i : ℕ) (w : WorkerProgress)
    → IsCrewInPhase c
    → slice_get c.workers i ≡ Some w
    → HasToWork c w
    → HasTurnAt true i c d
    → distance d + 1 ≤ distance c
unfolding HasToWork
worker_lowers c d i w p here has t =
    let is : w ≡ t.before = same_Some w t.before (sym here ∙ t.here) in
    let suits : SuitsPhase c.phase c.ending t.before.state =
    holds_at (λ x. SuitsPhase c.phase c.ending x.state) c.workers i t.before p.suits t.here
    in
    let done : GetsDone c.phase c.ending t.before t.after =
    (turn_does true c.phase c.ending t.before t.after suits t.turn).1 refl
    in
    let has_it : HasToWork c t.before = subst (HasToWork c) is has in
    let fewer : work_ahead c.phase t.after + 1 ≤ work_ahead c.phase t.before =
    elim has_it [
      | inl there ↦ let some = there.2 in let most = done.work there.0 there.1 in omega arith
      | inr out ↦ let some = out.1 in let most = done.work_ending out.0 in omega arith
    ]
    in
    changed c d (crew_keeps true (worker i) c d p t)
    (λ same.
    let workers : set c.workers i t.after ≡ c.workers = ap (λ (x : CrewProgress). x.workers) (sym t.rest ∙ same) in
    let works : sum_by (work_ahead c.phase) (set c.workers i t.after) ≡ sum_by (work_ahead c.phase) c.workers =
    ap (sum_by (work_ahead c.phase)) workers
    in
    let sum = sum_set (work_ahead c.phase) c.workers i t.before t.after t.here in
    omega arith)

-- somebody whose turns would lower the distance
record Mover (c : CrewProgress) : Type 0 where
  pub who : Participant
  pub lowering : Lowering c who
  pub part : TakesPart c who

coord_mover : (c : CrewProgress) → IsCrewInPhase c → ¬ AllAreGone c → HasToLead c → Mover c
unfolding Lowering
coord_mover c p some has =
    record { who = coordinator; lowering = λ d t. coord_lowers c d p some has t; part = tt }

worker_mover : (c : CrewProgress) (i : ℕ) (w : WorkerProgress)
    → IsCrewInPhase c
    → slice_get c.workers i ≡ Some w
    → HasToWork c w
    → Mover c
unfolding Lowering
worker_mover c i w p here has = record {
  who = worker i;
  lowering = λ d t. worker_lowers c d i w p here has t;
  part = slice_get_within c.workers i w here;
}

mover : (c : CrewProgress) → IsCrewInPhase c → ¬ AllAreGone c → Mover c
unfolding HasToLead HasToWork
mover c p some = elim (cases_Bool c.ending) [
  | inl now ↦ elim (cases_lt 0 (out_of c)) [
    | inl more ↦
        let found = some_in_sum (λ (x : WorkerProgress). changes_ahead c.phase x.state) c.workers more in
        worker_mover c found.0 found.1.0 p found.1.1.0 (inr (now, found.1.1.1))
    | inr none ↦ coord_mover c p some (inr (now, omega arith))
  ]
  | inr run ↦ elim (cases_lt 0 c.left) [
    | inl more ↦ coord_mover c p some (inl (run, inl more))
    | inr none ↦ elim (cases_lt c.phase last_phase) [
      | inl below ↦ coord_mover c p some (inl (run, inr below))
      | inr past ↦
          let within = p.within in
          let even : IsJoined c.phase = let is : c.phase ≡ last_phase = omega arith in ap (λ n. n % 2) is in
          let found = some_in_sum (λ (x : WorkerProgress). one_until_gone x.state) c.workers (some_there c some) in
          worker_mover c found.0 found.1.0 p found.1.1.0 (inl (even, run, found.1.1.1))
    ]
  ]
]

-- turns among which is one of somebody whose turns would lower the distance
moves : (who : Participant) (order : List Participant) (c d : CrewProgress)
    → IsCrewInPhase c
    → Lowering c who
    → Contains order who
    → TakeTurns true order c d
    → distance d + 1 ≤ distance c
unfolding Lowering
moves who [] c d p lowering has turns = absurd (contains_none who has)
moves who (first ∷ order) c d p lowering has turns =
    let b = turns.0 in
    let k = crew_keeps true first c b p turns.1.0 in
    let f = followed true order b d k.in_phase turns.1.1 in
    let nearer = f.nearer in
    elim k.closer [
      | inl closer ↦ omega arith
      | inr same ↦ elim (contains_cons first order who has) [
        | inl is ↦
            let closer = lowering b (subst (λ (x : Participant). HasTurn true x c b) is turns.1.0) in
            omega arith
        | inr more ↦
            moves who order c d p lowering more
            (subst (λ (x : CrewProgress). TakeTurns true order x d) same turns.1.1)
      ]
    ]

pub fair_stretches_lower : FairStretchesLower
fair_stretches_lower c d p some s =
    let m = mover c p some in
    moves m.who s.order c d p m.lowering (s.each m.who m.part) s.turns

stretch_down : (c d : CrewProgress) (T : ℕ)
    → IsCrewInPhase c
    → c.turns ≡ T
    → ¬ AllAreGone c
    → IsFairStretch c d
    → Down distance 1 T c d
stretch_down c d T p turns some s =
    let f = followed true s.order c d p s.turns in
    record { in_phase = f.in_phase; turns = f.turns ∙ turns; falls = fair_stretches_lower c d p some s }

pub fair_schedules_end : FairSchedulesEnd
fair_schedules_end before n start c d s turns stretches =
    let f = followed false before start c (starts_in_phase start s) turns in
    let all = fallen IsFairStretch distance 1 c.turns (λ b e p same some r. stretch_down b e c.turns p same some r)
    n c d f.in_phase refl stretches
    in
    let falls = all.falls in
    let nearer = f.nearer in
    let far = start_distance start s in
    omega arith
