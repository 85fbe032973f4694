-- Steps that lower a measure end.
use Rattle.std.proofs.Common.{◌≡◌, ℕ, zero, suc, ◌+◌, ◌*◌, ◌-◌, ◌<◌, ◌≤◌, inl, inr, Bool, true, false, cond, List, [], ◌∷◌, length, map, sum_by, All, subst, ap, sym, ◌∙◌, refl, arith}
use Rattle.std.specs.List.{Contains}
use Rattle.std.proofs.Math.Nat.{mul-le-mul_left}
use Rattle.std.proofs.lemmas.List.Sums.{sum_by-cons, sum_by-le-sum_by}
use Rattle.like_core.specs.declared.worker_state.WorkerState.{WorkerState}
use Rattle.like_core.specs.declared.worker_state.WorkerState.TheVariants.{Runs}
use Rattle.like_core.specs.Phase.{last_phase}
use Rattle.like_ending.specs.Progress.{AllAreGone, CrewProgress, IsStart, WorkerProgress, items_in, one_until_gone, remaining, remaining_in}
use Rattle.like_ending.specs.InPhase.{IsCrewInPhase, SuitsPhase}
use Rattle.like_ending.specs.Schedules.{TakeTurns, IsFairRound, IsFreshRound, Participant, Unended, coordinator, worker}
use Rattle.like_ending.specs.Measures.{changes_ahead, distance, measure, work_ahead}
use Rattle.like_ending.specs.Laws.{MayLast, RoundsEnd, FairRoundsEnd, RoundsLower}
use Rattle.like_ending.proofs.CrewFacts.{CrewKeeps, crew_keeps}
use Rattle.like_ending.proofs.Rests.{rest_most, some_there, there_of}
use Rattle.like_ending.proofs.Served.{served_all, served_each}
use Rattle.like_ending.proofs.Lower.{lowers}

-- turns one after another keep what each keeps
pub record Followed (c d : CrewProgress) : Type 0 where
  pub in_phase : IsCrewInPhase d
  pub less : remaining_in d ≤ remaining_in c
  pub turns : d.turns ≡ c.turns
  pub size : length d.workers ≡ length c.workers
  pub nearer : distance d ≤ distance c

-- a turn doesn't raise the distance
pub no_farther : (c d : CrewProgress) → CrewKeeps c d → distance d ≤ distance c
no_farther c d k = elim k.closer [
  | inl closer ↦ omega arith
  | inr same ↦ subst (λ (x : CrewProgress). distance x ≤ distance c) (sym same) (omega arith)
]

pub followed : (all_open : Bool) (order : List Participant) (c d : CrewProgress)
    → IsCrewInPhase c
    → TakeTurns all_open order c d
    → Followed c d
followed all_open [] c d p same =
    subst (Followed c) (sym same)
    (record { in_phase = p; less = omega arith; turns = refl; size = refl; nearer = omega arith })
followed all_open (who ∷ order) c d p turns =
    let b = turns.0 in
    let k = crew_keeps all_open who c b p turns.1.0 in
    let f = followed all_open order b d k.in_phase turns.1.1 in
    let less = f.less in
    let before = k.less in
    let nearer = f.nearer in
    let near = no_farther c b k in
    record {
      in_phase = f.in_phase;
      less = omega arith;
      turns = f.turns ∙ k.turns;
      size = f.size ∙ k.size;
      nearer = omega arith;
    }

-- a step lowers f by so much
pub record Down (f : CrewProgress → ℕ) (fall T : ℕ) (c d : CrewProgress) : Type 0 where
  pub in_phase : IsCrewInPhase d
  pub turns : d.turns ≡ T
  pub falls : f d + fall ≤ f c

-- what steps that do have lowered it by
pub record Fallen (f : CrewProgress → ℕ) (fall T n : ℕ) (c d : CrewProgress) : Type 0 where
  pub turns : d.turns ≡ T
  pub falls : fall * n + f d ≤ f c

pub fallen : (Step : CrewProgress → CrewProgress → Type 0) (f : CrewProgress → ℕ) (fall T : ℕ)
    → ((c d : CrewProgress) → IsCrewInPhase c → c.turns ≡ T → ¬ AllAreGone c → Step c d → Down f fall T c d)
    → (n : ℕ) (c d : CrewProgress)
    → IsCrewInPhase c
    → c.turns ≡ T
    → Unended Step n c d
    → Fallen f fall T n c d
fallen Step f fall T down zero c d p turns same =
    subst (λ (x : CrewProgress). Fallen f fall T 0 c x) (sym same) (record { turns = turns; falls = omega arith })
fallen Step f fall T down (suc n) c d p turns steps =
    let b = steps.1.0 in
    let first = down c b p turns steps.0 steps.1.1.0 in
    let others = fallen Step f fall T down n b d first.in_phase first.turns steps.1.1.1 in
    let falls = first.falls in
    let more = others.falls in
    record { turns = others.turns; falls = omega arith }

-- a start is in phase
pub starts_in_phase : (c : CrewProgress) → IsStart c → IsCrewInPhase c
starts_in_phase c s = record {
  suits = λ k w at.
      subst (λ (state : WorkerState). SuitsPhase c.phase c.ending state) (sym (s.runs k w at)) (sym s.phase);
  left = let left = s.left in omega arith;
  within = let phase = s.phase in omega arith;
  last = λ now. let run = s.ending in absurd (cc);
}

-- what is left of workers that run phase 0 and hold no look
new_remaining : (ws : List WorkerProgress)
    → All (λ w. w.state ≡ Runs 0) ws
    → All (λ w. w.looks ≡ 0) ws
    → sum_by remaining ws ≡ sum_by (λ w. w.items) ws + length ws
new_remaining [] runs none = refl
new_remaining (w ∷ ws) runs none =
    let others = new_remaining ws
    (λ k d there. runs (suc k) d (omega arith)) (λ k d there. none (suc k) d (omega arith))
    in
    let there : one_until_gone w.state ≡ 1 = ap one_until_gone (runs 0 w (omega arith)) in
    let looks : w.looks ≡ 0 = none 0 w (omega arith) in
    let first = sum_by-cons remaining w ws in
    let items = sum_by-cons (λ (x : WorkerProgress). x.items) w ws in
    omega arith

-- and what is ahead of them
new_work : (ws : List WorkerProgress)
    → All (λ w. w.state ≡ Runs 0) ws
    → All (λ w. w.looks ≡ 0) ws
    → sum_by (work_ahead 0) ws ≡ length ws + 2 * sum_by (λ w. w.items) ws
new_work [] runs none = refl
new_work (w ∷ ws) runs none =
    let others = new_work ws
    (λ k d there. runs (suc k) d (omega arith)) (λ k d there. none (suc k) d (omega arith))
    in
    let one : changes_ahead 0 w.state ≡ 1 = ap (changes_ahead 0) (runs 0 w (omega arith)) in
    let looks : w.looks ≡ 0 = none 0 w (omega arith) in
    let first = sum_by-cons (work_ahead 0) w ws in
    let items = sum_by-cons (λ (x : WorkerProgress). x.items) w ws in
    omega arith

-- a number that the measure bounds is small, from the start on
short : (n : ℕ) (start c : CrewProgress)
    → IsStart start
    → Followed start c
    → (c.turns + 1) * n ≤ measure c
    → MayLast start.turns (items_in start) (length start.workers) n
short n start c s f most =
    let p = f.in_phase in
    let rests = rest_most c p.left in
    let less = f.less in
    let new = new_remaining start.workers s.runs s.none in
    let lefts : (2 * c.turns + 4) * remaining_in c ≤ (2 * c.turns + 4) * (items_in start + length start.workers) =
    mul-le-mul_left (2 * c.turns + 4) (omega arith)
    in
    subst
    (λ T. (T + 1) * n ≤ (2 * T + 4) * (items_in start + length start.workers) + (T + 1) * (T + 3))
    f.turns
    (omega (arith, most, rests, lefts))

-- a round lowers the measure
pub round_lowers : RoundsLower
round_lowers c d p some r =
    let led_in = (crew_keeps true coordinator c r.led p r.coordinator).in_phase in
    subst (λ (x : CrewProgress). measure x + (c.turns + 1) ≤ measure c) (sym r.rest)
    (lowers c r.led d.workers p some r.coordinator (served_each r.led d.workers led_in r.workers))

-- and keeps the crew in phase
round_down : (c d : CrewProgress) (T : ℕ)
    → IsCrewInPhase c
    → c.turns ≡ T
    → ¬ AllAreGone c
    → IsFreshRound c d
    → Down measure (T + 1) T c d
round_down c d T p turns some r =
    let k = crew_keeps true coordinator c r.led p r.coordinator in
    let s = served_each r.led d.workers k.in_phase r.workers in
    let led = k.in_phase in
    let crew : CrewProgress = record r.led { workers = d.workers } in
    let now : IsCrewInPhase crew = record { suits = s.suits; left = led.left; within = led.within; last = led.last } in
    let falls = round_lowers c d p some r in
    record {
      in_phase = subst IsCrewInPhase (sym r.rest) now;
      turns = ap (λ (x : CrewProgress). x.turns) r.rest ∙ (k.turns ∙ turns);
      falls = omega arith;
    }

pub rounds_end : RoundsEnd
rounds_end before n start c d s turns rounds =
    let f = followed false before start c (starts_in_phase start s) turns in
    let all = fallen IsFreshRound measure (c.turns + 1) c.turns
    (λ b e p same some r. round_down b e c.turns p same some r)
    n c d f.in_phase refl rounds
    in
    let falls = all.falls in
    short n start c s f (omega arith)

-- a fair round lowers it too
fair_down : (c d : CrewProgress) (T : ℕ)
    → IsCrewInPhase c
    → c.turns ≡ T
    → ¬ AllAreGone c
    → IsFairRound c d
    → Down measure (T + 1) T c d
fair_down c d T p turns some r =
    let led = r.turns.0 in
    let k = crew_keeps true coordinator c led p r.turns.1.0 in
    let each : (i : ℕ) → i < length led.workers → Contains r.order i =
    λ i there. let size = k.size in r.each i (omega arith)
    in
    let s = served_all r.order led d k.in_phase each r.turns.1.1 in
    let f = followed true (coordinator ∷ map worker r.order) c d p r.turns in
    let falls : measure d + (c.turns + 1) ≤ measure c =
    subst (λ (x : CrewProgress). measure x + (c.turns + 1) ≤ measure c) (sym s.rest)
    (lowers c led d.workers p some r.turns.1.0 s.served)
    in
    record { in_phase = f.in_phase; turns = f.turns ∙ turns; falls = omega arith }

-- while not all workers are gone, the measure is at least what a round lowers it by
some_measure : (c : CrewProgress) → ¬ AllAreGone c → c.turns + 1 ≤ measure c
some_measure c some =
    let there = some_there c some in
    let less : there_of c ≤ remaining_in c =
    sum_by-le-sum_by (λ w. one_until_gone w.state) remaining c.workers (λ w. omega arith)
    in
    let most : (2 * c.turns + 4) * 1 ≤ (2 * c.turns + 4) * remaining_in c =
    mul-le-mul_left (2 * c.turns + 4) (omega arith)
    in
    omega arith

pub fair_rounds_end : FairRoundsEnd
fair_rounds_end before n start c d s turns rounds =
    let f = followed false before start c (starts_in_phase start s) turns in
    let all = fallen IsFairRound measure (c.turns + 1) c.turns
    (λ b e p same some r. fair_down b e c.turns p same some r)
    n c d f.in_phase refl rounds
    in
    let falls = all.falls in
    let same = all.turns in (
      short n start c s f (omega arith),
      λ some. let more = some_measure d some in short (n + 1) start c s f (omega arith),
    )

-- how far the end is from a start
pub start_distance : (c : CrewProgress)
    → IsStart c
    → distance c ≤ (last_phase + 1) * (c.turns + 2 * length c.workers + 2) + 2 * items_in c
start_distance c s =
    let new = new_work c.workers s.runs s.none in
    let left = s.left in
    let ahead : cond c.ending 0 (c.left + 1) ≡ c.left + 1 = ap (λ b. cond b 0 (c.left + 1)) s.ending in
    let works : sum_by (work_ahead c.phase) c.workers ≡ sum_by (work_ahead 0) c.workers =
    ap (λ n. sum_by (work_ahead n) c.workers) s.phase
    in
    let phases : (last_phase - c.phase) * (c.turns + 2 * length c.workers + 2)
    ≡ last_phase * (c.turns + 2 * length c.workers + 2) =
    ap (λ n. (last_phase - n) * (c.turns + 2 * length c.workers + 2)) s.phase
    in
    omega arith
