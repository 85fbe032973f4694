-- What a turn of anybody keeps.
use Rattle.std.proofs.Common.{◌≡◌, ℕ, ◌+◌, ◌*◌, ◌-◌, ◌≤◌, nat_lt, ◌⊎◌, inl, inr, Bool, true, false, cond, List, length, set, sum_by, subst, ap, sym, refl, arith}
use Rattle.std.proofs.lemmas.List.{length-set}
use Rattle.std.proofs.lemmas.List.Elements.{All-set}
use Rattle.like_core.specs.declared.worker_state.WorkerState.{WorkerState}
use Rattle.like_core.specs.declared.worker_state.WorkerState.TheVariants.{Runs, Answered, Gone}
use Rattle.like_core.specs.Phase.{last_phase}
use Rattle.like_core.specs.WorkerState.{IsIn}
use Rattle.like_ending.specs.Progress.{CrewProgress, WorkerProgress, remaining, remaining_in}
use Rattle.like_ending.specs.FreshCoordTurns.{FreshCoordTurns, ends, counts, stays, announces, releases, waits}
use Rattle.like_ending.specs.InPhase.{IsCrewInPhase, SuitsPhase}
use Rattle.like_ending.specs.Schedules.{HasTurn, Participant, HasTurnAt, coordinator, worker}
use Rattle.like_ending.specs.Measures.{changes_ahead, changes_in, distance, work_ahead}
use Rattle.like_ending.proofs.WorkerFacts.{Keeps, turn_does}
use Rattle.like_ending.proofs.Sums.{sum_set, set_same, holds_at, sum_most}

-- what each turn keeps: the crew is in phase; nothing of what is left rises; and if anything changes, less is ahead
pub record CrewKeeps (c d : CrewProgress) : Type 0 where
  pub in_phase : IsCrewInPhase d
  pub less : remaining_in d ≤ remaining_in c
  pub turns : d.turns ≡ c.turns
  pub size : length d.workers ≡ length c.workers
  pub closer : (distance d + 1 ≤ distance c) ⊎ (d ≡ c)

-- a crew that stays as it is
crew_same : (c d : CrewProgress) → IsCrewInPhase c → d ≡ c → CrewKeeps c d
crew_same c d p same =
    subst (CrewKeeps c) (sym same)
    (record { in_phase = p; less = omega arith; turns = refl; size = refl; closer = inr refl })

-- a turn of one worker
turn_keeps : (all_open : Bool) (i : ℕ) (c d : CrewProgress)
    → IsCrewInPhase c
    → HasTurnAt all_open i c d
    → CrewKeeps c d
turn_keeps all_open i c d p t =
    let suits : SuitsPhase c.phase c.ending t.before.state =
    holds_at (λ w. SuitsPhase c.phase c.ending w.state) c.workers i t.before p.suits t.here
    in
    let k : Keeps c.phase c.ending t.before t.after =
    (turn_does all_open c.phase c.ending t.before t.after suits t.turn).0
    in
    let after : CrewProgress = record c { workers = set c.workers i t.after } in
    let sum = sum_set remaining c.workers i t.before t.after t.here in
    let less = k.less in
    let size = length-set c.workers i t.after in
    subst (CrewKeeps c) (sym t.rest)
    (record {
      in_phase = record {
        suits = All-set (λ w. SuitsPhase c.phase c.ending w.state) c.workers i t.after k.suits p.suits;
        left = p.left;
        within = p.within;
        last = p.last;
      };
      less = omega arith;
      turns = refl;
      size = size;
      closer = elim k.ahead [
        | inl fewer ↦ inl
            (let works = sum_set (work_ahead c.phase) c.workers i t.before t.after t.here in
            let changes : changes_in after ≡ changes_in c = omega arith in
            let phases : (last_phase - c.phase) * changes_in after ≡ (last_phase - c.phase) * changes_in c =
            ap (λ n. (last_phase - c.phase) * n) changes
            in
            omega arith)
        | inr same ↦ inr
            (ap (λ (ws : List WorkerProgress). record c { workers = ws })
            (set_same c.workers i t.before t.after t.here same))
      ];
    })

-- a state that suits a phase still does once the phase is ending
suits_ending : (phase : ℕ) (ending : Bool) (state : WorkerState)
    → SuitsPhase phase ending state
    → SuitsPhase phase true state
suits_ending phase ending (Runs j) suits = suits
suits_ending phase ending (Answered j) suits = elim suits [ inl now ↦ inl (now.0, refl) | inr next ↦ inr next ]
suits_ending phase ending Gone suits = tt

-- one that is in suits the next phase
suits_next : (phase : ℕ) (state : WorkerState) → IsIn phase state → SuitsPhase (phase + 1) false state
suits_next phase (Runs j) is = absurd is
suits_next phase (Answered j) is = inr (omega (arith, is))
suits_next phase Gone is = tt

-- a worker has at most two changes ahead
changes_most : (phase : ℕ) (state : WorkerState) → changes_ahead phase state ≤ 2
changes_most phase (Runs j) = omega arith
changes_most phase (Answered j) = at_most_two (nat_lt j phase)
  where
    at_most_two : (b : Bool) → cond {A = ℕ} b 2 0 ≤ 2
    at_most_two true = omega arith
    at_most_two false = omega arith
changes_most phase Gone = omega arith

-- a turn of the coordinator
coord_keeps : (c d : CrewProgress) → IsCrewInPhase c → FreshCoordTurns c d → CrewKeeps c d
coord_keeps c d p (ends gone e) = crew_same c d p e
coord_keeps c d p (stays there run none last e) = crew_same c d p e
coord_keeps c d p (waits there now out e) = crew_same c d p e
coord_keeps c d p (counts there run some e) =
    let ahead : cond c.ending 0 (c.left + 1) ≡ c.left + 1 = ap (λ b. cond b 0 (c.left + 1)) run in
    let ahead_now : cond c.ending 0 (c.left - 1 + 1) ≡ c.left - 1 + 1 = ap (λ b. cond b 0 (c.left - 1 + 1)) run in
    let left = p.left in
    subst (CrewKeeps c) (sym e)
    (record {
      in_phase = record { suits = p.suits; left = omega arith; within = p.within; last = p.last };
      less = omega arith;
      turns = refl;
      size = refl;
      closer = inl (omega arith);
    })
coord_keeps c d p (announces there run none last e) =
    let ahead : cond c.ending 0 (c.left + 1) ≡ c.left + 1 = ap (λ b. cond b 0 (c.left + 1)) run in
    subst (CrewKeeps c) (sym e)
    (record {
      in_phase = record {
        suits = λ k w at. suits_ending c.phase c.ending _ (p.suits k w at);
        left = p.left;
        within = p.within;
        last = λ _. last;
      };
      less = omega arith;
      turns = refl;
      size = refl;
      closer = inl (omega arith);
    })
coord_keeps c d p (releases there now all e) =
    let ahead : cond c.ending 0 (c.left + 1) ≡ 0 = ap (λ b. cond b 0 (c.left + 1)) now in
    let below = p.last now in
    let works : sum_by (work_ahead (c.phase + 1)) c.workers
    ≤ sum_by (work_ahead c.phase) c.workers + 2 * length c.workers =
    sum_most (work_ahead (c.phase + 1)) (work_ahead c.phase) 2 c.workers
    (λ w. let most = changes_most (c.phase + 1) w.state in omega arith)
    in
    let phases : last_phase - c.phase ≡ last_phase - (c.phase + 1) + 1 = omega arith in
    let changes : (last_phase - c.phase) * changes_in c ≡ (last_phase - (c.phase + 1) + 1) * changes_in c =
    ap (λ n. n * changes_in c) phases
    in
    subst (CrewKeeps c) (sym e)
    (record {
      in_phase = record {
        suits = λ k w at. suits_next c.phase _ (all k w at);
        left = omega arith;
        within = omega arith;
        last = λ ending. cc;
      };
      less = omega arith;
      turns = refl;
      size = refl;
      closer = inl (omega arith);
    })

-- a turn of anybody
pub crew_keeps : (all_open : Bool) (who : Participant) (c d : CrewProgress)
    → IsCrewInPhase c
    → HasTurn all_open who c d
    → CrewKeeps c d
crew_keeps all_open coordinator c d p t = coord_keeps c d p t
crew_keeps all_open (worker i) c d p t = turn_keeps all_open i c d p t
