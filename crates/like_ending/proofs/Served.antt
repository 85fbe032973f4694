-- What the workers' turns between two turns of the coordinator get done.
use Rattle.std.proofs.Common.{◌≡◌, ℕ, suc, ◌+◌, ◌<◌, ◌≤◌, inl, inr, Bool, true, false, List, [], ◌∷◌, length, map, Some, slice_get, set, sum_by, All, subst, sym, ◌∙◌, refl, arith}
use Rattle.std.specs.List.{AllZip, Contains}
use Rattle.std.proofs.lemmas.Bool.{cases_eq}
use Rattle.std.proofs.lemmas.List.{length-set}
use Rattle.std.proofs.lemmas.Option.{same_Some, slice_get_within}
use Rattle.like_core.specs.Phase.{IsJoined, IsSplit}
use Rattle.like_ending.specs.Progress.{CrewProgress, WorkerProgress, one_until_gone, remaining, remaining_in}
use Rattle.like_ending.specs.FreshTurns.{FreshTurns}
use Rattle.like_ending.specs.InPhase.{IsCrewInPhase, SuitsPhase}
use Rattle.like_ending.specs.Schedules.{TakeTurns, HasTurnAt, worker}
use Rattle.like_ending.specs.Measures.{changes_ahead}
use Rattle.like_ending.proofs.WorkerFacts.{GetsDone, Keeps, turn_does}
use Rattle.like_ending.proofs.CrewFacts.{crew_keeps}
use Rattle.like_ending.proofs.Rests.{there_of}
use Rattle.like_ending.proofs.Sums.{holds_at, sum_both, sum_none, sum_pairs, zip_then, zip_seconds, zip_from, get_set_same, get_set_other, contains_cons, contains_none}

-- what some turns of a worker keep, none of them perhaps
record Since (phase : ℕ) (ending : Bool) (w v : WorkerProgress) : Type 0 where
  pub suits : SuitsPhase phase ending v.state
  pub less : remaining v ≤ remaining w
  pub out : changes_ahead phase v.state ≤ changes_ahead phase w.state

-- what one turn of a worker gets done, or more
record Done (phase : ℕ) (ending : Bool) (w v : WorkerProgress) : Type 0 where
  pub running : IsJoined phase → ending ≡ false → remaining v + one_until_gone w.state ≤ remaining w
  pub joined : IsJoined phase → ending ≡ true → remaining v + changes_ahead phase v.state ≤ remaining w
  pub split : IsSplit phase → ending ≡ true → changes_ahead phase v.state ≡ 0

-- both
record Serving (phase : ℕ) (ending : Bool) (w v : WorkerProgress) : Type 0 where
  pub since : Since phase ending w v
  pub done : Done phase ending w v

-- one turn
serving : (phase : ℕ) (ending : Bool) (w v : WorkerProgress)
    → SuitsPhase phase ending w.state
    → FreshTurns true phase ending w v
    → Serving phase ending w v
serving phase ending w v suits turn =
    let does = turn_does true phase ending w v suits turn in
    let k : Keeps phase ending w v = does.0 in
    let g : GetsDone phase ending w v = does.1 refl in
    record {
      since = record { suits = k.suits; less = k.less; out = k.out };
      done = record { running = g.running; joined = g.joined; split = g.split };
    }

-- one turn and then some
goes_on : (phase : ℕ) (ending : Bool) (w m v : WorkerProgress)
    → Serving phase ending w m
    → Since phase ending m v
    → Serving phase ending w v
goes_on phase ending w m v first then =
    let less = then.less in
    let out = then.out in
    let before = first.since.less in
    let before_out = first.since.out in
    record {
      since = record { suits = then.suits; less = omega arith; out = omega arith };
      done = record {
        running = λ even run. let most = first.done.running even run in omega arith;
        joined = λ even now. let most = first.done.joined even now in omega arith;
        split = λ odd now. let none = first.done.split odd now in omega arith;
      };
    }

-- what the workers got done since the coordinator's turn
pub record Served (led : CrewProgress) (ws : List WorkerProgress) : Type 0 where
  pub suits : All (λ w. SuitsPhase led.phase led.ending w.state) ws
  pub less : sum_by remaining ws ≤ remaining_in led
  pub running : IsJoined led.phase → led.ending ≡ false → sum_by remaining ws + there_of led ≤ remaining_in led
  pub joined : IsJoined led.phase → led.ending ≡ true
      → sum_by remaining ws + sum_by (λ w. changes_ahead led.phase w.state) ws ≤ remaining_in led
  pub split : IsSplit led.phase → led.ending ≡ true → sum_by (λ w. changes_ahead led.phase w.state) ws ≡ 0

served_from : (led : CrewProgress) (ws : List WorkerProgress)
    → AllZip (Serving led.phase led.ending) led.workers ws
    → Served led ws
served_from led ws pairs =
    let S = Serving led.phase led.ending in
    let out : WorkerProgress → ℕ = λ v. changes_ahead led.phase v.state in
    let none : WorkerProgress → ℕ = λ v. 0 in
    let zero_sum : sum_by none led.workers ≡ 0 = sum_none none led.workers (λ k d there. refl) in
    record {
      suits = zip_seconds (λ v. SuitsPhase led.phase led.ending v.state) led.workers ws
          (zip_then S (λ w v. SuitsPhase led.phase led.ending v.state) led.workers ws (λ w v s. s.since.suits) pairs);
      less =
          let most = sum_pairs remaining none remaining led.workers ws
          (zip_then S (λ w v. remaining v + 0 ≤ remaining w) led.workers ws
          (λ w v s. let less = s.since.less in omega arith) pairs)
          in
          omega arith;
      running = λ even run.
          sum_pairs remaining (λ w. one_until_gone w.state) remaining led.workers ws
          (zip_then S (λ w v. remaining v + one_until_gone w.state ≤ remaining w) led.workers ws
          (λ w v s. s.done.running even run) pairs);
      joined = λ even now.
          let most = sum_pairs (λ v. remaining v + out v) none remaining led.workers ws
          (zip_then S (λ w v. remaining v + out v + 0 ≤ remaining w) led.workers ws
          (λ w v s. let less = s.done.joined even now in omega arith) pairs)
          in
          let both = sum_both remaining out ws in
          omega arith;
      split = λ odd now.
          let most = sum_pairs out none none led.workers ws
          (zip_then S (λ w v. out v + 0 ≤ 0) led.workers ws
          (λ w v s. let is = s.done.split odd now in omega arith) pairs)
          in
          omega arith;
    }

-- one turn of each worker
pub served_each : (led : CrewProgress) (ws : List WorkerProgress)
    → IsCrewInPhase led
    → AllZip (FreshTurns true led.phase led.ending) led.workers ws
    → Served led ws
served_each led ws p pairs =
    served_from led ws (each led.workers ws p.suits pairs)
  where
    each : (xs ys : List WorkerProgress)
        → All (λ w. SuitsPhase led.phase led.ending w.state) xs
        → AllZip (FreshTurns true led.phase led.ending) xs ys
        → AllZip (Serving led.phase led.ending) xs ys
    each [] [] suits pairs = tt
    each [] (y ∷ ys) suits pairs = absurd pairs
    each (x ∷ xs) [] suits pairs = absurd pairs
    each (x ∷ xs) (y ∷ ys) suits pairs = (
      serving led.phase led.ending x y (suits 0 x (omega arith)) pairs.0,
      each xs ys (λ k d there. suits (suc k) d (omega arith)) pairs.1,
    )

-- turns of some workers, in order: only the workers change, and each of them has its turns
record ServedIn (order : List ℕ) (led d : CrewProgress) : Type 0 where
  pub rest : d ≡ record led { workers = d.workers }
  pub size : length d.workers ≡ length led.workers
  pub since : (k : ℕ) (w v : WorkerProgress) → slice_get led.workers k ≡ Some w → slice_get d.workers k ≡ Some v
      → Since led.phase led.ending w v
  pub done : (k : ℕ) (w v : WorkerProgress) → slice_get led.workers k ≡ Some w → slice_get d.workers k ≡ Some v
      → Contains order k → Done led.phase led.ending w v

-- no turn
served_none : (led : CrewProgress) → IsCrewInPhase led → ServedIn [] led led
served_none led p = record {
  rest = refl;
  size = refl;
  since = λ k w v here there.
      let same : w ≡ v = same_Some w v (sym here ∙ there) in
      let suits = holds_at (λ x. SuitsPhase led.phase led.ending x.state) led.workers k v p.suits there in
      subst (λ (x : WorkerProgress). Since led.phase led.ending x v) (sym same)
      (record { suits = suits; less = omega arith; out = omega arith });
  done = λ k w v here there c. absurd (contains_none k c);
}

-- one turn more, before the others
served_more : (i : ℕ) (order : List ℕ) (led d : CrewProgress) (before after : WorkerProgress)
    → slice_get led.workers i ≡ Some before
    → Serving led.phase led.ending before after
    → ServedIn order (record led { workers = set led.workers i after }) d
    → ServedIn (i ∷ order) led d
served_more i order led d before after here first s = record {
  rest = s.rest;
  size = let size = s.size in let long = length-set led.workers i after in omega arith;
  since = λ k w v at there. elim (cases_eq k i) [
    | inl same ↦ (turned k w v at there same).since
    | inr other ↦ s.since k w v (get_set_other led.workers i k after w other at) there
  ];
  done = λ k w v at there c. elim (cases_eq k i) [
    | inl same ↦ (turned k w v at there same).done
    | inr other ↦
        s.done k w v (get_set_other led.workers i k after w other at) there
        (elim (contains_cons i order k c) [ inl is ↦ absurd (other (sym is)) | inr more ↦ more ])
  ];
}
  where
    turned : (k : ℕ) (w v : WorkerProgress)
        → slice_get led.workers k ≡ Some w
        → slice_get d.workers k ≡ Some v
        → k ≡ i
        → Serving led.phase led.ending w v
    turned k w v at there same =
        let here_too : slice_get led.workers i ≡ Some w = subst (λ n. slice_get led.workers n ≡ Some w) same at in
        let is : before ≡ w = same_Some before w (sym here ∙ here_too) in
        let there_too : slice_get d.workers i ≡ Some v = subst (λ n. slice_get d.workers n ≡ Some v) same there in
        let now = get_set_same led.workers i after before here in
        subst (λ (x : WorkerProgress). Serving led.phase led.ending x v) is
        (goes_on led.phase led.ending before after v first (s.since i after v now there_too))

-- turns of workers
served_in : (order : List ℕ) (led d : CrewProgress)
    → IsCrewInPhase led
    → TakeTurns true (map worker order) led d
    → ServedIn order led d
served_in [] led d p same = subst (ServedIn [] led) (sym same) (served_none led p)
served_in (i ∷ order) led d p turns =
    let t : HasTurnAt true i led turns.0 = turns.1.0 in
    let suits = holds_at (λ w. SuitsPhase led.phase led.ending w.state) led.workers i t.before p.suits t.here in
    let first = serving led.phase led.ending t.before t.after suits t.turn in
    let others = served_in order turns.0 d (crew_keeps true (worker i) led turns.0 p t).in_phase turns.1.1 in
    served_more i order led d t.before t.after t.here first
    (subst (λ (b : CrewProgress). ServedIn order b d) t.rest others)

-- turns of workers in any order and number, with at least one of each
pub record ServedAll (led d : CrewProgress) : Type 0 where
  pub rest : d ≡ record led { workers = d.workers }
  pub served : Served led d.workers

pub served_all : (order : List ℕ) (led d : CrewProgress)
    → IsCrewInPhase led
    → ((i : ℕ) → i < length led.workers → Contains order i)
    → TakeTurns true (map worker order) led d
    → ServedAll led d
served_all order led d p each turns =
    let s = served_in order led d p turns in
    record {
      rest = s.rest;
      served = served_from led d.workers
          (zip_from (Serving led.phase led.ending) led.workers d.workers s.size
          (λ k w v here there. record {
            since = s.since k w v here there;
            done = s.done k w v here there (each k (slice_get_within led.workers k w here));
          }));
    }
