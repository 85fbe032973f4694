-- What a worker's look at the phase finds, where its state suits the phase.
use Rattle.std.proofs.Common.{◌≡◌, ℕ, ◌+◌, ◌≤◌, nat_lt, inl, inr, Bool, true, subst, ap, refl, arith}
use Rattle.std.proofs.lemmas.Bool.{cond-true, cond-false, lt-ltb, le-ltb}
use Rattle.like_core.specs.declared.worker_state.WorkerState.{WorkerState}
use Rattle.like_core.specs.declared.worker_state.WorkerState.TheVariants.{Runs, Answered, Gone}
use Rattle.like_core.specs.WorkerState.{IsIn, RunsSome, looked}
use Rattle.like_ending.specs.Progress.{one_until_gone}
use Rattle.like_ending.specs.InPhase.{SuitsPhase}
use Rattle.like_ending.specs.Measures.{changes_ahead}

-- a worker that runs after its look runs the present phase, of which P holds; it is not in, and not gone
pub record Enters (P : ℕ → Type 0) (phase : ℕ) (state : WorkerState) : Type 0 where
  pub runs : looked phase state ≡ Runs phase
  pub holds : P phase
  pub ahead : 1 ≤ changes_ahead phase state
  pub there : one_until_gone state ≡ 1

-- who answered this phase does not run after its look
stays_answered : (P : ℕ → Type 0) (phase j : ℕ)
    → j ≡ phase
    → RunsSome P (looked phase (Answered j))
    → ⊥
stays_answered P phase j same runs =
    subst (RunsSome P) (cond-false (nat_lt j phase) (Runs phase) (Answered j) (le-ltb j phase (omega arith))) runs

-- who answered the one before runs this one after its look
enters_next : (P : ℕ → Type 0) (phase j : ℕ)
    → j + 1 ≡ phase
    → RunsSome P (looked phase (Answered j))
    → Enters P phase (Answered j)
enters_next P phase j next runs =
    let below : nat_lt j phase ≡ true = lt-ltb j phase (omega arith) in
    let now : looked phase (Answered j) ≡ Runs phase = cond-true (nat_lt j phase) (Runs phase) (Answered j) below in
    let two : changes_ahead phase (Answered j) ≡ 2 = cond-true (nat_lt j phase) 2 0 below in
    record {
      runs = now;
      holds = subst (RunsSome P) now runs;
      ahead = omega arith;
      there = refl;
    }

pub enters : (P : ℕ → Type 0) (phase : ℕ) (ending : Bool) (state : WorkerState)
    → SuitsPhase phase ending state
    → RunsSome P (looked phase state)
    → Enters P phase state
enters P phase ending (Runs j) suits runs =
    record { runs = ap Runs suits; holds = subst P suits runs; ahead = omega arith; there = refl }
enters P phase ending (Answered j) suits runs = elim suits [
  | inl now ↦ absurd (stays_answered P phase j now.0 runs)
  | inr next ↦ enters_next P phase j next runs
]
enters P phase ending Gone suits runs = absurd runs

-- who has answered a phase that is no earlier has no change ahead
pub answered_ahead : (phase j : ℕ) → phase ≤ j → changes_ahead phase (Answered j) ≡ 0
answered_ahead phase j past = cond-false (nat_lt j phase) 2 0 (le-ltb j phase past)

-- who is in has none ahead
pub in_none : (phase : ℕ) (state : WorkerState) → IsIn phase state → changes_ahead phase state ≡ 0
in_none phase (Runs j) is = absurd is
in_none phase (Answered j) is = answered_ahead phase j (omega arith)
in_none phase Gone is = refl

-- who has none ahead is in
pub none_in : (phase : ℕ) (ending : Bool) (state : WorkerState)
    → SuitsPhase phase ending state
    → changes_ahead phase state ≡ 0
    → IsIn phase state
none_in phase ending (Runs j) suits none = absurd (omega (arith, none))
none_in phase ending (Answered j) suits none = elim suits [
  | inl now ↦ now.0
  | inr next ↦
      let two : changes_ahead phase (Answered j) ≡ 2 = cond-true (nat_lt j phase) 2 0 (lt-ltb j phase (omega arith)) in
      absurd (omega arith)
]
none_in phase ending Gone suits none = tt

-- who is not there is gone
pub none_gone : (state : WorkerState) → one_until_gone state ≡ 0 → state ≡ Gone
none_gone (Runs j) none = absurd (omega (arith, none))
none_gone (Answered j) none = absurd (omega (arith, none))
none_gone Gone none = refl
