-- What either form of the phase word asks of the workers' states.
use Rattle.std.proofs.Common.{◌≡◌, ℕ, ◌+◌, ◌*◌, ◌%◌, ◌<◌, ◌==◌, nat_lt, ◌||◌, inl, inr, Bool, true, false, cond, subst, ap, sym, ◌∙◌, refl, eq-eqb, arith}
use Rattle.std.proofs.lemmas.Bool.{cases_eq, eqb-true, ne_eqb, cond-true, cond-false, lt-ltb, ltb-true}
use Rattle.like_core.specs.declared.worker_state.WorkerState.{WorkerState}
use Rattle.like_core.specs.declared.worker_state.WorkerState.TheVariants.{Runs, Answered, Gone}
use Rattle.like_core.specs.Functions.{update, weight}
use Rattle.like_core.specs.WorkerState.{IsIn, looked}
use Rattle.like_core.specs.core.State.{CoreState}
use Rattle.like_core.specs.word.Forms.{has_answered, is_gone, kind_in, released_kind}
use Rattle.like_core.proofs.Updates.{update-same, update-other}

pub weight-lt : (b : Bool) → weight b < 2
weight-lt true = omega arith
weight-lt false = omega arith

pub odd_weight : (b : Bool) (n : ℕ) → ((2 * n + weight b) % 2 == 1) ≡ b
odd_weight true n = let e : (2 * n + 1) % 2 ≡ 1 = omega arith in eq-eqb ((2 * n + 1) % 2) 1 e
odd_weight false n = ne_eqb ((2 * n + 0) % 2) 1 (λ e. absurd (omega arith))

-- who has answered a phase is not gone
pub not_both : (phase : ℕ) (state : WorkerState) → has_answered phase state ≡ true → is_gone state ≡ false
not_both phase (Runs j) is = cc
not_both phase (Answered j) is = refl
not_both phase Gone is = cc

-- a look changes nobody's answer to this phase
pub looked-has_answered : (phase : ℕ) (state : WorkerState)
    → has_answered phase (looked phase state) ≡ has_answered phase state
looked-has_answered phase (Runs j) = refl
looked-has_answered phase (Answered j) =
    let P : Bool → Type 0 =
    λ b. (b ≡ true → (j == phase) ≡ false) → has_answered phase (cond b (Runs phase) (Answered j)) ≡ (j == phase) in
    let Q : P (nat_lt j phase) =
    elim (nat_lt j phase) as P [
      | true ↦ λ earlier. sym (earlier refl)
      | false ↦ λ _. refl
    ]
    in
    Q (λ less. ne_eqb j phase (λ same. let below : j < phase = ltb-true j phase less in absurd (omega arith)))
looked-has_answered phase Gone = refl

-- nor who is gone
pub looked-is_gone : (phase : ℕ) (state : WorkerState) → is_gone (looked phase state) ≡ is_gone state
looked-is_gone phase (Runs j) = refl
looked-is_gone phase (Answered j) =
    let P : Bool → Type 0 = λ b. is_gone (cond b (Runs phase) (Answered j)) ≡ false in
    elim (nat_lt j phase) as P [ true ↦ refl | false ↦ refl ]
looked-is_gone phase Gone = refl

-- what a test says of a state where one worker moved
pub test_same : (test : WorkerState → Bool) (s : CoreState) (i : ℕ) (state : WorkerState)
    → test state ≡ test (s.state i)
    → (j : ℕ)
    → test (update s.state i state j) ≡ test (s.state j)
test_same test s i state same j = elim (cases_eq j i) [
  | inl here ↦
      let at : ℕ → Type 0 = λ k. test (update s.state i state k) ≡ test (s.state k) in
      let now : at i = ap test (update-same s.state i state) ∙ same in
      subst at (sym here) now
  | inr other ↦ ap test (update-other s.state i state j other)
]

-- who is in has not answered the phase that comes next
pub in_not_next : (phase : ℕ) (state : WorkerState) → IsIn phase state → has_answered (phase + 1) state ≡ false
in_not_next phase (Runs j) is = absurd is
in_not_next phase (Answered j) is = ne_eqb j (phase + 1) (λ next. absurd (omega (arith, is)))
in_not_next phase Gone is = refl

-- who is in has answered or is gone, and the other way round
pub in_test : (phase : ℕ) (state : WorkerState) → (has_answered phase state || is_gone state) ≡ true → IsIn phase state
in_test phase (Runs j) is = absurd (cc)
in_test phase (Answered j) is =
    eqb-true j phase
    (let P : Bool → Type 0 = λ b. (b || false) ≡ true → b ≡ true in
    let Q : P (j == phase) = elim (j == phase) as P [ true ↦ λ e. refl | false ↦ λ e. e ] in Q is)
in_test phase Gone is = tt

pub test_in : (phase : ℕ) (state : WorkerState) → IsIn phase state → (has_answered phase state || is_gone state) ≡ true
test_in phase (Runs j) is = absurd is
test_in phase (Answered j) is = ap (λ b. b || false) (eq-eqb j phase is)
test_in phase Gone is = refl

pub gone_test : (state : WorkerState) → is_gone state ≡ true → state ≡ Gone
gone_test (Runs j) is = absurd (cc)
gone_test (Answered j) is = absurd (cc)
gone_test Gone is = refl

-- the workers' states at the start
abbrev pub first_states : ℕ → ℕ → WorkerState
first_states workers i = cond (nat_lt i workers) (Runs 0) Gone

-- at the start all workers run
pub first_runs : (workers i : ℕ) → i < workers → first_states workers i ≡ Runs 0
first_runs workers i below = cond-true (nat_lt i workers) (Runs 0) Gone (lt-ltb i workers below)

-- a release makes the kind of the next phase
pub kind_released : (phase word : ℕ) (ending : Bool)
    → word % 4 ≡ kind_in phase ending
    → ending ≡ true
    → kind_in (phase + 1) false ≡ released_kind word
kind_released phase word ending is ends =
    let one : weight ending ≡ 1 = ap weight ends in
    elim (cases_eq (word % 4) 1) [
      | inl joined ↦
          let two : 2 * ((phase + 1) % 2) + 0 ≡ 2 = omega arith in
          two ∙ sym (cond-true (word % 4 == 1) 2 0 (eq-eqb (word % 4) 1 joined))
      | inr split ↦
          let none : 2 * ((phase + 1) % 2) + 0 ≡ 0 = omega arith in
          none ∙ sym (cond-false (word % 4 == 1) 2 0 (ne_eqb (word % 4) 1 split))
    ]
