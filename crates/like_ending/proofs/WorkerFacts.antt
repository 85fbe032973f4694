-- What a worker's turn does to what is left of it, and to what is ahead of it.
use Rattle.std.proofs.Common.{◌≡◌, ℕ, ◌+◌, ◌-◌, ◌≤◌, nat_lt, ◌⊎◌, inl, inr, Bool, true, false, cond, subst, ap, sym, ◌∙◌, refl, arith}
use Rattle.like_core.specs.declared.worker_state.WorkerState.{WorkerState}
use Rattle.like_core.specs.declared.worker_state.WorkerState.TheVariants.{Runs, Answered, Gone}
use Rattle.like_core.specs.Phase.{IsJoined, IsSplit}
use Rattle.like_core.specs.WorkerState.{looked, phase_of}
use Rattle.like_ending.specs.Progress.{WorkerProgress, one_until_gone, remaining}
use Rattle.like_ending.specs.FreshTurns.{FreshWorks, FreshTurns, saw, runs_stashed, retires, acknowledges, takes_joined, finds_nothing, reports, idles, takes_split, stashes, is_gone, waits, works}
use Rattle.like_ending.specs.InPhase.{SuitsPhase}
use Rattle.like_ending.specs.Measures.{changes_ahead, work_ahead}
use Rattle.like_ending.proofs.States.{Enters, enters, answered_ahead}

-- what each turn keeps, whether all lists are open or not: its state suits the phase; nothing of it rises; and if
-- anything changes, less is ahead
pub record Keeps (phase : ℕ) (ending : Bool) (w v : WorkerProgress) : Type 0 where
  pub suits : SuitsPhase phase ending v.state
  pub less : remaining v ≤ remaining w
  pub out : changes_ahead phase v.state ≤ changes_ahead phase w.state
  pub ahead : (work_ahead phase v + 1 ≤ work_ahead phase w) ⊎ (v ≡ w)

-- what a turn gets done, if all lists are open
pub record GetsDone (phase : ℕ) (ending : Bool) (w v : WorkerProgress) : Type 0 where
  pub running : IsJoined phase → ending ≡ false → remaining v + one_until_gone w.state ≤ remaining w
  pub joined : IsJoined phase → ending ≡ true → remaining v + changes_ahead phase v.state ≤ remaining w
  pub split : IsSplit phase → ending ≡ true → changes_ahead phase v.state ≡ 0
  pub work : IsJoined phase → ending ≡ false → work_ahead phase v + one_until_gone w.state ≤ work_ahead phase w
  pub work_ending : ending ≡ true → work_ahead phase v + changes_ahead phase w.state ≤ work_ahead phase w

-- a worker that stays as it is keeps all
pub keeps_same : (phase : ℕ) (ending : Bool) (w v : WorkerProgress)
    → SuitsPhase phase ending w.state
    → v ≡ w
    → Keeps phase ending w v
keeps_same phase ending w v suits same = record {
  suits = subst (λ (x : WorkerProgress). SuitsPhase phase ending x.state) (sym same) suits;
  less = subst (λ (x : WorkerProgress). remaining x ≤ remaining w) (sym same) (omega arith);
  out = subst (λ (x : WorkerProgress). changes_ahead phase x.state ≤ changes_ahead phase w.state) (sym same)
      (omega arith);
  ahead = inr same;
}

-- what counts of a state that suits the phase
record Counts (phase : ℕ) (ending : Bool) (state : WorkerState) (ahead there : ℕ) : Type 0 where
  pub suits : SuitsPhase phase ending state
  pub ahead_is : changes_ahead phase state ≡ ahead
  pub there_is : one_until_gone state ≡ there

counts_running : (phase : ℕ) (ending : Bool) (state : WorkerState)
    → state ≡ Runs phase
    → Counts phase ending state 1 1
counts_running phase ending state is =
    subst (λ (s : WorkerState). Counts phase ending s 1 1) (sym is)
    (record { suits = refl; ahead_is = refl; there_is = refl })

counts_answered : (phase : ℕ) (ending : Bool) (state : WorkerState)
    → state ≡ Answered phase
    → ending ≡ true
    → Counts phase ending state 0 1
counts_answered phase ending state is now =
    subst (λ (s : WorkerState). Counts phase ending s 0 1) (sym is)
    (record {
      suits = inl (refl, now);
      ahead_is = answered_ahead phase phase (omega arith);
      there_is = refl;
    })

counts_gone : (phase : ℕ) (ending : Bool) (state : WorkerState)
    → state ≡ Gone
    → Counts phase ending state 0 0
counts_gone phase ending state is =
    subst (λ (s : WorkerState). Counts phase ending s 0 0) (sym is)
    (record { suits = tt; ahead_is = refl; there_is = refl })

-- what a turn keeps, and what it gets done if all lists are open
abbrev pub Does : Bool → ℕ → Bool → WorkerProgress → WorkerProgress → Type 0
Does all_open phase ending w v = Keeps phase ending w v × (all_open ≡ true → GetsDone phase ending w v)

-- in a split phase that isn't ending nothing has to get done
none_to_do : (phase : ℕ) (ending : Bool) (w v : WorkerProgress)
    → IsSplit phase
    → ending ≡ false
    → GetsDone phase ending w v
none_to_do phase ending w v odd running = record {
  running = λ even r. absurd (omega arith);
  joined = λ even r. absurd (omega arith);
  split = λ odd r. absurd (cc);
  work = λ even r. absurd (omega arith);
  work_ending = λ r. absurd (cc);
}

-- a worker that has a change ahead and answered has two
two_ahead : (b : Bool) → 1 ≤ cond b 2 0 → cond {A = ℕ} b 2 0 ≡ 2
two_ahead true some = refl
two_ahead false some = absurd (omega (arith, some))

-- one that entered the phase and does nothing more
idle : (P : ℕ → Type 0) (phase : ℕ) (ending : Bool) (w v : WorkerProgress)
    → SuitsPhase phase ending w.state
    → Enters P phase w.state
    → v ≡ saw phase w
    → Keeps phase ending w v
idle P phase ending w v suits n e = by_state w.state refl
  where
    by_state : (state : WorkerState) → w.state ≡ state → Keeps phase ending w v
    by_state (Runs j) is =
        let same : j ≡ phase = subst (SuitsPhase phase ending) is suits in
        let stays : looked phase w.state ≡ w.state = n.runs ∙ sym (is ∙ ap Runs same) in
        keeps_same phase ending w v suits (e ∙ ap (λ (s : WorkerState). record w { state = s }) stays)
    by_state (Answered j) is =
        let state : v.state ≡ Runs phase = ap (λ (x : WorkerProgress). x.state) e ∙ n.runs in
        let items : v.items ≡ w.items = ap (λ (x : WorkerProgress). x.items) e in
        let looks : v.looks ≡ w.looks = ap (λ (x : WorkerProgress). x.looks) e in
        let c = counts_running phase ending v.state state in
        let same : changes_ahead phase w.state ≡ changes_ahead phase (Answered j) = ap (changes_ahead phase) is in
        let two : changes_ahead phase (Answered j) ≡ 2 = two_ahead (nat_lt j phase) (subst (λ n. 1 ≤ n) same n.ahead) in
        let more : changes_ahead phase w.state ≡ 2 = same ∙ two in
        record { suits = c.suits; less = omega arith; out = omega arith; ahead = inl (omega arith) }
    by_state Gone is =
        let none : one_until_gone w.state ≡ 0 = ap one_until_gone is in
        let there = n.there in
        absurd (omega arith)

-- what a worker does that runs after its look
works_does : (all_open : Bool) (phase : ℕ) (ending : Bool) (w v : WorkerProgress)
    → SuitsPhase phase ending w.state
    → FreshWorks all_open ending (saw phase w) v
    → Does all_open phase ending w v
works_does all_open phase ending w v suits (runs_stashed even some e) =
    let n = enters IsJoined phase ending w.state suits even in
    let state : v.state ≡ Runs phase = ap (λ (x : WorkerProgress). x.state) e ∙ n.runs in
    let items : v.items ≡ w.items = ap (λ (x : WorkerProgress). x.items) e in
    let looks : v.looks ≡ w.looks - 1 = ap (λ (x : WorkerProgress). x.looks) e in
    let c = counts_running phase ending v.state state in (
      record { suits = c.suits; less = omega arith; out = omega arith; ahead = inl (omega arith) },
      λ opened. record {
        running = λ j r. omega arith;
        joined = λ j r. omega arith;
        split = λ odd r. let j = n.holds in absurd (omega arith);
        work = λ j r. omega arith;
        work_ending = λ r. omega arith;
      },
    )
works_does all_open phase ending w v suits (retires even no_looks no_items e) =
    let n = enters IsJoined phase ending w.state suits even in
    let state : v.state ≡ Gone = ap (λ (x : WorkerProgress). x.state) e in
    let items : v.items ≡ w.items = ap (λ (x : WorkerProgress). x.items) e in
    let looks : v.looks ≡ w.looks = ap (λ (x : WorkerProgress). x.looks) e in
    let c = counts_gone phase ending v.state state in (
      record { suits = c.suits; less = omega arith; out = omega arith; ahead = inl (omega arith) },
      λ opened. record {
        running = λ j r. omega arith;
        joined = λ j r. omega arith;
        split = λ odd r. c.ahead_is;
        work = λ j r. omega arith;
        work_ending = λ r. omega arith;
      },
    )
works_does all_open phase ending w v suits (acknowledges even no_looks some now e) =
    let n = enters IsJoined phase ending w.state suits even in
    let state : v.state ≡ Answered phase =
    ap (λ (x : WorkerProgress). x.state) e ∙ ap (λ (s : WorkerState). Answered (phase_of s)) n.runs
    in
    let items : v.items ≡ w.items = ap (λ (x : WorkerProgress). x.items) e in
    let looks : v.looks ≡ w.looks = ap (λ (x : WorkerProgress). x.looks) e in
    let c = counts_answered phase ending v.state state now in (
      record { suits = c.suits; less = omega arith; out = omega arith; ahead = inl (omega arith) },
      λ opened. record {
        running = λ j r. absurd (cc);
        joined = λ j r. omega arith;
        split = λ odd r. c.ahead_is;
        work = λ j r. absurd (cc);
        work_ending = λ r. omega arith;
      },
    )
works_does all_open phase ending w v suits (takes_joined even no_looks some now e) =
    let n = enters IsJoined phase ending w.state suits even in
    let state : v.state ≡ Runs phase = ap (λ (x : WorkerProgress). x.state) e ∙ n.runs in
    let items : v.items ≡ w.items - 1 = ap (λ (x : WorkerProgress). x.items) e in
    let looks : v.looks ≡ w.looks = ap (λ (x : WorkerProgress). x.looks) e in
    let c = counts_running phase ending v.state state in (
      record { suits = c.suits; less = omega arith; out = omega arith; ahead = inl (omega arith) },
      λ opened. record {
        running = λ j r. omega arith;
        joined = λ j r. absurd (cc);
        split = λ odd r. absurd (cc);
        work = λ j r. omega arith;
        work_ending = λ r. absurd (cc);
      },
    )
works_does all_open phase ending w v suits (finds_nothing even no_looks some now closed e) =
    let n = enters IsJoined phase ending w.state suits even in
    (idle IsJoined phase ending w v suits n e, λ opened. absurd (cc))
works_does all_open phase ending w v suits (reports odd now e) =
    let n = enters IsSplit phase ending w.state suits odd in
    let state : v.state ≡ Answered phase =
    ap (λ (x : WorkerProgress). x.state) e ∙ ap (λ (s : WorkerState). Answered (phase_of s)) n.runs
    in
    let items : v.items ≡ w.items = ap (λ (x : WorkerProgress). x.items) e in
    let looks : v.looks ≡ w.looks = ap (λ (x : WorkerProgress). x.looks) e in
    let c = counts_answered phase ending v.state state now in (
      record { suits = c.suits; less = omega arith; out = omega arith; ahead = inl (omega arith) },
      λ opened. record {
        running = λ j r. absurd (cc);
        joined = λ j r. omega arith;
        split = λ odd r. c.ahead_is;
        work = λ j r. absurd (cc);
        work_ending = λ r. omega arith;
      },
    )
works_does all_open phase ending w v suits (idles odd now e) =
    let n = enters IsSplit phase ending w.state suits odd in
    (idle IsSplit phase ending w v suits n e, λ opened. none_to_do phase ending w v n.holds now)
works_does all_open phase ending w v suits (takes_split odd now some e) =
    let n = enters IsSplit phase ending w.state suits odd in
    let state : v.state ≡ Runs phase = ap (λ (x : WorkerProgress). x.state) e ∙ n.runs in
    let items : v.items ≡ w.items - 1 = ap (λ (x : WorkerProgress). x.items) e in
    let looks : v.looks ≡ w.looks = ap (λ (x : WorkerProgress). x.looks) e in
    let c = counts_running phase ending v.state state in (
      record { suits = c.suits; less = omega arith; out = omega arith; ahead = inl (omega arith) },
      λ opened. none_to_do phase ending w v n.holds now,
    )
works_does all_open phase ending w v suits (stashes odd now some e) =
    let n = enters IsSplit phase ending w.state suits odd in
    let state : v.state ≡ Runs phase = ap (λ (x : WorkerProgress). x.state) e ∙ n.runs in
    let items : v.items ≡ w.items - 1 = ap (λ (x : WorkerProgress). x.items) e in
    let looks : v.looks ≡ w.looks + 1 = ap (λ (x : WorkerProgress). x.looks) e in
    let c = counts_running phase ending v.state state in (
      record { suits = c.suits; less = omega arith; out = omega arith; ahead = inl (omega arith) },
      λ opened. none_to_do phase ending w v n.holds now,
    )

-- one that is in and stays as it is has all done, if it is gone or the phase is ending
same_done : (phase : ℕ) (ending : Bool) (w v : WorkerProgress)
    → changes_ahead phase w.state ≡ 0
    → v ≡ w
    → (ending ≡ false → one_until_gone w.state ≡ 0)
    → GetsDone phase ending w v
same_done phase ending w v in_now same gone =
    let rem : remaining v ≡ remaining w = ap remaining same in
    let out : changes_ahead phase v.state ≡ changes_ahead phase w.state =
    ap (λ (x : WorkerProgress). changes_ahead phase x.state) same
    in
    let ahead : work_ahead phase v ≡ work_ahead phase w = ap (work_ahead phase) same in
    record {
      running = λ even r. let none = gone r in omega arith;
      joined = λ even r. omega arith;
      split = λ odd r. omega arith;
      work = λ even r. let none = gone r in omega arith;
      work_ending = λ r. omega arith;
    }

-- what a whole turn of a worker does
pub turn_does : (all_open : Bool) (phase : ℕ) (ending : Bool) (w v : WorkerProgress)
    → SuitsPhase phase ending w.state
    → FreshTurns all_open phase ending w v
    → Does all_open phase ending w v
turn_does all_open phase ending w v suits (is_gone gone e) =
    let c = counts_gone phase ending w.state gone in (
      keeps_same phase ending w v suits e,
      λ opened. same_done phase ending w v c.ahead_is e (λ r. c.there_is),
    )
turn_does all_open phase ending w v suits (waits has e) =
    let now : ending ≡ true =
    elim (subst (SuitsPhase phase ending) has suits) [ inl now ↦ now.1 | inr next ↦ absurd (omega arith) ]
    in
    let c = counts_answered phase ending w.state has now in (
      keeps_same phase ending w v suits e,
      λ opened. same_done phase ending w v c.ahead_is e (λ r. absurd (cc)),
    )
turn_does all_open phase ending w v suits (works does) = works_does all_open phase ending w v suits does
