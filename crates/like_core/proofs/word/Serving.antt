-- The phase word serves whatever its form is, and what looks at it see is so.
use Rattle.std.proofs.Common.{◌≡◌, ◌≢◌, ℕ, ◌+◌, ◌/◌, ◌%◌, ◌==◌, ◌⊎◌, ◌↔◌, inl, inr, Bool, false, IsTrue, ap, sym, ◌∙◌, refl, eq-eqb, arith}
use Rattle.std.proofs.lemmas.Bool.{eqb-true, ne_eqb}
use Rattle.like_core.specs.declared.form.Form.{Form}
use Rattle.like_core.specs.declared.form.Form.TheVariants.{Bits, Counts}
use Rattle.like_core.specs.declared.worker_state.WorkerState.{WorkerState}
use Rattle.like_core.specs.declared.worker_state.WorkerState.TheVariants.{Runs, Answered, Gone}
use Rattle.like_core.specs.declared.opening.Opening.{Opening}
use Rattle.like_core.specs.WorkerState.{turn_of}
use Rattle.like_core.specs.core.Numbers.{CoordSees, Sees}
use Rattle.like_core.specs.core.State.{CoreState, numbers}
use Rattle.like_core.specs.core.Exclusive.{IsInPhase}
use Rattle.like_core.specs.core.Moves.{Reached}
use Rattle.like_core.specs.word.Forms.{WordForm, form_of, kind_in}
use Rattle.like_core.specs.word.ShownWord.{word_in}
use Rattle.like_core.specs.views.Sights.{coord_sight_in, sight_in}
use Rattle.like_core.specs.views.Shows.{IsOpening}
use Rattle.like_core.specs.views.Serves.{FormServes, Serves, WordTellsPhase}
use Rattle.like_core.proofs.core.Moved.{moved_in_phase}
use Rattle.like_core.proofs.word.Bits.{bits_serves}
use Rattle.like_core.proofs.word.Counts.{counts_serves}
use Rattle.like_core.proofs.word.States.{odd_weight, weight-lt}

pub bits_serve : FormServes Bits
bits_serve z s opening form reached = bits_serves z s opening form (moved_in_phase z s reached)

pub counts_serve : FormServes Counts
counts_serve z s opening form reached = counts_serves z s opening form (moved_in_phase z s reached)

-- so does the form of an opening
pub serves : (z : Opening) (s : CoreState) → IsOpening z → Reached z s → Serves (form_of z.limits.form) z s
serves z s opening reached = by_form z.limits.form refl
  where
    by_form : (form : Form) → z.limits.form ≡ form → Serves (form_of form) z s
    by_form Bits is = bits_serve z s opening is reached
    by_form Counts is = counts_serve z s opening is reached

pub word_tells_phase : WordTellsPhase
word_tells_phase z s t opening s_reached t_reached same =
    sym (serves z s opening s_reached).phase ∙
    ap (form_of z.limits.form).phase_in same ∙
    (serves z t opening t_reached).phase

-- the lowest bit tells whether the phase is ending, and the next whether it is split
ending_is : (word phase : ℕ) (ending : Bool) → word % 4 ≡ kind_in phase ending → (word % 2 == 1) ≡ ending
ending_is word phase ending is =
    let same : word % 2 ≡ kind_in phase ending % 2 = omega arith in
    ap (λ n. n == 1) same ∙ odd_weight ending (phase % 2)

split_is : (word phase : ℕ) (ending : Bool) → word % 4 ≡ kind_in phase ending → word / 2 % 2 ≡ phase % 2
split_is word phase ending is = let below = weight-lt ending in omega arith

-- an even word is that of a phase that isn't ending
pub even_runs : (f : WordForm) (z : Opening) (s : CoreState)
    → Serves f z s
    → word_in f z s % 2 ≡ 0
    → s.ending ≡ false
even_runs f z s serving even =
    sym (ending_is (word_in f z s) s.phase s.ending serving.kind) ∙ ne_eqb (word_in f z s % 2) 1 (λ odd. absurd (omega arith))

-- a worker that has answered the phase sees that it waits, and no other does
waits_are : (word phase : ℕ) (state : WorkerState)
    → word / 2 % 2 ≡ phase % 2
    → ((j : ℕ) → state ≡ Runs j → j ≡ phase)
    → ((j : ℕ) → state ≡ Answered j → (j ≡ phase) ⊎ (j + 1 ≡ phase))
    → state ≢ Gone
    → IsTrue (word / 2 % 2 == turn_of state) ↔ (state ≡ Answered phase)
waits_are word phase (Runs j) split runs answered there = (
  λ is.
      let now = runs j refl in
      let same : word / 2 % 2 ≡ (j + 1) % 2 = eqb-true _ _ is in
      absurd (omega arith),
  λ is. absurd (cc),
)
waits_are word phase (Answered j) split runs answered there = elim (answered j refl) [
  | inl now ↦ (λ _. ap Answered now, λ _. eq-eqb _ _ (let same : word / 2 % 2 ≡ j % 2 = omega arith in same))
  | inr before ↦ (
    λ is. let same : word / 2 % 2 ≡ j % 2 = eqb-true _ _ is in absurd (omega arith),
    λ is. let same : j ≡ phase = cc in absurd (omega arith),
  )
]
waits_are word phase Gone split runs answered there = absurd (there refl)

-- a worker sees what the state is
pub worker_sees : (f : WordForm) (z : Opening) (s : CoreState) (i : ℕ)
    → Serves f z s
    → IsInPhase z s
    → s.state i ≢ Gone
    → Sees (numbers z s) i (sight_in f (turn_of (s.state i)) (word_in f z s))
worker_sees f z s i serving p there = record {
  number = serving.phase;
  ending = ending_is (word_in f z s) s.phase s.ending serving.kind;
  waits = waits_are (word_in f z s) s.phase (s.state i)
      (split_is (word_in f z s) s.phase s.ending serving.kind) (p.runs i) (p.answered i) there;
}

-- so does the coordinator
pub coord_sees : (f : WordForm) (z : Opening) (s : CoreState)
    → Serves f z s
    → CoordSees (numbers z s) (coord_sight_in f z.workers (word_in f z s))
coord_sees f z s serving = record {
  number = serving.phase;
  ending = ending_is (word_in f z s) s.phase s.ending serving.kind;
  all_in = serving.all_in;
  all_gone = serving.all_gone;
}
