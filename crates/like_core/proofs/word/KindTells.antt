-- The kind of the phase word tells a worker the present phase.
use Rattle.std.proofs.Common.{◌≡◌, ◌≢◌, ℕ, ◌+◌, ◌/◌, ◌%◌, ◌==◌, inl, inr, eq-eqb, ◌∙◌, refl, arith}
use Rattle.std.proofs.lemmas.Bool.{cond-true, cond-false, ne_eqb}
use Rattle.like_core.specs.declared.form.Form.{Form}
use Rattle.like_core.specs.declared.form.Form.TheVariants.{Bits, Counts}
use Rattle.like_core.specs.declared.worker_state.WorkerState.{WorkerState}
use Rattle.like_core.specs.declared.worker_state.WorkerState.TheVariants.{Runs, Answered, Gone}
use Rattle.like_core.specs.declared.opening.Opening.{Opening}
use Rattle.like_core.specs.core.State.{CoreState}
use Rattle.like_core.specs.core.Exclusive.{IsInPhase}
use Rattle.like_core.specs.word.Forms.{form_of}
use Rattle.like_core.specs.word.ShownWord.{shown_word, word_in}
use Rattle.like_core.specs.word.KindTells.{phase_told, KindTellsPhase}
use Rattle.like_core.proofs.core.Moved.{moved_in_phase}
use Rattle.like_core.proofs.word.States.{weight-lt}

-- the high bit of the kind is the phase's parity
kind-high : (form : Form) (z : Opening) (s : CoreState) → word_in (form_of form) z s % 4 / 2 ≡ s.phase % 2
kind-high Bits z s = let below = weight-lt s.ending in omega arith
kind-high Counts z s = let below = weight-lt s.ending in omega arith

told : (z : Opening) (s : CoreState) (i : ℕ) (state : WorkerState)
    → IsInPhase z s
    → s.state i ≡ state
    → state ≢ Gone
    → phase_told (shown_word z s % 4) state ≡ s.phase
told z s i (Runs j) p is there = p.runs i j is
told z s i (Answered j) p is there =
    let high = kind-high z.limits.form z s in
    let test = shown_word z s % 4 / 2 == j % 2 in
    elim (p.answered i j is) [
      | inl now ↦ cond-true test j (j + 1) (eq-eqb _ _ (omega arith)) ∙ now
      | inr before ↦ cond-false test j (j + 1) (ne_eqb _ _ (λ same. absurd (omega arith))) ∙ before
    ]
told z s i Gone p is there = absurd (there refl)

pub kind_tells_phase : KindTellsPhase
kind_tells_phase z s i reached there = told z s i (s.state i) (moved_in_phase z s reached) refl there
