use Rattle.std.proofs.Common.{◌≡◌, ℕ, subst}
use mathlib.Core.Option.{none}
use Rattle.atomic_table.specs.Table.{Allows, Me, State, step}
use Rattle.like_core.specs.declared.form.Form.{Form}
use Rattle.like_core.specs.declared.form.Form.TheVariants.{Bits, Counts}
use Rattle.like_core.specs.word.Forms.{form_of}
use Rattle.like_board.proofs.answer.put_answer.Goals as goal

-- a step by the form of a word is one by that form's operation
by_form : {S V : Type 0} (holds : State S V → Type 0) (slots id : ℕ) (me : Me S V) (answer : ℕ)
    (then : ℕ → Me S V → Type 0) (form known : Form)
    → form ≡ known
    → Allows holds slots id me 0 (λ word. (form_of form).put word answer) then
    → Allows holds slots id me 0 (λ word. (form_of known).put word answer) then
by_form holds slots id me answer then form known is allowed =
    subst (λ (f : Form). Allows holds slots id me 0 (λ word. (form_of f).put word answer) then) is allowed

pub fetch_or-requires : goal.fetch_or-requires
fetch_or-requires g c = (
  c.requires.here,
  c.args.board.now.some_word,
  by_form _ _ _ _ _
      (g.P.Play.then (step c.args.board.now.table.shared.table_id.slots 0 c.args.answer 0 none) c.args.access.now.me)
      _ Bits c.in-Bits.is c.requires.allowed,
)

pub fetch_add-requires : goal.fetch_add-requires
fetch_add-requires g c = (
  c.requires.here,
  c.args.board.now.some_word,
  by_form _ _ _ _ _
      (g.P.Play.then (step c.args.board.now.table.shared.table_id.slots 0 c.args.answer 0 none) c.args.access.now.me)
      _ Counts c.in-Counts.is c.requires.allowed,
)
