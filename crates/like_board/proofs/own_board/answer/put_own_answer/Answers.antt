use Rattle.std.proofs.Common.{◌≡◌, ◌<◌, ℕ, subst, arith}
use mathlib.Core.Option.{none}
use Rattle.atomic_table.specs.Table.{Allows, Me, State, step}
use Rattle.like_core.specs.declared.form.Form.{Form}
use Rattle.like_core.specs.declared.form.Form.TheVariants.{Bits, Counts}
use Rattle.like_core.specs.views.Layout.{word_of}
use Rattle.like_core.specs.word.Forms.{form_of}
use Rattle.like_core.proofs.views.Apart.{word_of-past}
use Rattle.like_board.proofs.own_board.answer.put_own_answer.Goals as goal

-- a step by the form of a word is one by that form's operation
by_form : {S V : Type 0} (holds : State S V → Type 0) (id : ℕ) (me : Me S V) (answer : ℕ)
    (then : ℕ → Me S V → Type 0) (form known : Form)
    → form ≡ known
    → Allows holds 0 id me 0 (λ word. (form_of form).put word answer) then
    → Allows holds 0 id me 0 (λ word. (form_of known).put word answer) then
by_form holds id me answer then form known is allowed =
    subst (λ (f : Form). Allows holds 0 id me 0 (λ word. (form_of f).put word answer) then) is allowed

-- there is a phase word
first_word : (words counts : ℕ) → words ≡ word_of counts → 0 < words
first_word words counts wide = let past = word_of-past counts in omega (arith, wide, past)

pub fetch_or-requires : goal.fetch_or-requires
fetch_or-requires g c = record {
  here = c.requires.here;
  there = first_word _ _ c.args.board.now.sized;
  allowed = by_form _ _ _ _ (g.P.Play.then (step 0 0 c.args.answer 0 none) c.args.access.now.me) _ Bits c.in-Bits.is
      c.requires.allowed;
}

pub fetch_add-requires : goal.fetch_add-requires
fetch_add-requires g c = record {
  here = c.requires.here;
  there = first_word _ _ c.args.board.now.sized;
  allowed = by_form _ _ _ _ (g.P.Play.then (step 0 0 c.args.answer 0 none) c.args.access.now.me) _ Counts c.in-Counts.is
      c.requires.allowed;
}
