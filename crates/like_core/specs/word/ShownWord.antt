-- The phase word of a state of the core.
use Rattle.std.specs.Prelude.{ℕ}
use Rattle.like_core.specs.{Types.Opening, core.State.CoreState, word.Forms.WordForm, word.Forms.form_of}

-- the word of this form in a state of the core
abbrev pub word_in : WordForm → Opening → CoreState → ℕ
word_in f z s = f.word z.workers s.phase s.ending s.state

-- the phase word in a state of the core, in the form that the opening's limits fix
abbrev pub shown_word : Opening → CoreState → ℕ
shown_word z s = word_in (form_of z.limits.form) z s
