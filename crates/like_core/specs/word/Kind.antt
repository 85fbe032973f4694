-- The four kinds of a phase word, as bits.
use Rattle.std.specs.Prelude.{ℕ}
use Rattle.like_core.specs.declared.phase_word.kind.Kind.{Kind, TheVariants.JoinedEnding, TheVariants.JoinedRunning}
use Rattle.like_core.specs.declared.phase_word.kind.Kind.{TheVariants.SplitEnding, TheVariants.SplitRunning}

-- a kind's two bits in a phase word: the low one is set if the phase is ending, the high one if it is split
abbrev pub code_of : Kind → ℕ
code_of JoinedRunning = 0
code_of JoinedEnding = 1
code_of SplitRunning = 2
code_of SplitEnding = 3
