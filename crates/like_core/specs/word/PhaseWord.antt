-- The fields of a `PhaseWord`.
use Rattle.like_core.specs.{declared.phase_word.PhaseWord.PhaseWord, word.Word.Fields, word.Word.word_fields}

-- the fields of a phase word as numbers
abbrev pub fields_of : PhaseWord → Fields
fields_of p = word_fields p.kind p.workers p.answered p.retired p.number
