use Rattle.like_files.proofs.StandardInput.{Looked, names_before}
use Rattle.like_files.proofs.standard_input.names_input_twice.Given as goal

abbrev pub invariant-loop-name : goal.invariant-loop-name
invariant-loop-name l = Looked (names_before l.options l.name-index) l.is_named l.is_twice
