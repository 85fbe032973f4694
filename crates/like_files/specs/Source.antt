-- What a source gives.
use Rattle.std.specs.Prelude.{ℕ, List, Option}
use Rattle.like_files.specs.declared.source.Source.{Source, TheVariants.File, TheVariants.Input}

-- what a source has left to give: what its file has, or standard input
abbrev pub left_in : {F I : Type 0} → (F → Option (List ℕ)) → (I → Option (List ℕ)) → Source F I → Option (List ℕ)
left_in file input (File reader) = file reader
left_in file input (Input reader) = input reader
