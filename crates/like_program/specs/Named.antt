-- What holds of named files, or why a run or a replay of them failed. The tries are those of an opener before and after,
-- where they are known.
use Rattle.std.specs.Prelude.{◌⊎◌, List, Option}
use Rattle.like_command.specs.declared.options.Options.{Options}
use Rattle.like_files.specs.Opened.{AreNamed, IsUnopened}
use Rattle.like_files.specs.{FailedReads.TellsRead, Tries.Try, Types.DriverFault, Types.Opened}

module _ {R : Type 0} (before after : Option (List (Try R))) (options : Options) where
  -- this holds of the files that the options name, each opened by its name
  pub record OfNamed (Holds : Opened R → Type 0) : Type 0 where
    pub opened : Opened R
    pub named : AreNamed before after options opened
    pub holds : Holds opened

  -- why the files that the options name were not run or replayed: one was not opened, or all were and this refuses them
  abbrev pub IsNamedFault : (Opened R → DriverFault → Type 0) → DriverFault → Type 0
  IsNamedFault Refused fault =
      IsUnopened before after options fault
      ⊎ OfNamed (λ files. Refused files fault × TellsRead files.pages files.requests.items files.script fault)
