-- What the program has done for its words, and the status with which it ends.
use Rattle.std.specs.Prelude.{◌≡◌, ◌⊎◌, ℕ, false, true, List, [], ◌∷◌, length, Option, None, Some, codes, is_some, string_bytes}
use Rattle.std.specs.Io.KnownBytes.{Appends}
use Rattle.like_replies.specs.declared.notice.Notice.{Notice}
use Rattle.like_command.specs.Asked.{Asks, AsksForHelp, IsParseFault, Words}
use Rattle.like_command.specs.declared.asked.Asked.TheVariants.{Help, Replay, Run}
use Rattle.like_command.specs.declared.{asked.Asked.Asked, options.Options.Options}
use Rattle.like_files.specs.{Faults.IsBeforeOutput, Inputs.BeginsReportOf, Inputs.Inputs, Outcome.TellsWrite}
use Rattle.like_files.specs.{Replay.HasReplayed, Replay.IsReplayFilesFault, Run.HasRun, Run.IsRunFilesFault}
use Rattle.like_files.specs.{StandardInput.names_of, StandardInput.names_twice, Types.DriverFault}
use Rattle.like_program.specs.Fault.{program_status}
use Rattle.like_program.specs.declared.fault.ProgramFault.{ProgramFault, ProgramFault as program}

-- the bytes of the example's pages file, and of its request file
abbrev pub example_pages : List ℕ
example_pages = codes "name,count,split\na,10,no\n"

abbrev pub example_requests : List ℕ
example_requests = codes "op,user,page\nlike,0,a\nlike,1,a\nlike,0,a\n"

-- options have the numbers of the example, and ask for all replies, no places, no summary and no progress
pub record IsExample (o : Options) : Type 0 where
  pub workers : o.workers ≡ 1
  pub users : o.users ≡ 2
  pub stash : o.stash ≡ 256
  pub turns : o.turns ≡ 1000
  pub hot : o.hot ≡ None
  pub places : o.places ≡ false
  pub totals : o.totals ≡ false
  pub summary : o.summary ≡ false
  pub progress : o.progress ≡ false

-- the example's files, without a script
abbrev pub example_inputs : Inputs
example_inputs = record {
  pages = Some example_pages;
  requests = Some example_requests ∷ [];
  script = None;
}

-- one file of the options at most is standard input
abbrev pub NamesInputOnce : Options → Type 0
NamesInputOnce options = names_twice (names_of options) ≡ false

-- this holds of some files: as many request files as the options name, and a script if they name one
pub record OfSome (options : Options) (Holds : Inputs → Type 0) : Type 0 where
  pub inputs : Inputs
  pub all_requests : length inputs.requests ≡ length options.requests.items
  pub scripted : is_some inputs.script ≡ is_some options.script
  pub holds : Holds inputs

-- what was asked for was done, with this notice on its report, if there is one
abbrev pub HasDone : Asked → Option (List ℕ) → Option (List ℕ) → Option Notice → Type 0
HasDone (Run options) old new notice =
    NamesInputOnce options × OfSome options (λ inputs. HasRun options inputs old new notice)
HasDone (Replay options) old new notice =
    NamesInputOnce options × OfSome options (λ inputs. HasReplayed options inputs old new notice)
HasDone (Help text) old new notice = Appends old new (string_bytes text) × (notice ≡ None)

-- the program has done what its words ask for, with this notice: without any word it has replayed its example
abbrev pub HasServed : Words → Option (List ℕ) → Option (List ℕ) → Option Notice → Type 0
HasServed [] old new notice = (options : Options) × IsExample options × HasReplayed options example_inputs old new notice
HasServed (word ∷ words) old new notice =
    (asked : Asked) × Asks (word ∷ words) asked × HasDone asked old new notice

-- after this fault the output is as before, or this was begun; with a fault before the output it is as before
abbrev pub BeginsAtMost :
    (Option (List ℕ) → Option (List ℕ) → Type 0) → Option (List ℕ) → Option (List ℕ) → DriverFault → Type 0
BeginsAtMost Begun old new fault = ((new ≡ old) ⊎ Begun old new) × (IsBeforeOutput fault → new ≡ old)

-- why the example was not replayed
abbrev pub IsExampleFault : Option (List ℕ) → Option (List ℕ) → ProgramFault → Type 0
IsExampleFault old new (program.Files options fault) =
    IsExample options × IsReplayFilesFault options example_inputs fault
    × BeginsAtMost (BeginsReportOf options example_inputs) old new fault
IsExampleFault old new program.Memory = new ≡ old
IsExampleFault old new fault = ⊥

-- the words ask for a run or a replay with these options, and that of some files ends in this fault
abbrev pub IsAskedFault : Words → Options → DriverFault → Type 0
IsAskedFault words options fault =
    (Asks words (Run options) × OfSome options (λ inputs. IsRunFilesFault options inputs fault))
    ⊎ (Asks words (Replay options) × OfSome options (λ inputs. IsReplayFilesFault options inputs fault))

-- why what the words ask for was not done
abbrev pub IsWordsFault : Words → Option (List ℕ) → Option (List ℕ) → ProgramFault → Type 0
IsWordsFault words old new (program.Words fault) = IsParseFault words fault × (new ≡ old)
IsWordsFault words old new (program.Files options fault) =
    IsAskedFault words options fault
    × BeginsAtMost (λ old new. OfSome options (λ inputs. BeginsReportOf options inputs old new)) old new fault
IsWordsFault words old new program.Output = AsksForHelp words
IsWordsFault words old new program.Inputs =
    (options : Options) × (Asks words (Run options) ⊎ Asks words (Replay options))
    × (names_twice (names_of options) ≡ true) × (new ≡ old)
IsWordsFault words old new program.Memory = ⊥

-- why the program has not done what its words ask for
abbrev pub IsServeFault : Words → Option (List ℕ) → Option (List ℕ) → ProgramFault → Type 0
IsServeFault [] old new fault = IsExampleFault old new fault
IsServeFault (word ∷ words) old new fault = IsWordsFault (word ∷ words) old new fault

-- the fault tells whether a write or a flush of the output failed
abbrev pub TellsProgram : {W : Type 0} → (W → Type 0) → W → W → ProgramFault → Type 0
TellsProgram Failed old new (program.Files options fault) = TellsWrite Failed old new fault
TellsProgram Failed old new program.Output = Failed new
TellsProgram Failed old new fault = Failed new → Failed old

module _ {W : Type 0} (held : W → Option (List ℕ)) (Flushed Failed : W → Type 0) (words : Words) (old new : W) where
  -- what the words ask for was done, the output is flushed, and no call of it failed
  pub record EndsWell : Type 0 where
    pub notice : Option Notice
    pub served : HasServed words (held old) (held new) notice
    pub flushed : Flushed new
    pub told : Failed new → Failed old

  -- with this fault it was not done, and the fault tells whether a call of the output failed
  pub record EndsInFault (fault : ProgramFault) : Type 0 where
    pub why : IsServeFault words (held old) (held new) fault
    pub told : TellsProgram Failed old new fault

  -- the program ends with 0 where all went well, or else with the status of a fault
  abbrev pub Ends : ℕ → Type 0
  Ends status =
      ((status ≡ 0) × EndsWell)
      ⊎ ((fault : ProgramFault) × (status ≡ program_status fault) × EndsInFault fault)
