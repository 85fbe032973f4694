-- What the program has done for its words, by what its parts answered.
use Rattle.std.proofs.Common.{◌≡◌, ◌==◌, ℕ, List, [], ◌∷◌, inl, inr, Option, Result, Ok, Err, IfErr, IfOk, ap, false, length, map, refl, true≢false}
use Rattle.std.specs.Prelude.{MatchResult, OnErr}
use Rattle.like_command.specs.Asked.{Asks, Words}
use Rattle.like_files.specs.Faults.{IsBeforeOutput}
use Rattle.like_files.specs.Inputs.{BeginsReportOf}
use Rattle.like_files.specs.Outcome.{LeavesFront, TellsWrite}
use Rattle.like_files.specs.Replay.{IsReplayFilesFault}
use Rattle.like_program.specs.Fault.{of_files}
use Rattle.like_program.specs.Program.{BeginsAtMost, HasDone, HasServed, IsAskedFault, IsExample, IsExampleFault, IsServeFault, IsWordsFault, OfSome, TellsProgram, example_inputs}
use Rattle.like_command.specs.declared.asked.Asked.{Asked}
use Rattle.like_command.specs.declared.options.Options.{Options}
use Rattle.like_replies.specs.declared.notice.Notice.{Notice}
use Rattle.like_files.specs.declared.fault.DriverFault.{DriverFault}
use Rattle.like_program.specs.declared.fault.ProgramFault.{ProgramFault}
use Rattle.like_program.specs.declared.fault.ProgramFault.TheVariants.{Files}

-- a front of a report of some files was written
abbrev pub BeginsSome : Options → Option (List ℕ) → Option (List ℕ) → Type 0
BeginsSome options old new = OfSome options (λ inputs. BeginsReportOf options inputs old new)

-- what is asked for by some words was done
pub served : (words : Words) (old new : Option (List ℕ)) (asked : Asked) (notice : Option Notice)
    → ¬ (words ≡ [])
    → Asks words asked
    → HasDone asked old new notice
    → HasServed words old new notice
served [] old new asked notice some asks done = absurd (some refl)
served (w ∷ words) old new asked notice some asks done = (asked, asks, done)

-- why it was not
pub not_served : (words : Words) (old new : Option (List ℕ)) (fault : ProgramFault)
    → ¬ (words ≡ [])
    → IsWordsFault words old new fault
    → IsServeFault words old new fault
not_served [] old new fault some why = absurd (some refl)
not_served (w ∷ words) old new fault some why = why

-- words that are there
pub some-words : {S : Type 0} (text : S → List ℕ) (words : List S)
    → (length words == 0) ≡ false
    → ¬ (map text words ≡ [])
some-words text [] h e = true≢false h
some-words text (w ∷ words) h e = let no : text w ∷ map text words ≡ [] = e in cc no

-- what holds of a run or a replay that was done holds of the program's end
pub of_files-ok : {A : Type 0} (P : A → Type 0) (options : Options) (done : Result A DriverFault)
    → IfOk done P
    → IfOk (of_files options done) P
of_files-ok P options (Ok x) h = h
of_files-ok P options (Err fault) h = tt

-- what a run or a replay tells of its output, the program tells
pub of_files-told : {A W : Type 0} (Failed : W → Type 0) (options : Options) (done : Result A DriverFault) (old new : W)
    → MatchResult done (λ _. Failed new → Failed old) (TellsWrite Failed old new)
    → MatchResult (of_files options done) (λ _. Failed new → Failed old) (TellsProgram Failed old new)
of_files-told Failed options (Ok x) old new told = told
of_files-told Failed options (Err fault) old new told = told

-- what a fault of a run or a replay left of the output
pub begins-at_most : {A W : Type 0} (Begun : Option (List ℕ) → Option (List ℕ) → Type 0) (held : W → Option (List ℕ))
    (done : Result A DriverFault) (old new : W)
    → OnErr done (LeavesFront Begun held old new)
    → IfErr done (λ fault. IsBeforeOutput fault → new ≡ old)
    → IfErr done (BeginsAtMost Begun (held old) (held new))
begins-at_most Begun held (Ok x) old new front same = tt
begins-at_most Begun held (Err fault) old new (inl kept) same = (inl (ap held kept), λ early. ap held (same early))
begins-at_most Begun held (Err fault) old new (inr begun) same = (inr begun, λ early. ap held (same early))

-- a fault of the files of some words is why what they ask for was not done
pub files-not_served : {A : Type 0} (words : Words) (old new : Option (List ℕ)) (options : Options)
    (done : Result A DriverFault)
    → ¬ (words ≡ [])
    → IfErr done (IsAskedFault words options)
    → IfErr done (BeginsAtMost (BeginsSome options) old new)
    → IfErr (of_files options done) (IsServeFault words old new)
files-not_served words old new options (Ok x) some why left = tt
files-not_served words old new options (Err fault) some why left =
    not_served words old new (Files options fault) some (why, left)

-- a fault of the example's files is why the example was not replayed
pub files-not_replayed : {A : Type 0} (old new : Option (List ℕ)) (options : Options) (done : Result A DriverFault)
    → IsExample options
    → IfErr done (IsReplayFilesFault options example_inputs)
    → IfErr done (BeginsAtMost (BeginsReportOf options example_inputs) old new)
    → IfErr (of_files options done) (IsExampleFault old new)
files-not_replayed old new options (Ok x) numbers why left = tt
files-not_replayed old new options (Err fault) numbers why left = (numbers, why, left)
