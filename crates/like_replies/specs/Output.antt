-- What a call that writes a text leaves of its output, and what its answer tells of it.
use Rattle.std.specs.Prelude.{◌≡◌, ◌++◌, ℕ, List, Option, Result, MatchResult}
use Rattle.std.specs.Io.KnownBytes.{Appends}
use Rattle.like_replies.specs.declared.write_fault.WriteFault.{TheVariants.Memory, TheVariants.Write, WriteFault}

-- a front of a text was written, and nothing else, where what the output holds is known
pub record HasBegun (old new : Option (List ℕ)) (text : List ℕ) : Type 0 where
  pub front : List ℕ
  pub rest : List ℕ
  pub whole : text ≡ front ++ rest
  pub written : Appends old new front

-- a text was written: all of it on success, and a front of it after a fault
abbrev pub Writes : {A E : Type 0} → Option (List ℕ) → Option (List ℕ) → Result A E → List ℕ → Type 0
Writes old new answer text = MatchResult answer (λ _. Appends old new text) (λ _. HasBegun old new text)

module _ {W : Type 0} (Failed : W → Type 0) (old new : W) where
  -- a call of an output failed just if its answer says so
  abbrev pub TellsCall : {A E : Type 0} → Result A E → Type 0
  TellsCall answer = MatchResult answer (λ _. Failed new → Failed old) (λ _. Failed new)

  -- the fault is `Write` just if a write or a flush failed
  abbrev pub TellsFault : WriteFault → Type 0
  TellsFault Write = Failed new
  TellsFault Memory = Failed new → Failed old

  -- an answer tells whether a write or a flush failed
  abbrev pub TellsOutput : {A : Type 0} → Result A WriteFault → Type 0
  TellsOutput answer = MatchResult answer (λ _. Failed new → Failed old) TellsFault
