-- The phase word of a program: its fields, and the number that has them.
use Rattle.std.specs.Prelude.{◌≡◌, ℕ, ◌+◌, ◌*◌, ◌%◌, ◌^◌, ◌<◌, ◌≤◌, ◌↔◌, bit_and}
use Rattle.like_limits.specs.Limits.{max_workers}
use Rattle.like_core.specs.{Phase.IsJoined, Phase.last_phase, declared.phase_word.kind.Kind.Kind, word.Kind.code_of}

-- the fields of a phase word as numbers: bit i of `answered` and of `retired` is worker i's
pub record Fields : Type 0 where
  pub kind : ℕ
  pub workers : ℕ
  pub answered : ℕ
  pub retired : ℕ
  pub number : ℕ

-- the fields with these values
abbrev pub word_fields : Kind → ℕ → ℕ → ℕ → ℕ → Fields
word_fields kind workers answered retired number = record {
  kind = code_of kind;
  workers = workers;
  answered = answered;
  retired = retired;
  number = number;
}

-- the word with these fields
abbrev pub packed : Fields → ℕ
packed f = f.kind + 4 * f.workers + 2 ^ 8 * f.answered + 2 ^ 24 * f.retired + 2 ^ 40 * f.number

-- the bit of the word by which worker i acknowledges or reports
abbrev pub answer_bit : ℕ → ℕ
answer_bit i = 2 ^ (8 + i)

-- the bit by which it retires
abbrev pub retirement_bit : ℕ → ℕ
retirement_bit i = 2 ^ (24 + i)

-- the fields are a phase word's
pub record IsLawful (f : Fields) : Type 0 where
  pub some_worker : 1 ≤ f.workers
  pub few_workers : f.workers ≤ max_workers
  -- only bits of workers are set, and no worker has both of its bits set
  pub answered : f.answered < 2 ^ f.workers
  pub retired : f.retired < 2 ^ f.workers
  pub apart : bit_and f.answered f.retired ≡ 0
  pub kind : f.kind < 4
  -- the kind is joined just if the phase is
  pub joined : (f.kind < 2) ↔ IsJoined f.number
  -- nobody has answered a running phase
  pub running : f.kind % 2 ≡ 0 → f.answered ≡ 0
  pub number : f.number ≤ last_phase
  -- the phase with the greatest number is joined and running
  pub last : f.number ≡ last_phase → f.kind ≡ 0
