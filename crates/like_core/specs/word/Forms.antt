-- The two forms of the phase word. A program's word has two bits for each worker; a service's counts how many have
-- answered and how many are gone.
use Rattle.std.specs.Prelude.{ℕ, ◌+◌, ◌*◌, ◌/◌, ◌%◌, ◌^◌, ◌==◌, ◌||◌, nat_lt, bit_or, Bool, true, false, if◌then◌else◌}
use Rattle.like_core.specs.Functions.{each_below, has_bit, how_many, mask, weight}
use Rattle.like_core.specs.Types.{Answered, Gone, Runs, WorkerState}
use Rattle.like_core.specs.declared.form.Form.{Form, TheVariants.Bits, TheVariants.Counts}
use Rattle.like_core.specs.word.Word.{answer_bit, packed, retirement_bit}

-- whether a worker in this state has answered this phase
abbrev pub has_answered : ℕ → WorkerState → Bool
has_answered phase (Answered j) = j == phase
has_answered phase _ = false

-- whether a worker in this state is gone
abbrev pub is_gone : WorkerState → Bool
is_gone Gone = true
is_gone _ = false

-- what a word of either form has in its lowest two bits: the high one is set if the phase is split, the low one if it is
-- ending
abbrev pub kind_in : ℕ → Bool → ℕ
kind_in phase ending = 2 * (phase % 2) + weight ending

-- those bits of the word that a release stores: the next phase runs
abbrev pub released_kind : ℕ → ℕ
released_kind word = (if word % 4 == 1 then 2 else 0)

-- a form of the phase word
pub record WordForm : Type 0 where
  -- the word of this many workers in a phase, which may be ending, if these are their states
  pub word : ℕ → ℕ → Bool → (ℕ → WorkerState) → ℕ
  -- what worker i puts into it by an answer, and by retiring
  pub answer : ℕ → ℕ
  pub retirement : ℕ → ℕ
  -- a word after this was put into it
  pub put : ℕ → ℕ → ℕ
  -- whether a worker that is gone may come back
  pub lets_return : Bool
  -- the phase that a word tells
  pub phase_in : ℕ → ℕ
  -- whether a word of this many workers shows all in, and all gone
  pub all_in : ℕ → ℕ → Bool
  pub all_gone : ℕ → ℕ → Bool
  -- the word that a release stores, if it saw this one
  pub released : ℕ → ℕ

-- the form of a program: a phase has 24 bits, and at most 16 workers have two bits each
abbrev pub bits : WordForm
bits = record {
  word = λ workers phase ending state. packed (record {
    kind = kind_in phase ending;
    workers = workers;
    answered = mask (λ i. has_answered phase (state i)) workers;
    retired = mask (λ i. is_gone (state i)) workers;
    number = phase;
  });
  answer = answer_bit;
  retirement = retirement_bit;
  put = λ word bit. bit_or word bit;
  lets_return = false;
  phase_in = λ word. word / 2 ^ 40;
  all_in = λ workers word. each_below (λ i. has_bit (word / 2 ^ 8) i || has_bit (word / 2 ^ 24) i) workers;
  all_gone = λ workers word. each_below (λ i. has_bit (word / 2 ^ 24) i) workers;
  released = λ word. packed (record {
    kind = released_kind word;
    workers = word / 4 % 2 ^ 6;
    answered = 0;
    retired = word / 2 ^ 24 % 2 ^ 16;
    number = word / 2 ^ 40 + 1;
  });
}

-- the form of a service: a phase has 48 bits, and each of the two counts has 7
abbrev pub counts : WordForm
counts = record {
  word = λ workers phase ending state.
      kind_in phase ending
      + 4 * how_many (λ i. has_answered phase (state i)) workers
      + 2 ^ 9 * how_many (λ i. is_gone (state i)) workers
      + 2 ^ 16 * phase;
  answer = λ _. 4;
  retirement = λ _. 2 ^ 9;
  put = λ word more. (word + more) % 2 ^ 64;
  lets_return = true;
  phase_in = λ word. word / 2 ^ 16;
  all_in = λ workers word. word / 4 % 2 ^ 7 + word / 2 ^ 9 % 2 ^ 7 == workers;
  all_gone = λ workers word. word / 2 ^ 9 % 2 ^ 7 == workers;
  released = λ word. released_kind word + 2 ^ 9 * (word / 2 ^ 9 % 2 ^ 7) + 2 ^ 16 * (word / 2 ^ 16 + 1);
}

abbrev pub form_of : Form → WordForm
form_of Bits = bits
form_of Counts = counts

-- the word at the start: this many workers run phase 0
abbrev pub first_word : WordForm → ℕ → ℕ
first_word f workers = f.word workers 0 false (λ i. (if nat_lt i workers then Runs 0 else Gone))
