-- What a form of the phase word has to keep: in each state that can be reached, the word shows the state, and each step
-- makes of it the word of the state after.
use Rattle.std.specs.Prelude.{◌≡◌, ℕ, ◌+◌, ◌%◌, ◌^◌, ◌<◌, ◌≤◌, ◌↔◌, true, false, IsTrue}
use Rattle.like_core.specs.Types.{Answered, Gone, Opening, Runs, WorkerState}
use Rattle.like_core.specs.core.{Numbers.AllGone, Numbers.AllIn, State.CoreState, State.numbers}
use Rattle.like_core.specs.word.Forms.{WordForm, form_of, has_answered, is_gone, kind_in}
use Rattle.like_core.specs.word.ShownWord.{shown_word, word_in}
use Rattle.like_core.specs.{Functions.how_many, Functions.update, declared.form.Form.Form}
use Rattle.like_core.specs.{WorkerState.looked, core.Moves.Reached, core.Moves.after_return, views.Shows.IsOpening}

-- worker i is in another state, and all else is the same
abbrev pub moved : CoreState → ℕ → WorkerState → CoreState
moved s i state = record s { state = update s.state i state }

-- the word of a state shows the state, and each step makes of it the word of the state after
pub record Serves (f : WordForm) (z : Opening) (s : CoreState) : Type 0 where
  pub below : word_in f z s < 2 ^ 64
  pub kind : word_in f z s % 4 ≡ kind_in s.phase s.ending
  pub phase : f.phase_in (word_in f z s) ≡ s.phase
  pub all_in : IsTrue (f.all_in z.workers (word_in f z s)) ↔ AllIn (numbers z s)
  pub all_gone : IsTrue (f.all_gone z.workers (word_in f z s)) ↔ AllGone (numbers z s)
  -- a look leaves it; an answer and a retirement are put into it
  pub looks : (i : ℕ) → word_in f z (moved s i (looked s.phase (s.state i))) ≡ word_in f z s
  pub answers : (i phase : ℕ) → i < z.workers → s.state i ≡ Runs phase
      → word_in f z (moved s i (Answered s.phase)) ≡ f.put (word_in f z s) (f.answer i)
  pub retires : (i phase : ℕ) → i < z.workers → s.state i ≡ Runs phase
      → word_in f z (moved s i Gone) ≡ f.put (word_in f z s) (f.retirement i)
  -- a return takes off what a retirement put into it
  pub returns : (i : ℕ) → i < z.workers → s.state i ≡ Gone
      → word_in f z (after_return s i) + f.retirement i ≡ word_in f z s
  -- an announcement adds 1
  pub announces : s.ending ≡ false
      → word_in f z (record s { ending = true }) ≡ word_in f z s + 1
  -- a release stores what it makes of the word that it saw
  pub releases : s.ending ≡ true → AllIn (numbers z s)
      → word_in f z (record s { phase = s.phase + 1; ending = false }) ≡ f.released (word_in f z s)

-- a form does so in each state that can be reached, for each opening that has it
abbrev pub FormServes : Form → Type 0
FormServes form =
    (z : Opening) (s : CoreState) → IsOpening z → z.limits.form ≡ form → Reached z s
    → Serves (form_of form) z s

-- how many workers have answered the present phase, and how many are gone
abbrev pub answered_now : Opening → CoreState → ℕ
answered_now z s = how_many (λ i. has_answered s.phase (s.state i)) z.workers

abbrev pub gone_now : Opening → CoreState → ℕ
gone_now z s = how_many (λ i. is_gone (s.state i)) z.workers

-- an answer raises the count of those that have answered by one, and leaves the count of those gone
abbrev pub AnswersOne : Type 0
AnswersOne =
    (z : Opening) (s : CoreState) (i phase : ℕ) → i < z.workers → s.state i ≡ Runs phase
    → (answered_now z (moved s i (Answered s.phase)) ≡ answered_now z s + 1)
    × (gone_now z (moved s i (Answered s.phase)) ≡ gone_now z s)

-- a retirement raises the count of those gone by one, and leaves the count of those that have answered
abbrev pub RetiresOne : Type 0
RetiresOne =
    (z : Opening) (s : CoreState) (i phase : ℕ) → i < z.workers → s.state i ≡ Runs phase
    → (gone_now z (moved s i Gone) ≡ gone_now z s + 1)
    × (answered_now z (moved s i Gone) ≡ answered_now z s)

-- a return lowers the count of those gone by one, and leaves the count of those that have answered
abbrev pub ReturnsOne : Type 0
ReturnsOne =
    (z : Opening) (s : CoreState) (i : ℕ) → i < z.workers → s.state i ≡ Gone
    → (gone_now z (after_return s i) + 1 ≡ gone_now z s)
    × (answered_now z (after_return s i) ≡ answered_now z s)

-- all are in just where the two counts are together all workers, which is the most that they can be
abbrev pub AllInCounts : Type 0
AllInCounts =
    (z : Opening) (s : CoreState)
    → (answered_now z s + gone_now z s ≤ z.workers)
    × ((answered_now z s + gone_now z s ≡ z.workers) ↔ AllIn (numbers z s))

-- all are gone just where the count of those gone is all workers
abbrev pub AllGoneCounts : Type 0
AllGoneCounts = (z : Opening) (s : CoreState) → (gone_now z s ≡ z.workers) ↔ AllGone (numbers z s)

-- no two phases have the same word
abbrev pub WordTellsPhase : Type 0
WordTellsPhase =
    (z : Opening) (s t : CoreState) → IsOpening z → Reached z s → Reached z t
    → shown_word z s ≡ shown_word z t → s.phase ≡ t.phase
