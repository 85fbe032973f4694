-- The lists that a core keeps, as the numbers of the table of events.
use Rattle.std.specs.Prelude.{◌≡◌, ℕ, ◌<◌, Bool, List, [], length, slice_index, slice_index_or}
use Rattle.like_core.specs.{Phase.is_marked, Types.Gone, Types.Limits, Types.WorkerState, core.Numbers.Numbers}

-- each row has this many numbers
abbrev pub AreRowsOf : ℕ → List (List ℕ) → Type 0
AreRowsOf pages rows = (i : ℕ) → i < length rows → length (slice_index_or rows i []) ≡ pages

-- the numbers of a core that keeps these lists, by worker and by page; a number that is no worker's is gone
abbrev pub kept : Limits → ℕ → Bool → ℕ → List WorkerState → List (List ℕ) → List ℕ → List Bool → Numbers
kept limits phase ending hot states unmerged counts marks = record {
  workers = length unmerged;
  pages = length counts;
  marked = is_marked marks;
  limits = limits;
  phase = phase;
  ending = ending;
  hot = hot;
  state = λ i. slice_index_or states i Gone;
  unmerged = λ i page. slice_index (slice_index_or unmerged i []) page;
  count = λ page. slice_index counts page;
}
