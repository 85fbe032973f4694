-- One write in the rows that a core keeps, as a core makes it.
use Rattle.std.proofs.Common.{◌≡◌, ℕ, ◌+◌, ◌<◌, List, [], length, get_or, set, length-set, ap, subst, sym, ◌∙◌, arith}
use Rattle.std.proofs.lemmas.List.{get_or_read}
use Rattle.like_core.specs.declared.pure_core.Core.{Core}
use Rattle.like_limits.specs.Limits.{total_bound}
use Rattle.like_core.specs.core.Numbers.{Numbers, with_unmerged, total}
use Rattle.like_core.specs.core.Kept.{kept}
use Rattle.like_core.specs.core.Core.{numbers_of}
use Rattle.like_core.proofs.core.KeptWrites.{kept-set_row, rows_sized-set, bounded-with_unmerged}

-- a row that was borrowed, changed at one page and put back
pub record WritesRow (core : Core) (i page likes : ℕ) (borrowed row : List ℕ) : Type 0 where
  pub has_worker : i < length core.unmerged.items
  pub has_page : page < length core.counts
  pub was : borrowed ≡ get_or core.unmerged.items i borrowed
  pub is : row ≡ set borrowed page likes

-- the borrowed row is the worker's
pub borrowed_is : (core : Core) (i page likes : ℕ) (borrowed row : List ℕ)
    → WritesRow core i page likes borrowed row
    → borrowed ≡ get_or core.unmerged.items i []
borrowed_is core i page likes borrowed row w = get_or_read core.unmerged.items i borrowed w.has_worker w.was []

-- the numbers after the write
pub written_numbers : (core : Core) (i page likes : ℕ) (borrowed row : List ℕ)
    → WritesRow core i page likes borrowed row
    → kept core.limits core.phase core.ending core.hot core.states.items
    (set core.unmerged.items i row) core.counts core.marks.items ≡ with_unmerged (numbers_of core) i page likes
written_numbers core i page likes borrowed row w =
    let was = borrowed_is core i page likes borrowed row w in
    let sized = core.rows_sized i w.has_worker in
    let there = w.has_page in
    kept-set_row core.limits core.phase core.ending core.hot core.states.items core.unmerged.items core.counts
    core.marks.items i page likes row w.has_worker (omega arith) (w.is ∙ ap (λ (r : List ℕ). set r page likes) was)

-- the rows keep their lengths
pub written_sizes : (core : Core) (i page likes : ℕ) (borrowed row : List ℕ)
    → WritesRow core i page likes borrowed row
    → (j : ℕ)
    → j < length (set core.unmerged.items i row)
    → length (get_or (set core.unmerged.items i row) j []) ≡ length core.counts
written_sizes core i page likes borrowed row w =
    let was = borrowed_is core i page likes borrowed row w in
    let size : length row ≡ length core.counts =
    ap length w.is ∙ (length-set borrowed page likes ∙ (ap length was ∙ core.rows_sized i w.has_worker))
    in
    rows_sized-set core.unmerged.items (length core.counts) i row core.rows_sized w.has_worker size

-- the totals stay bounded, where the page's total has room
pub written_bounds : (core : Core) (i page likes : ℕ) (borrowed row : List ℕ)
    → WritesRow core i page likes borrowed row
    → total (numbers_of core) page + likes < total_bound + (numbers_of core).unmerged i page
    → (q : ℕ)
    → q < length core.counts
    → total (kept core.limits core.phase core.ending core.hot core.states.items
    (set core.unmerged.items i row) core.counts core.marks.items) q < total_bound
written_bounds core i page likes borrowed row w room q there =
    let bounds = bounded-with_unmerged (numbers_of core) i page likes w.has_worker room core.bounded q there in
    subst (λ (n : Numbers). total n q < total_bound) (sym (written_numbers core i page likes borrowed row w)) bounds
