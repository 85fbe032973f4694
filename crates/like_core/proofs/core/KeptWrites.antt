-- One write in a worker's row changes one page's total.
use Rattle.std.proofs.Common.{◌≡◌, ℕ, ◌+◌, ◌<◌, ◌≤◌, inl, inr, Bool, List, [], length, get_or, set, slice_index, ap, sym, ◌∙◌, arith}
use Rattle.std.proofs.Math.ListN.{length-set}
use Rattle.std.proofs.lemmas.Bool.{cases_eq}
use Rattle.like_core.specs.declared.worker_state.WorkerState.{WorkerState}
use Rattle.like_core.specs.declared.limits.Limits.{Limits}
use Rattle.like_limits.specs.Limits.{total_bound}
use Rattle.like_core.specs.Functions.{update}
use Rattle.like_core.specs.core.Numbers.{Numbers, with_unmerged, total}
use Rattle.like_core.specs.core.Kept.{kept}
use Rattle.like_core.proofs.Updates.{get_or-set, update-apply, update-same, update-other, update_cases}
use Rattle.like_core.proofs.Sums.{sum_below-same, sum_below-update}

-- a worker's row after a write in it is an updated row
pub kept-set_row : (limits : Limits) (phase : ℕ) (ending : Bool) (hot : ℕ) (states : List WorkerState)
    (rows : List (List ℕ)) (counts : List ℕ) (marks : List Bool) (i page likes : ℕ) (row : List ℕ)
    → i < length rows
    → page < length (get_or rows i [])
    → row ≡ set (get_or rows i []) page likes
    → kept limits phase ending hot states (set rows i row) counts marks
    ≡ with_unmerged (kept limits phase ending hot states rows counts marks) i page likes
kept-set_row limits phase ending hot states rows counts marks i page likes row within there is =
    let n = kept limits phase ending hot states rows counts marks in
    let new_row : (p : ℕ) → slice_index row p ≡ update (n.unmerged i) page likes p =
    λ p. ap (λ (r : List ℕ). slice_index r p) is ∙ get_or-set (get_or rows i []) page likes 0 there p in
    let new_rows : (j p : ℕ)
    → slice_index (get_or (set rows i row) j []) p ≡ update n.unmerged i (update (n.unmerged i) page likes) j p =
    λ j p.
    let written = update (n.unmerged i) page likes in
    let P : ℕ → List ℕ → Type 0 = λ k r. slice_index r p ≡ update n.unmerged i written k p in
    ap (λ (r : List ℕ). slice_index r p) (get_or-set rows i row [] within j) ∙
    update_cases P (λ k. get_or rows k []) i row
    (new_row p ∙ sym (ap (λ (h : ℕ → ℕ). h p) (update-same n.unmerged i written)))
    (λ k other. sym (ap (λ (h : ℕ → ℕ). h p) (update-other n.unmerged i written k other)))
    j
    in
    λ m. record {
      workers = length-set rows i row m;
      pages = length counts;
      marked = n.marked;
      limits = limits;
      phase = phase;
      ending = ending;
      hot = hot;
      state = n.state;
      unmerged = λ j p. new_rows j p m;
      count = n.count;
    }

-- a worker that has more or fewer unmerged likes of a page changes the page's total by as much, and no other
pub total-with_unmerged : (n : Numbers) (i page likes q : ℕ)
    → i < n.workers
    → total (with_unmerged n i page likes) q + n.unmerged i q ≡ total n q + update (n.unmerged i) page likes q
total-with_unmerged n i page likes q within =
    let row = update (n.unmerged i) page likes in
    let moved = sum_below-same (λ j. update n.unmerged i row j q) (update (λ j. n.unmerged j q) i (row q)) n.workers
    (λ j _. update-apply n.unmerged i row j q) in
    let changed = sum_below-update (λ j. n.unmerged j q) i (row q) n.workers within in
    omega arith

-- rows keep their length where one of its own length is written
pub rows_sized-set : (rows : List (List ℕ)) (pages i : ℕ) (row : List ℕ)
    → ((j : ℕ) → j < length rows → length (get_or rows j []) ≡ pages)
    → i < length rows
    → length row ≡ pages
    → (j : ℕ)
    → j < length (set rows i row)
    → length (get_or (set rows i row) j []) ≡ pages
rows_sized-set rows pages i row sized within same j there =
    let P : ℕ → List ℕ → Type 0 = λ k r. k < length rows → length r ≡ pages in
    let size = length-set rows i row in
    ap length (get_or-set rows i row [] within j) ∙
    update_cases P (λ k. get_or rows k []) i row (λ _. same) (λ k _ below. sized k below) j (omega arith)

-- a worker's unmerged likes of a page are part of its total
pub unmerged-le-total : (n : Numbers) (i page : ℕ) → i < n.workers → n.unmerged i page ≤ total n page
unmerged-le-total n i page within =
    let without_it = sum_below-update (λ j. n.unmerged j page) i 0 n.workers within in omega arith

-- totals stay bounded where a worker's unmerged likes of a page change and the page's total has room for it
pub bounded-with_unmerged : (n : Numbers) (i page likes : ℕ)
    → i < n.workers
    → total n page + likes < total_bound + n.unmerged i page
    → ((q : ℕ) → q < n.pages → total n q < total_bound)
    → (q : ℕ)
    → q < n.pages
    → total (with_unmerged n i page likes) q < total_bound
bounded-with_unmerged n i page likes within room bounded q there =
    let changed = total-with_unmerged n i page likes q within in
    let before = bounded q there in
    elim (cases_eq q page) [
      | inl same ↦
          let row : update (n.unmerged i) page likes q ≡ likes = rw same (update-same (n.unmerged i) page likes) in
          let total_same : total n q ≡ total n page = ap (total n) same in
          let old_same : n.unmerged i q ≡ n.unmerged i page = ap (n.unmerged i) same in
          omega arith
      | inr other ↦ let row = update-other (n.unmerged i) page likes q other in omega arith
    ]
