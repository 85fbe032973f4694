-- A new core stands for the start.
use Rattle.std.proofs.Common.{◌≡◌, ℕ, zero, suc, ◌+◌, ◌<◌, inl, inr, Bool, false, cond, nat_lt, List, [], All, length, get_or, replicate, slice_index, ap, sym, ◌∙◌, refl, arith}
use Rattle.std.proofs.lemmas.Bool.{cases_lt, cond-true, cond-false, lt-ltb, le-ltb}
use Rattle.std.proofs.lemmas.List.{get_or-replicate, get_or_past, length-replicate}
use Rattle.like_core.specs.declared.worker_state.WorkerState.{WorkerState}
use Rattle.like_core.specs.declared.worker_state.WorkerState.TheVariants.{Runs, Gone}
use Rattle.like_core.specs.declared.opening.Opening.{Opening}
use Rattle.like_core.specs.declared.limits.Limits.{Limits}
use Rattle.like_limits.specs.Limits.{total_bound}
use Rattle.like_core.specs.Functions.{sum_below}
use Rattle.like_core.specs.core.Numbers.{total}
use Rattle.like_core.specs.core.Kept.{kept}
use Rattle.like_core.specs.core.State.{start, numbers}

-- a sum of zeros
pub sum_below-zero : (f : ℕ → ℕ) (n : ℕ) → ((i : ℕ) → f i ≡ 0) → sum_below f n ≡ 0
sum_below-zero f zero zeros = refl
sum_below-zero f (suc n) zeros = let before = sum_below-zero f n zeros in let here = zeros n in omega arith

-- a list of zeros reads as 0 everywhere
pub zeros-get : (pages page : ℕ) → slice_index (replicate pages 0) page ≡ 0
zeros-get pages page =
    elim (cases_lt page pages) [
      | inl within ↦ get_or-replicate pages page 0 0 within
      | inr past ↦ get_or_past (replicate pages 0) page 0 (rw (length-replicate {A = ℕ}) past)
    ]

-- rows of zeros read as 0 everywhere
pub empty_rows-get : (workers pages i page : ℕ)
    → slice_index (get_or (replicate workers (replicate pages 0)) i []) page ≡ 0
empty_rows-get workers pages i page =
    elim (cases_lt i workers) [
      | inl within ↦
          ap (λ (r : List ℕ). slice_index r page) (get_or-replicate workers i (replicate pages 0) [] within)
          ∙ zeros-get pages page
      | inr past ↦
          ap (λ (r : List ℕ). slice_index r page)
          (get_or_past (replicate workers (replicate pages 0)) i [] (rw (length-replicate {A = List ℕ}) past))
    ]

-- rows of zeros have a number for each page
pub start_sizes : (rows : List (List ℕ)) (workers pages : ℕ)
    → rows ≡ replicate workers (replicate pages 0)
    → (i : ℕ)
    → i < length rows
    → length (get_or rows i []) ≡ pages
start_sizes rows workers pages is i within =
    let size : length rows ≡ workers = ap length is ∙ length-replicate workers (replicate pages 0) in
    let row : get_or rows i [] ≡ replicate pages 0 =
    ap (λ (rs : List (List ℕ)). get_or rs i []) is ∙ get_or-replicate workers i (replicate pages 0) [] (omega arith)
    in
    ap length row ∙ length-replicate pages 0

-- at the start a page's total is its count
pub start_bounds : (limits : Limits) (states : List WorkerState) (rows : List (List ℕ)) (counts given : List ℕ)
    (marks : List Bool) (workers pages : ℕ)
    → rows ≡ replicate workers (replicate pages 0)
    → counts ≡ given
    → All (λ count. count < total_bound) given
    → (page : ℕ)
    → page < length counts
    → total (kept limits 0 false 0 states rows counts marks) page < total_bound
start_bounds limits states rows counts given marks workers pages rows_are counts_are small page within =
    let zeros : (i : ℕ) → slice_index (get_or rows i []) page ≡ 0 =
    λ i. ap (λ (rs : List (List ℕ)). slice_index (get_or rs i []) page) rows_are ∙ empty_rows-get workers pages i page
    in
    let none = sum_below-zero (λ i. slice_index (get_or rows i []) page) (length rows) zeros in
    let size : length counts ≡ length given = ap length counts_are in
    let same : slice_index counts page ≡ slice_index given page =
    ap (λ (cs : List ℕ). slice_index cs page) counts_are in
    let count = small page 0 (omega arith) in
    omega arith

-- a core that was just made stands for the start
pub start_stands : (states : List WorkerState) (rows : List (List ℕ)) (counts : List ℕ) (marks : List Bool)
    (z : Opening)
    → states ≡ replicate z.workers (Runs 0)
    → rows ≡ replicate z.workers (replicate (length z.counts) 0)
    → counts ≡ z.counts
    → marks ≡ z.marks
    → kept z.limits 0 false 0 states rows counts marks ≡ numbers z (start z)
start_stands states rows counts marks z states_are rows_are counts_are marks_are =
    let workers : length rows ≡ z.workers =
    ap length rows_are ∙ length-replicate z.workers (replicate (length z.counts) 0)
    in
    let state : (i : ℕ) → get_or states i Gone ≡ cond (nat_lt i z.workers) (Runs 0) Gone =
    λ i.
    ap (λ (ss : List WorkerState). get_or ss i Gone) states_are ∙
    elim (cases_lt i z.workers) [
      | inl within ↦
          get_or-replicate z.workers i (Runs 0) Gone within ∙
          sym (cond-true (nat_lt i z.workers) (Runs 0) Gone (lt-ltb i z.workers within))
      | inr past ↦
          get_or_past (replicate z.workers (Runs 0)) i Gone (rw (length-replicate {A = WorkerState}) past) ∙
          sym (cond-false (nat_lt i z.workers) (Runs 0) Gone (le-ltb i z.workers past))
    ]
    in
    let unmerged : (i page : ℕ) → slice_index (get_or rows i []) page ≡ 0 =
    λ i page.
    ap (λ (rs : List (List ℕ)). slice_index (get_or rs i []) page) rows_are ∙
    empty_rows-get z.workers (length z.counts) i page
    in
    let count : (page : ℕ) → slice_index counts page ≡ slice_index z.counts page + 0 =
    λ page. let same = ap (λ (cs : List ℕ). slice_index cs page) counts_are in omega arith
    in
    λ m. record {
      workers = workers m;
      pages = length (counts_are m);
      marked = λ page. get_or (marks_are m) page false;
      limits = z.limits;
      phase = 0;
      ending = false;
      hot = 0;
      state = λ i. state i m;
      unmerged = λ i page. unmerged i page m;
      count = λ page. count page m;
    }
