-- The answers of all logs, put together from the parts of the workers.
use Rattle.std.proofs.Common.{◌≡◌, ◌≢◌, ℕ, All, zero, suc, ◌<◌, ◌≤◌, ◌%◌, ◌^◌, ◌==◌, Bool, true, false, cond, inl, inr, List, [], ◌∷◌, ◌++◌, Vec, Global, Some, Result, Ok, Err, IfOk, MatchResult, length, map, get_or, set, refl, sym, ap, ◌∙◌, subst, arith, eq-eqb, append-nil, zero-add, slice_get}
use Rattle.std.proofs.Math.Nat.{mod-lt}
use Rattle.std.proofs.lemmas.Bool.{cases_eq, cases_lt, ne_eqb}
use Rattle.std.proofs.lemmas.List.{ext_get_or, get_or-map, get_or-set_other, get_or-set_same, get_or_past, length-map, length-set, map-append, map-set, nil_from_length}
use Rattle.std.proofs.lemmas.List.Elements.{filter-append}
use Rattle.std.proofs.lemmas.List.FromFn.{get_or-enumerate_from, length-enumerate_from}
use Rattle.std.proofs.lemmas.Option.{get_or_from_slice_get, slice_get_within}
use Rattle.std.proofs.Math.Seq.{map-set_same}
use Rattle.std.specs.List.{enumerate_from, flat_map}
use Rattle.std.specs.Option.{option_to_list}
use Rattle.like_promises.specs.declared.answer.Answer.{Answer}
use Rattle.like_promises.specs.declared.log.WorkerLog.{WorkerLog}
use Rattle.like_promises.specs.declared.replies.Replies.{Replies}
use Rattle.like_promises.specs.Collected.{IsCollected, answer_of, entries_in, entries_of, rows_of}
use Rattle.like_promises.specs.Workload.{nth}
use Rattle.like_collection.specs.Parts.{AreParts, IsPart, own, own_sizes, row_in}
use Rattle.like_collection.proofs.Entries.{is_of}
use Rattle.like_collection.proofs.Lists.{enumerate_from-append}

-- what is there if there is a value
pub ok-of : {T E : Type 0} (r : Result T E) (P : T → Type 0) (Q : E → Type 0) → MatchResult r P Q → IfOk r P
ok-of (Ok x) P Q is = is
ok-of (Err e) P Q is = tt

-- one more submitter
pub own_sizes-more : (workers worker : ℕ) (sizes : List ℕ) (size : ℕ)
    → own_sizes workers worker (sizes ++ size ∷ [])
    ≡ own_sizes workers worker sizes ++ own workers worker (length sizes, size) ∷ []
own_sizes-more workers worker sizes size =
    let e : enumerate_from 0 (sizes ++ size ∷ []) ≡ enumerate_from 0 sizes ++ (length sizes, size) ∷ [] =
    simp (enumerate_from-append, zero-add) in
    ap (map (own workers worker)) e ∙ map-append (own workers worker) (enumerate_from 0 sizes) ((length sizes, size) ∷ [])

-- they are as many as the submitters
pub own_sizes-length : (workers worker : ℕ) (sizes : List ℕ) → length (own_sizes workers worker sizes) ≡ length sizes
own_sizes-length workers worker sizes =
    length-map (enumerate_from 0 sizes) (own workers worker) ∙ length-enumerate_from 0 sizes

pub own_sizes-at : (workers worker : ℕ) (sizes : List ℕ) (submitter : ℕ)
    → submitter < length sizes
    → get_or (own_sizes workers worker sizes) submitter 0 ≡ own workers worker (submitter, get_or sizes submitter 0)
own_sizes-at workers worker sizes submitter there =
    get_or-map (own workers worker) (enumerate_from 0 sizes) submitter (0, 0) 0
    (omega (arith, length-enumerate_from 0 sizes, there))
    ∙ ap (own workers worker) (get_or-enumerate_from 0 sizes submitter (0, 0) there)
    ∙ ap (λ s. own workers worker (s, get_or sizes submitter 0)) (zero-add submitter)

-- sizes of 32 bits stay so
pub own_sizes-small : (workers worker : ℕ) (sizes : List ℕ)
    → ((k : ℕ) → get_or sizes k 0 < 2 ^ 32)
    → (k : ℕ)
    → get_or (own_sizes workers worker sizes) k 0 < 2 ^ 32
own_sizes-small workers worker sizes small k = elim (cases_lt k (length sizes)) [
  | inl there ↦
      subst (λ n. n < 2 ^ 32) (sym (own_sizes-at workers worker sizes k there)) (by_test (k % workers == worker) (small k))
  | inr past ↦
      subst (λ n. n < 2 ^ 32)
      (sym (get_or_past (own_sizes workers worker sizes) k 0 (omega (arith, past, own_sizes-length workers worker sizes))))
      (omega arith)
] where
  by_test : (b : Bool) → get_or sizes k 0 < 2 ^ 32 → cond b (get_or sizes k 0) 0 < 2 ^ 32
  by_test true few = few
  by_test false few = omega arith

-- the rows of the parts
abbrev pub tables : List Replies → List (List (List Answer))
tables parts = map rows_of parts

-- where a submitter's row is taken, the rows of the others stay
pub row_in-others : (tables : List (List (List Answer))) (submitter other : ℕ) (row : List Answer)
    → 0 < length tables
    → other ≢ submitter
    → let worker = submitter % length tables in
    row_in (set tables worker (set (get_or tables worker []) submitter row)) other ≡ row_in tables other
row_in-others tables submitter other row some differs =
    let worker : ℕ = submitter % length tables in
    let there : worker < length tables = mod-lt submitter some in
    let rows : List (List Answer) = set (get_or tables worker []) submitter row in
    ap (λ n. get_or (get_or (set tables worker rows) (other % n) []) other []) (length-set tables worker rows)
    ∙ elim (cases_eq (other % length tables) worker) [
      | inl same ↦
          ap (λ w. get_or (get_or (set tables worker rows) w []) other []) same
          ∙ ap (λ (t : List (List Answer)). get_or t other []) (get_or-set_same tables worker rows [] there)
          ∙ get_or-set_other (get_or tables worker []) submitter other row [] differs
          ∙ sym (ap (λ w. get_or (get_or tables w []) other []) same)
      | inr apart ↦
          ap (λ (t : List (List Answer)). get_or t other [])
          (get_or-set_other tables worker (other % length tables) rows [] apart)
    ]

-- a row as a list
abbrev items : Vec Answer Global → List Answer
items row = row.items

-- the same of parts, where the row is replaced in one
pub taken-others : (parts : List Replies) (worker submitter other : ℕ) (part : Replies)
    (rows : Vec (Vec Answer Global) Global) (row : Vec Answer Global)
    → worker ≡ submitter % length parts
    → 0 < length parts
    → part ≡ get_or parts worker part
    → rows.items ≡ set part.rows.items submitter row
    → other ≢ submitter
    → row_in (tables (set parts worker (record { rows = rows }))) other ≡ row_in (tables parts) other
taken-others parts worker submitter other part rows row is some old made differs =
    let t : List (List (List Answer)) = tables parts in
    let new : Replies = record { rows = rows } in
    let place : worker ≡ submitter % length t = is ∙ ap (λ n. submitter % n) (sym (length-map parts rows_of)) in
    let there : worker < length parts = subst (λ w. w < length parts) (sym is) (mod-lt submitter some) in
    let own : rows_of part ≡ get_or t worker [] = ap rows_of old ∙ sym (get_or-map rows_of parts worker part [] there) in
    let now : rows_of new ≡ set (get_or t worker []) submitter row.items =
    ap (map items) made ∙ map-set items part.rows.items submitter row ∙ ap (λ r. set r submitter row.items) own in
    ap (λ ls. row_in ls other) (map-set rows_of parts worker new ∙ ap (λ r. set t worker r) now)
    ∙ subst (λ w. row_in (set t w (set (get_or t w []) submitter row.items)) other ≡ row_in t other) (sym place)
    (row_in-others t submitter other row.items (omega (arith, some, length-map parts rows_of)) differs)

-- how many rows a part has
abbrev pub many : Replies → ℕ
many part = length (rows_of part)

-- and each part has as many rows as before
pub taken-many : (parts : List Replies) (worker submitter : ℕ) (part : Replies)
    (rows : Vec (Vec Answer Global) Global) (row : Vec Answer Global)
    → part ≡ get_or parts worker part
    → rows.items ≡ set part.rows.items submitter row
    → map many (set parts worker (record { rows = rows })) ≡ map many parts
taken-many parts worker submitter part rows row old made =
    map-set_same many parts worker (record { rows = rows }) part
    (length-map rows.items items ∙ ap (λ (r : List (Vec Answer Global)). length r) made
    ∙ length-set part.rows.items submitter row ∙ sym (length-map part.rows.items items) ∙ ap many old)

-- where parts have as many rows as others that have this many each, so do they
pub all-many : (old new : List Replies) (count : ℕ)
    → map many new ≡ map many old
    → All (λ part. many part ≡ count) old
    → All (λ part. many part ≡ count) new
all-many old new count same all k d there =
    let size : length new ≡ length old =
    sym (length-map new many) ∙ ap (λ (ns : List ℕ). length ns) same ∙ length-map old many in
    sym (get_or-map many new k d 0 there) ∙ ap (λ (ns : List ℕ). get_or ns k 0) same
    ∙ get_or-map many old k d 0 (omega (arith, size, there)) ∙ all k d (omega (arith, size, there))

-- the entries of a request, log by log
entries-by_log : (submitter number : ℕ) (logs : List WorkerLog)
    → map answer_of (entries_of submitter number (entries_in logs))
    ≡ flat_map (λ (log : WorkerLog). map answer_of (entries_of submitter number log.ran.items)) logs
entries-by_log submitter number [] = refl
entries-by_log submitter number (log ∷ logs) =
    ap (map answer_of) (filter-append (is_of submitter number) log.ran.items (entries_in logs))
    ∙ map-append answer_of (entries_of submitter number log.ran.items) (entries_of submitter number (entries_in logs))
    ∙ ap (λ rest. map answer_of (entries_of submitter number log.ran.items) ++ rest) (entries-by_log submitter number logs)

-- where no element gives anything
none-of : (f : WorkerLog → List Answer) (logs : List WorkerLog)
    → ((i : ℕ) (log : WorkerLog) → slice_get logs i ≡ Some log → f log ≡ [])
    → flat_map f logs ≡ []
none-of f [] none = refl
none-of f (log ∷ logs) none =
    ap (λ front. front ++ flat_map f logs) (none zero log refl) ∙ none-of f logs (λ i x at. none (suc i) x at)

-- where one element alone gives something
one-of : (f : WorkerLog → List Answer) (logs : List WorkerLog) (k : ℕ) (answers : List Answer)
    → k < length logs
    → ((i : ℕ) (log : WorkerLog) → slice_get logs i ≡ Some log → i ≢ k → f log ≡ [])
    → ((log : WorkerLog) → slice_get logs k ≡ Some log → f log ≡ answers)
    → flat_map f logs ≡ answers
one-of f [] k answers there others here = absurd (omega (arith, there))
one-of f (log ∷ logs) zero answers there others here =
    ap (λ front. front ++ flat_map f logs) (here log refl)
    ∙ ap (λ rest. answers ++ rest) (none-of f logs (λ i x at. others (suc i) x at (λ e. absurd (omega (arith, e)))))
    ∙ append-nil answers
one-of f (log ∷ logs) (suc k) answers there others here =
    ap (λ front. front ++ flat_map f logs) (others zero log refl (λ e. absurd (omega (arith, e))))
    ∙ one-of f logs k answers (omega (arith, there))
    (λ i x at differs. others (suc i) x at (λ e. differs (omega (arith, e)))) here

-- an element at each place
at-place : {X : Type 0} (xs : List X) (i : ℕ) → i < length xs → (x : X) × (slice_get xs i ≡ Some x)
at-place [] i there = absurd (omega (arith, there))
at-place (x ∷ xs) zero there = (x, refl)
at-place (x ∷ xs) (suc i) there = at-place xs i (omega (arith, there))

no-answer : (number : ℕ) → option_to_list (nth {X = Answer} [] number) ≡ []
no-answer zero = refl
no-answer (suc n) = refl

module _ (sizes : List ℕ) (logs : List WorkerLog) (parts : List Replies) (some : 0 < length logs)
    (are : AreParts sizes logs parts) where
  -- how many rows each part has
  pub parts-many : All (λ part. many part ≡ length sizes) parts
  parts-many i d there =
      let log = at-place logs i (omega (arith, are.all, there)) in
      let part = at-place parts i there in
      let is : IsPart (length logs) sizes i log.0 part.0 = are.each i log.0 part.0 log.1 part.1 in
      ap many (get_or_from_slice_get parts i part.0 d part.1)
      ∙ sym (length-map (rows_of part.0) (λ (row : List Answer). length row))
      ∙ ap (λ (ns : List ℕ). length ns) is.sized ∙ own_sizes-length (length logs) i sizes

  module _ (i : ℕ) (log : WorkerLog) (part : Replies) (is : IsPart (length logs) sizes i log part) (submitter : ℕ) where
    -- the size of a row of a part
    row-size : submitter < length sizes
        → length (get_or (rows_of part) submitter []) ≡ own (length logs) i (submitter, get_or sizes submitter 0)
    row-size there =
        sym (get_or-map (λ (row : List Answer). length row) (rows_of part) submitter [] 0
        (omega (
          arith,
          there,
          own_sizes-length (length logs) i sizes,
          length-map (rows_of part) (λ (row : List Answer). length row),
          ap (λ (ns : List ℕ). length ns) is.sized,
        )))
        ∙ ap (λ (ns : List ℕ). get_or ns submitter 0) is.sized ∙ own_sizes-at (length logs) i sizes submitter there

    row-past : length sizes ≤ submitter → get_or (rows_of part) submitter [] ≡ []
    row-past past =
        get_or_past (rows_of part) submitter []
        (omega (
          arith,
          past,
          own_sizes-length (length logs) i sizes,
          length-map (rows_of part) (λ (row : List Answer). length row),
          ap (λ (ns : List ℕ). length ns) is.sized,
        ))

    -- a worker's part has no row of another's submitter
    row-none : submitter % length logs ≢ i → get_or (rows_of part) submitter [] ≡ []
    row-none other = elim (cases_lt submitter (length sizes)) [
      | inl there ↦
          nil_from_length (get_or (rows_of part) submitter [])
          (row-size there ∙ ap (λ b. cond b (get_or sizes submitter 0) 0) (ne_eqb (submitter % length logs) i other))
      | inr past ↦ row-past past
    ]

  -- the rows of all are those of the parts
  pub IsCollected-parts : (rows : List (List Answer))
      → length rows ≡ length sizes
      → ((submitter : ℕ) → submitter < length sizes → get_or rows submitter [] ≡ row_in (tables parts) submitter)
      → IsCollected sizes (entries_in logs) rows
  IsCollected-parts rows size each = record {
    sized = ext_get_or 0 (map (λ (row : List Answer). length row) rows) sizes
        (length-map rows (λ (row : List Answer). length row) ∙ size)
        (λ submitter within.
        let there : submitter < length sizes =
        omega (arith, within, size, length-map rows (λ (row : List Answer). length row)) in
        get_or-map (λ (row : List Answer). length row) rows submitter [] 0 (omega (arith, there, size))
        ∙ ap (λ (row : List Answer). length row) (row-of submitter)
        ∙ row-size (worker submitter) (log submitter).0 (part submitter).0 (is-part submitter) submitter there
        ∙ ap (λ b. cond b (get_or sizes submitter 0) 0) (eq-eqb (worker submitter) (worker submitter) refl));
    each = λ submitter number.
        entries-by_log submitter number logs
        ∙ one-of (λ (log : WorkerLog). map answer_of (entries_of submitter number log.ran.items)) logs (worker submitter)
        (option_to_list (nth (get_or rows submitter []) number)) (mod-lt submitter some)
        (λ i other at differs.
        let own = at-place parts i (omega (arith, are.all, slice_get_within logs i other at)) in
        let is : IsPart (length logs) sizes i other own.0 = are.each i other own.0 at own.1 in
        is.each submitter number
        ∙ ap (λ (row : List Answer). option_to_list (nth row number))
        (row-none i other own.0 is submitter (λ e. differs (sym e)))
        ∙ no-answer number)
        (λ own at.
        (are.each (worker submitter) own (part submitter).0 at (part submitter).1).each submitter number
        ∙ ap (λ (row : List Answer). option_to_list (nth row number)) (sym (row-of submitter)));
  } where
    worker : ℕ → ℕ
    worker submitter = submitter % length logs

    log : (submitter : ℕ) → (l : WorkerLog) × (slice_get logs (worker submitter) ≡ Some l)
    log submitter = at-place logs (worker submitter) (mod-lt submitter some)

    part : (submitter : ℕ) → (p : Replies) × (slice_get parts (worker submitter) ≡ Some p)
    part submitter = at-place parts (worker submitter) (omega (arith, are.all, mod-lt submitter some))

    is-part : (submitter : ℕ)
        → IsPart (length logs) sizes (worker submitter) (log submitter).0 (part submitter).0
    is-part submitter =
        are.each (worker submitter) (log submitter).0 (part submitter).0 (log submitter).1 (part submitter).1

    in-table : (submitter : ℕ) → get_or (tables parts) (submitter % length (tables parts)) [] ≡ rows_of (part submitter).0
    in-table submitter =
        ap (λ n. get_or (tables parts) (submitter % n) []) (length-map parts rows_of ∙ are.all)
        ∙ get_or-map rows_of parts (worker submitter) (part submitter).0 []
        (omega (arith, are.all, mod-lt submitter some))
        ∙ ap rows_of (get_or_from_slice_get parts (worker submitter) (part submitter).0 (part submitter).0 (part submitter).1)

    row-of : (submitter : ℕ) → get_or rows submitter [] ≡ get_or (rows_of (part submitter).0) submitter []
    row-of submitter = elim (cases_lt submitter (length sizes)) [
      | inl there ↦
          each submitter there ∙ ap (λ (table : List (List Answer)). get_or table submitter []) (in-table submitter)
      | inr past ↦
          get_or_past rows submitter [] (omega (arith, past, size))
          ∙ sym (row-past (worker submitter) (log submitter).0 (part submitter).0 (is-part submitter) submitter past)
    ]
