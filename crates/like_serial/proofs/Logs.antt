-- The run lists of right logs.
use Rattle.std.proofs.Common.{◌≡◌, ℕ, zero, suc, ◌+◌, ◌≤◌, Bool, true, false, cond, eqb, ◌==◌, ◌&&◌, not, List, [], ◌∷◌, length, map, filter, flat_map, slice_get, slice_index_or, Some, subst, ap, sym, ◌∙◌, refl, arith, eq-eqb, eqb-true}
use Rattle.std.specs.List.{AllByRecursion, range_with_len}
use Rattle.like_tables.specs.Share.{worker_of}
use Rattle.like_promises.specs.declared.log.Ran.{Ran}
use Rattle.like_promises.specs.declared.log.Took.{Took}
use Rattle.like_promises.specs.declared.log.WorkerLog.{WorkerLog}
use Rattle.like_promises.specs.EndToEnd.{AreLogs, runs_of}
use Rattle.like_promises.specs.Log.{IsLog, numbers_taken}
use Rattle.like_promises.specs.Order.{Entry, block, entry_in, entry_of, is_due, phases_of, waited}
use Rattle.like_promises.specs.Replies.{HasRightAnswers}
use Rattle.like_promises.specs.Workload.{Workload}
use Rattle.like_serial.specs.RunLists.{AreRunLists}
use Rattle.like_promises.specs.Serial.{run_of}
use Rattle.like_serial.proofs.Parts.{not_cons}
use Rattle.like_serial.proofs.Phases.{Rises, all_append, all_then, pairs_of, rec_all, rises-append, rises-same}
use Rattle.like_serial.proofs.Seen.{not_some}
use Rattle.like_serial.proofs.Serial.{phase_of, server_of}

pub all_filter : {X : Type 0} (P : X → Type 0) (t : X → Bool) (xs : List X)
    → AllByRecursion P xs
    → AllByRecursion P (filter t xs)
all_filter P t [] all = tt
all_filter {X} P t (x ∷ xs) all = by (t x) (all_filter P t xs all.1) where
  by : (b : Bool) → AllByRecursion P (filter t xs) → AllByRecursion P (cond b (x ∷ filter t xs) (filter t xs))
  by true others = (all.0, others)
  by false others = others

pub all_map : {X Y : Type 0} (P : Y → Type 0) (f : X → Y) (xs : List X)
    → AllByRecursion (λ x. P (f x)) xs
    → AllByRecursion P (map f xs)
all_map P f [] all = tt
all_map P f (x ∷ xs) all = (all.0, all_map P f xs all.1)

all_unmap : {X Y : Type 0} (P : Y → Type 0) (f : X → Y) (xs : List X)
    → AllByRecursion P (map f xs)
    → AllByRecursion (λ x. P (f x)) xs
all_unmap P f [] all = tt
all_unmap P f (x ∷ xs) all = (all.0, all_unmap P f xs all.1)

rises_unmap : {X Y : Type 0} (phase : Y → ℕ) (f : X → Y) (xs : List X)
    → Rises phase (map f xs)
    → Rises (λ x. phase (f x)) xs
rises_unmap phase f [] rises = tt
rises_unmap phase f (x ∷ xs) rises =
    (all_unmap (λ y. phase (f x) ≤ phase y) f xs rises.0, rises_unmap phase f xs rises.1)

any_all : {X : Type 0} (P : X → Type 0) (xs : List X) → ((x : X) → P x) → AllByRecursion P xs
any_all P [] each = tt
any_all P (x ∷ xs) each = (each x, any_all P xs each)

-- whose what was taken is
taken_own : (workers w : ℕ) (taken : List Took)
    → ((submitter : ℕ) → eqb (worker_of workers submitter) w ≡ false → numbers_taken submitter taken ≡ [])
    → AllByRecursion (λ t. worker_of workers t.submitter ≡ w) taken
taken_own workers w [] none = tt
taken_own workers w (t ∷ taken) none =
    (mine (eqb (worker_of workers t.submitter) w) refl, taken_own workers w taken others) where
      mine : (b : Bool) → eqb (worker_of workers t.submitter) w ≡ b → worker_of workers t.submitter ≡ w
      mine true is = eqb-true (worker_of workers t.submitter) w is
      mine false is =
          let rest : List ℕ = numbers_taken t.submitter taken in
          let here : numbers_taken t.submitter (t ∷ taken) ≡ t.number ∷ rest =
          ap
          (λ b. map (λ (u : Took). u.number)
          (cond b (t ∷ filter (λ (u : Took). u.submitter == t.submitter) taken)
          (filter (λ (u : Took). u.submitter == t.submitter) taken)))
          (eq-eqb t.submitter t.submitter refl)
          in
          absurd (not_cons t.number rest (sym (none t.submitter is) ∙ here))

      drop_one : (submitter : ℕ) (b : Bool)
          → map (λ (u : Took). u.number)
          (cond b (t ∷ filter (λ (u : Took). u.submitter == submitter) taken)
          (filter (λ (u : Took). u.submitter == submitter) taken))
          ≡ []
          → numbers_taken submitter taken ≡ []
      drop_one submitter true is = absurd (not_cons t.number (numbers_taken submitter taken) (sym is))
      drop_one submitter false is = is

      others : (submitter : ℕ) → eqb (worker_of workers submitter) w ≡ false → numbers_taken submitter taken ≡ []
      others submitter is = drop_one submitter (t.submitter == submitter) (none submitter is)

-- what holds of all blocks holds of the order
all_blocks : (P : Entry → Type 0) (blocks : ℕ → List Entry) (a n : ℕ)
    → ((k : ℕ) → a ≤ k → AllByRecursion P (blocks k))
    → AllByRecursion P (flat_map blocks (range_with_len a n))
all_blocks P blocks a zero each = tt
all_blocks P blocks a (suc n) each =
    all_append P (blocks a) (flat_map blocks (range_with_len (a + 1) n)) (each a (omega arith))
    (all_blocks P blocks (a + 1) n (λ k least. each k (omega (arith, least))))

-- blocks of rising phases rise
rises_blocks : (blocks : ℕ → List Entry) (a n : ℕ)
    → ((k : ℕ) → AllByRecursion (λ (e : Entry). e.phase ≡ k) (blocks k))
    → Rises (λ (e : Entry). e.phase) (flat_map blocks (range_with_len a n))
rises_blocks blocks a zero each = tt
rises_blocks blocks a (suc n) each =
    rises-append (λ (e : Entry). e.phase) a (blocks a) (flat_map blocks (range_with_len (a + 1) n))
    (rises-same (λ (e : Entry). e.phase) a (blocks a) (each a))
    (rises_blocks blocks (a + 1) n each)
    (all_then (λ (e : Entry). e.phase ≡ a) (λ e. e.phase ≤ a) (blocks a) (λ e is. omega (arith, is)) (each a))
    (all_blocks (λ (e : Entry). a ≤ e.phase) blocks (a + 1) n
    (λ k least. all_then (λ (e : Entry). e.phase ≡ k) (λ e. a ≤ e.phase) (blocks k)
    (λ e is. omega (arith, is, least)) (each k)))

-- a block's entries are of its phase, and of those who took them
pub block_phase : (workload : Workload) (taken : List Took) (k : ℕ)
    → AllByRecursion (λ (e : Entry). e.phase ≡ k) (block workload taken k)
block_phase workload taken k =
    let due : List Took = filter (is_due workload k) taken in
    let prompt : List Took = filter (λ t. (t.phase == k) && not (waited workload t)) taken in
    all_append (λ (e : Entry). e.phase ≡ k) (map (entry_in k true) due) (map (entry_in k false) prompt)
    (all_map (λ (e : Entry). e.phase ≡ k) (entry_in k true) due
    (any_all (λ t. (entry_in k true t).phase ≡ k) due (λ t. refl)))
    (all_map (λ (e : Entry). e.phase ≡ k) (entry_in k false) prompt
    (any_all (λ t. (entry_in k false t).phase ≡ k) prompt (λ t. refl)))

block_own : (workload : Workload) (workers w : ℕ) (taken : List Took) (k : ℕ)
    → AllByRecursion (λ (t : Took). worker_of workers t.submitter ≡ w) taken
    → AllByRecursion (λ (e : Entry). worker_of workers e.submitter ≡ w) (block workload taken k)
block_own workload workers w taken k all =
    let due : List Took = filter (is_due workload k) taken in
    let prompt : List Took = filter (λ t. (t.phase == k) && not (waited workload t)) taken in
    let own : Took → Type 0 = λ t. worker_of workers t.submitter ≡ w in
    let mine : Entry → Type 0 = λ e. worker_of workers e.submitter ≡ w in
    all_append mine (map (entry_in k true) due) (map (entry_in k false) prompt)
    (all_map mine (entry_in k true) due (all_filter own (is_due workload k) taken all))
    (all_map mine (entry_in k false) prompt
    (all_filter own (λ t. (t.phase == k) && not (waited workload t)) taken all))

-- a log's run list
pub record IsRunList (workload : Workload) (workers w : ℕ) (run : List Ran) : Type 0 where
  pub own : AllByRecursion (λ e. server_of workers e ≡ w) run
  pub rising : Rises phase_of run
  pub answers : HasRightAnswers workload run

log_run : (workload : Workload) (workers w : ℕ) (log : WorkerLog)
    → IsLog workload workers w log
    → IsRunList workload workers w log.ran.items
log_run workload workers w log is =
    let taken : List Took = log.taken.items in
    let all = taken_own workers w taken
    (λ submitter other. is.taken submitter ∙ ap (λ b. cond b (range_with_len 1 (length (slice_index_or workload.plans submitter []))) []) other)
    in
    let n = phases_of taken + 1 in
    record {
      own = all_unmap (λ (e : Entry). worker_of workers e.submitter ≡ w) entry_of log.ran.items
          (subst (AllByRecursion (λ (e : Entry). worker_of workers e.submitter ≡ w)) (sym is.ran)
          (all_blocks (λ (e : Entry). worker_of workers e.submitter ≡ w) (block workload taken) 0 n
          (λ k least. block_own workload workers w taken k all)));
      rising = rises_unmap (λ (e : Entry). e.phase) entry_of log.ran.items
          (subst (Rises (λ (e : Entry). e.phase)) (sym is.ran)
          (rises_blocks (block workload taken) 0 n (block_phase workload taken)));
      answers = is.answers;
    }

-- the run list of each number
run_at : (logs : List WorkerLog) (w : ℕ) → (P : List Ran → Type 0)
    → ((log : WorkerLog) → slice_get logs w ≡ Some log → P log.ran.items)
    → P []
    → P (run_of (runs_of logs) w)
run_at [] w P some none = none
run_at (log ∷ logs) zero P some none = some log refl
run_at (log ∷ logs) (suc w) P some none = run_at logs w P some none

pub logs_are_run_lists : (workload : Workload) (workers phases : ℕ) (logs : List WorkerLog)
    → AreLogs workload workers phases logs
    → AreRunLists workload workers (runs_of logs)
logs_are_run_lists workload workers phases logs right = record {
  own = λ w. rec_all (λ e. server_of workers e ≡ w) (run_of (runs_of logs) w) (each w).own;
  rising = λ w. pairs_of phase_of (run_of (runs_of logs) w) (each w).rising;
  answers = λ w. (each w).answers;
} where
  nothing : (w : ℕ) → IsRunList workload workers w []
  nothing w = record { own = tt; rising = tt; answers = λ i e at. absurd (not_some e at) }

  each : (w : ℕ) → IsRunList workload workers w (run_of (runs_of logs) w)
  each w =
      run_at logs w (IsRunList workload workers w) (λ log at. log_run workload workers w log (right w log at).0)
      (nothing w)
