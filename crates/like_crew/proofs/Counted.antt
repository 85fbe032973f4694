-- Each request of the plans has one entry in the run lists of all workers.
use Rattle.std.proofs.Common.{◌≡◌, ℕ, zero, suc, ◌+◌, ◌<◌, ◌≤◌, Bool, true, false, ◌&&◌, cond, eqb, ltb, leb, List, [], ◌∷◌, length, map, filter, get_or, slice_get, Some, refl, sym, ap, ◌∙◌, arith, inl, inr, zero-add, add-zero, add-one}
use Rattle.std.specs.List.{count_by, flat_map, range_with_len, sum_by}
use Rattle.std.proofs.Math.Nat.{mod-lt}
use Rattle.std.proofs.lemmas.Bool.{cases_eq, cases_lt, eq-eqb, ne_eqb, le-ltb, lt-ltb}
use Rattle.std.proofs.lemmas.Bool.Decides.{eqb_tells, leb_tells}
use Rattle.std.proofs.lemmas.List.Concat.{flat_map-cons}
use Rattle.std.proofs.lemmas.List.Sums.{sum_by-append, sum_by-cons}
use Rattle.like_requests.specs.declared.request.Request.{Request}
use Rattle.like_tables.specs.Share.{worker_of}
use Rattle.like_promises.specs.declared.log.Ran.{Ran}
use Rattle.like_promises.specs.declared.log.Took.{Took}
use Rattle.like_promises.specs.declared.log.WorkerLog.{WorkerLog}
use Rattle.like_promises.specs.Order.{Entry, entry_of}
use Rattle.like_promises.specs.Workload.{Workload}
use Rattle.like_promises.specs.Log.{IsLog, numbers_taken}
use Rattle.like_crew.proofs.Ordered.{order-weighs}

-- the plan of a submitter, which is empty where there is no such submitter
abbrev pub plan_of : Workload → ℕ → List Request
plan_of workload submitter = get_or workload.plans submitter []

eqb_swap : (a b : ℕ) → eqb a b ≡ eqb b a
eqb_swap a b = elim (eqb_tells a b) [
  | inl same ↦ same.0 ∙ sym (eq-eqb b a (sym same.1))
  | inr other ↦ other.0 ∙ sym (ne_eqb b a (λ e. other.1 (sym e)))
]

le-leb : (a b : ℕ) → a ≤ b → leb a b ≡ true
le-leb a b h = elim (leb_tells a b) [
  | inl tells ↦ tells.0
  | inr other ↦ absurd (omega (arith, h, other.1))
]

gt-leb : (a b : ℕ) → b < a → leb a b ≡ false
gt-leb a b h = elim (leb_tells a b) [
  | inl tells ↦ absurd (omega (arith, h, tells.1))
  | inr other ↦ other.0
]

-- d where m is one of the numbers from a on and below b, and else 0
abbrev pub in_range : ℕ → ℕ → ℕ → ℕ → ℕ
in_range a b m d = cond (leb a m && ltb m b) d 0

range-step : (a b m d : ℕ) → a < b → cond (eqb a m) d 0 + in_range (a + 1) b m d ≡ in_range a b m d
range-step a b m d some =
    elim (cases_lt m a) [
      | inl below ↦ rw (
        ne_eqb a m (λ e. absurd (omega (arith, below, e))),
        gt-leb (a + 1) m (omega (arith, below)),
        gt-leb a m below,
      ) refl
      | inr above ↦
          elim (cases_eq a m) [
            | inl same ↦
                rw (
                  eq-eqb a m same,
                  gt-leb (a + 1) m (omega (arith, same)),
                  le-leb a m above,
                  lt-ltb m b (omega (arith, same, some)),
                ) (add-zero d)
            | inr other ↦
                rw (ne_eqb a m other, le-leb (a + 1) m (omega (arith, above, other)), le-leb a m above)
                (zero-add (cond (ltb m b) d 0))
          ]
    ]

range-none : (a m d : ℕ) → in_range a a m d ≡ 0
range-none a m d =
    elim (cases_lt m a) [
      | inl below ↦ rw (gt-leb a m below) refl
      | inr above ↦ rw (le-leb a m above, le-ltb m a above) refl
    ]

-- how often a number stands among numbers in a row
count-range : (a k m : ℕ) → count_by (λ n. eqb n m) (range_with_len a k) ≡ in_range a (a + k) m 1
count-range a zero m = sym (ap (λ b. in_range a b m 1) (add-zero a) ∙ range-none a m 1)
count-range a (suc k) m =
    sum_by-cons (λ (n : ℕ). cond (eqb n m) 1 0) a (range_with_len (a + 1) k)
    ∙ ap (λ n. cond (eqb a m) 1 0 + n) (count-range (a + 1) k m)
    ∙ ap (λ b. cond (eqb a m) 1 0 + in_range (a + 1) b m 1) (omega (arith, add-one k))
    ∙ range-step a (a + suc k) m 1 (omega (arith, add-one k))

-- what stands in one of several lists
sum-lists : (f : Ran → ℕ) (m d : ℕ) (logs : List WorkerLog) (from : ℕ)
    → ((k : ℕ) (log : WorkerLog) → slice_get logs k ≡ Some log → sum_by f log.ran.items ≡ cond (eqb (from + k) m) d 0)
    → sum_by f (flat_map (λ (log : WorkerLog). log.ran.items) logs) ≡ in_range from (from + length logs) m d
sum-lists f m d [] from each = sym (ap (λ b. in_range from b m d) (add-zero from) ∙ range-none from m d)
sum-lists f m d (x ∷ xs) from each =
    ap (sum_by f) (flat_map-cons (λ (log : WorkerLog). log.ran.items) x xs)
    ∙ sum_by-append f x.ran.items (flat_map (λ (log : WorkerLog). log.ran.items) xs)
    ∙ ap (λ n. n + sum_by f (flat_map (λ (log : WorkerLog). log.ran.items) xs))
    (each zero x refl ∙ ap (λ n. cond (eqb n m) d 0) (add-zero from))
    ∙ ap (λ n. cond (eqb from m) d 0 + n)
    (sum-lists f m d xs (from + 1)
    (λ k log e. each (suc k) log e ∙ ap (λ n. cond (eqb n m) d 0) (omega (arith, add-one k))))
    ∙ ap (λ b. cond (eqb from m) d 0 + in_range (from + 1) b m d) (omega (arith, add-one (length xs)))
    ∙ range-step from (from + suc (length xs)) m d (omega (arith, add-one (length xs)))

module _ (submitter number : ℕ) where
  -- 1 where a request is this one
  abbrev this_one : ℕ → ℕ → ℕ
  this_one s n = cond (eqb s submitter && eqb n number) 1 0

  sum-entries : (ran : List Ran)
      → sum_by (λ (e : Entry). this_one e.submitter e.number) (map entry_of ran)
      ≡ sum_by (λ e. this_one e.submitter e.number) ran
  sum-entries [] = refl
  sum-entries (e ∷ ran) =
      sum_by-cons (λ (x : Entry). this_one x.submitter x.number) (entry_of e) (map entry_of ran)
      ∙ ap (λ n. this_one e.submitter e.number + n) (sum-entries ran)
      ∙ sym (sum_by-cons (λ (x : Ran). this_one x.submitter x.number) e ran)

  sum-taken : (taken : List Took)
      → sum_by (λ t. this_one t.submitter t.number) taken ≡ count_by (λ n. eqb n number) (numbers_taken submitter taken)
  sum-taken [] = refl
  sum-taken (t ∷ taken) =
      sum_by-cons (λ (u : Took). this_one u.submitter u.number) t taken
      ∙ ap (λ n. this_one t.submitter t.number + n) (sum-taken taken)
      ∙ by_test (eqb t.submitter submitter) where
        by_test : (b : Bool)
            → cond (b && eqb t.number number) 1 0 + count_by (λ n. eqb n number) (numbers_taken submitter taken)
            ≡ count_by (λ n. eqb n number)
            (map (λ (u : Took). u.number)
            (cond b (t ∷ filter (λ (u : Took). eqb u.submitter submitter) taken)
            (filter (λ (u : Took). eqb u.submitter submitter) taken)))
        by_test true = sym (sum_by-cons (λ (n : ℕ). cond (eqb n number) 1 0) t.number (numbers_taken submitter taken))
        by_test false = zero-add (count_by (λ n. eqb n number) (numbers_taken submitter taken))

  -- in the run list of one worker
  count-in-log : (workload : Workload) (workers worker : ℕ) (log : WorkerLog) → IsLog workload workers worker log
      → sum_by (λ e. this_one e.submitter e.number) log.ran.items
      ≡ cond (eqb worker (worker_of workers submitter)) (in_range 1 (1 + length (plan_of workload submitter)) number 1) 0
  count-in-log workload workers worker log l =
      sym (sum-entries log.ran.items)
      ∙ ap (sum_by (λ (e : Entry). this_one e.submitter e.number)) l.ran
      ∙ order-weighs this_one workload log.taken.items
      ∙ sum-taken log.taken.items
      ∙ ap (count_by (λ n. eqb n number)) (l.taken submitter)
      ∙ by_test (eqb (worker_of workers submitter) worker)
      ∙ ap (λ b. cond b (in_range 1 (1 + length (plan_of workload submitter)) number 1) 0)
      (eqb_swap (worker_of workers submitter) worker) where
        by_test : (b : Bool)
            → count_by (λ n. eqb n number) (cond b (range_with_len 1 (length (plan_of workload submitter))) [])
            ≡ cond b (in_range 1 (1 + length (plan_of workload submitter)) number 1) 0
        by_test true = count-range 1 (length (plan_of workload submitter)) number
        by_test false = refl

  -- in the run lists of all
  pub count-in-all : (workload : Workload) (workers : ℕ) (logs : List WorkerLog) → length logs ≡ workers → 0 < workers
      → ((worker : ℕ) (log : WorkerLog) → slice_get logs worker ≡ Some log → IsLog workload workers worker log)
      → sum_by (λ e. this_one e.submitter e.number) (flat_map (λ (log : WorkerLog). log.ran.items) logs)
      ≡ in_range 1 (1 + length (plan_of workload submitter)) number 1
  count-in-all workload workers logs sized some each =
      let worker : ℕ = worker_of workers submitter in
      let there : worker < workers = mod-lt submitter some in
      let size : ℕ = in_range 1 (1 + length (plan_of workload submitter)) number 1 in
      sum-lists (λ e. this_one e.submitter e.number) worker size logs 0
      (λ k log e. count-in-log workload workers k log (each k log e)
      ∙ ap (λ n. cond (eqb n worker) size 0) (sym (zero-add k)))
      ∙ ap (λ b. cond (leb 0 worker && b) size 0) (lt-ltb worker (0 + length logs) (omega (arith, there, sized)))
      ∙ ap (λ b. cond (b && true) size 0) (le-leb 0 worker (omega arith))
