-- The entries of a request in all logs are those in a serial list.
use Rattle.std.proofs.Common.{◌≡◌, ℕ, zero, suc, ◌+◌, ◌<◌, Bool, true, false, cond, ◌==◌, ◌&&◌, List, [], ◌∷◌, ◌++◌, filter, subst, ap, ap₂, sym, ◌∙◌, refl, arith, eq-eqb, ne_eqb, eqb-true, true≢false, append-nil}
use Rattle.std.specs.List.{AllByRecursion}
use Rattle.std.proofs.lemmas.List.Elements.{filter-append}
use Rattle.like_tables.specs.Share.{worker_of}
use Rattle.like_promises.specs.declared.log.Ran.{Ran}
use Rattle.like_promises.specs.declared.log.WorkerLog.{WorkerLog}
use Rattle.like_promises.specs.Collected.{entries_in, entries_of}
use Rattle.like_promises.specs.EndToEnd.{runs_of}
use Rattle.like_promises.specs.Serial.{IsSerial, entries_by, run_of}
use Rattle.like_promises.specs.Workload.{Workload}
use Rattle.like_serial.proofs.Interleaved.{key_all, key_none, with_key}
use Rattle.like_serial.proofs.Phases.{key_is}
use Rattle.like_serial.proofs.Serial.{server_of}

-- where each log's entries have its number as key, those of all logs with a key are the run list with that number
module _ (key : Ran → ℕ) where
  abbrev HasKey : ℕ → List Ran → Type 0
  HasKey n xs = AllByRecursion (λ e. key e ≡ n) xs

  abbrev Own : ℕ → List WorkerLog → Type 0
  Own from [] = Unit {0}
  Own from (log ∷ logs) = HasKey from log.ran.items × Own (suc from) logs

  none_below : (from w : ℕ) (logs : List WorkerLog)
      → w < from
      → Own from logs
      → with_key key w (entries_in logs) ≡ []
  none_below from w [] less own = refl
  none_below from w (log ∷ logs) less own =
      filter-append (λ e. key e == w) log.ran.items (entries_in logs)
      ∙ ap₂ (λ xs ys. xs ++ ys)
      (key_none key from w log.ran.items own.0 (ne_eqb from w (λ e. absurd (omega (arith, e, less)))))
      (none_below (suc from) w logs (omega (arith, less)) own.1)

  of_number : (from w : ℕ) (logs : List WorkerLog)
      → Own from logs
      → with_key key (w + from) (entries_in logs) ≡ run_of (runs_of logs) w
  of_number from w [] own = refl
  of_number from zero (log ∷ logs) own =
      filter-append (λ e. key e == 0 + from) log.ran.items (entries_in logs)
      ∙ ap₂ (λ xs ys. xs ++ ys)
      (key_all key (0 + from) log.ran.items (subst (λ n. HasKey n log.ran.items) (omega arith) own.0))
      (none_below (suc from) (0 + from) logs (omega arith) own.1)
      ∙ append-nil log.ran.items
  of_number from (suc w) (log ∷ logs) own =
      let n = suc w + from in
      filter-append (λ e. key e == n) log.ran.items (entries_in logs)
      ∙ ap₂ (λ xs ys. xs ++ ys)
      (key_none key from n log.ran.items own.0 (ne_eqb from n (λ e. absurd (omega (arith, e)))))
      (ap (λ k. with_key key k (entries_in logs)) (omega arith) ∙ of_number (suc from) w logs own.1)

  own_from : (from : ℕ) (logs : List WorkerLog)
      → ((k : ℕ) → HasKey (k + from) (run_of (runs_of logs) k))
      → Own from logs
  own_from from [] each = tt
  own_from from (log ∷ logs) each = (
    subst (λ n. HasKey n log.ran.items) (omega arith) (each 0),
    own_from (suc from) logs
        (λ k. subst (λ n. HasKey n (run_of (runs_of logs) k)) (omega arith) (each (suc k))),
  )

-- what passes a test is among what passes a wider one
filter_part : {X : Type 0} (p q : X → Bool) (xs : List X)
    → ((x : X) → p x ≡ true → q x ≡ true)
    → filter p xs ≡ filter p (filter q xs)
filter_part p q [] then = refl
filter_part {X} p q (x ∷ xs) then = by (p x) refl (q x) refl (filter_part p q xs then) where
  by : (b : Bool)
      → p x ≡ b
      → (c : Bool)
      → q x ≡ c
      → filter p xs ≡ filter p (filter q xs)
      → cond b (x ∷ filter p xs) (filter p xs) ≡ filter p (cond c (x ∷ filter q xs) (filter q xs))
  by b is true has same = ap₂ (λ d zs. cond d (x ∷ zs) zs) (sym is) same
  by true is false has same = absurd (true≢false (sym (then x is) ∙ has))
  by false is false has same = same

-- so a request's entries are among its worker's
of_own : (workers submitter number : ℕ) (xs : List Ran)
    → entries_of submitter number xs
    ≡ entries_of submitter number (entries_by workers (worker_of workers submitter) xs)
of_own workers submitter number xs =
    filter_part (λ (e : Ran). (e.submitter == submitter) && (e.number == number))
    (λ e. worker_of workers e.submitter == worker_of workers submitter) xs
    (λ e both. eq-eqb (worker_of workers e.submitter) (worker_of workers submitter)
    (ap (worker_of workers) (eqb-true e.submitter submitter (first (e.submitter == submitter) (e.number == number) both)))) where
      first : (a b : Bool) → a && b ≡ true → a ≡ true
      first true b both = refl
      first false b both = both

-- the entries of a request in all logs are those in the serial list
pub entries_same : (workload : Workload) (workers : ℕ) (logs : List WorkerLog) (serial : List Ran)
    → IsSerial workload workers (runs_of logs) serial
    → (submitter number : ℕ)
    → entries_of submitter number (entries_in logs) ≡ entries_of submitter number serial
entries_same workload workers logs serial is submitter number =
    let w = worker_of workers submitter in
    let key : Ran → ℕ = server_of workers in
    let own = own_from key 0 logs
    (λ k. subst (λ n. HasKey key n (run_of (runs_of logs) k)) (omega arith)
    (subst (HasKey key k) (is.own k) (key_is key k serial)))
    in
    of_own workers submitter number (entries_in logs)
    ∙ ap (entries_of submitter number)
    (ap (λ n. with_key key n (entries_in logs)) {x = w} {y = w + 0} (omega arith)
    ∙ of_number key 0 w logs own
    ∙ sym (is.own w))
    ∙ sym (of_own workers submitter number serial)
