-- The last likes of all users, put together from the tables of the workers.
use Rattle.std.proofs.Common.{◌≡◌, ℕ, ◌+◌, ◌<◌, true, false, List, length, get_or, slice_get, Option, Some, None, inl, inr, refl, sym, ap, ◌∙◌, arith, eq-eqb}
use Rattle.std.proofs.lemmas.Bool.{cases_eq, lt-ltb, ne_eqb}
use Rattle.std.proofs.lemmas.Option.{same_Some}
use Rattle.like_requests.specs.Verdict.{home}
use Rattle.like_promises.specs.declared.log.WorkerLog.{WorkerLog}
use Rattle.like_tables.specs.Share.{owns, share_of, worker_of}
use Rattle.like_tables.specs.UserTable.{last_of}

-- the logs have the workers' user tables, in order
abbrev pub AreTables : ℕ → ℕ → List WorkerLog → Type 0
AreTables users submitters logs =
    (worker : ℕ) (log : WorkerLog) → slice_get logs worker ≡ Some log
    → log.last.share ≡ share_of users submitters (length logs) worker

-- the last likes of the users of so many workers stand in the list
pub record AreGiven (users submitters : ℕ) (logs : List WorkerLog) (last : List (Option ℕ)) (many : ℕ) : Type 0 where
  pub len : length last ≡ users
  pub each : (user : ℕ) (log : WorkerLog) → user < users → worker_of (length logs) (home submitters user) < many
      → slice_get logs (worker_of (length logs) (home submitters user)) ≡ Some log
      → get_or last user None ≡ last_of log.last user

-- before the first
pub AreGiven-none : (users submitters : ℕ) (logs : List WorkerLog) (last : List (Option ℕ)) → length last ≡ users
    → AreGiven users submitters logs last 0
AreGiven-none users submitters logs last len =
    record { len = len; each = λ user log there before its. absurd (omega (arith, before)) }

-- one worker more
pub AreGiven-more : (users submitters : ℕ) (logs : List WorkerLog) (last now : List (Option ℕ)) (log : WorkerLog)
    (place : ℕ)
    → AreTables users submitters logs → slice_get logs place ≡ Some log → AreGiven users submitters logs last place
    → length now ≡ length last
    → ((user : ℕ) → owns log.last.share user ≡ true → get_or now user None ≡ last_of log.last user)
    → ((user : ℕ) → owns log.last.share user ≡ false → get_or now user None ≡ get_or last user None)
    → AreGiven users submitters logs now (place + 1)
AreGiven-more users submitters logs last now log place tables at g len own others = record {
  len = len ∙ g.len;
  each = λ user other there before its. elim (cases_eq (worker_of (length logs) (home submitters user)) place) [
    | inl same ↦
        let mine : owns log.last.share user ≡ true =
        rw (tables place log at, lt-ltb user users there, eq-eqb _ place same) refl in
        let it : log ≡ other = same_Some _ _ (sym at ∙ ap (slice_get logs) (sym same) ∙ its) in
        own user mine ∙ ap (λ (l : WorkerLog). last_of l.last user) it
    | inr apart ↦
        let elsewhere : owns log.last.share user ≡ false =
        rw (tables place log at, lt-ltb user users there, ne_eqb _ place apart) refl in
        others user elsewhere ∙ g.each user other there (omega arith) its
  ];
}
