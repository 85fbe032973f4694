-- What the entries of a board's log add to pages, by their numbers.
use Rattle.std.proofs.Common.{◌≡◌, ℕ, ◌+◌, ◌≤◌, Bool, true, false, cond, nat_lt, ◌==◌, List, [], ◌∷◌, inl, inr, length, subst, ap, ap₂, sym, ◌∙◌, refl, arith}
use Rattle.std.specs.List.{AllByRecursion}
use Rattle.like_core.specs.declared.log.LogEntry.{LogEntry}
use Rattle.like_core.specs.declared.log.LogEntry.TheVariants.{Saw, Did}
use Rattle.like_core.specs.declared.log.Logged.{Logged}
use Rattle.like_core.specs.declared.page_step.PageStep.{PageStep}
use Rattle.like_core.specs.Log.{entry_phase, entry_worker, logged_by, numbered, steps_in}
use Rattle.like_core.specs.PageSteps.{AreInTurn, adds_to, likes_in, steps_by}
use Rattle.like_core.proofs.views.Clock.{IsAt, at_below}
use Rattle.like_serial.proofs.Interleaved.{with_key}
use Rattle.like_serial.proofs.Phases.{all_then, below, not_below}
use Rattle.like_serial.proofs.Totals.{only-none}
use Rattle.like_serial.proofs.Weigh.{only, sum-weigh, weigh}

-- how many likes an entry adds to a page
abbrev pub entry_adds : ℕ → LogEntry → ℕ
entry_adds page (Saw worker phase) = 0
entry_adds page (Did s) = adds_to page s

abbrev pub logged_adds : ℕ → Logged → ℕ
logged_adds page e = entry_adds page e.entry

abbrev pub phase_logged : Logged → ℕ
phase_logged e = entry_phase e.entry

-- in a phase
abbrev pub adds_in : ℕ → ℕ → Logged → ℕ
adds_in k page e = only (phase_logged e == k) (logged_adds page e)

-- with a number below one
abbrev pub adds_below : ℕ → ℕ → Logged → ℕ
adds_below n page e = only (nat_lt e.number n) (logged_adds page e)

-- all entries with their numbers, and those of a worker
abbrev pub all_numbered : List LogEntry → List Logged
all_numbered [] = []
all_numbered (entry ∷ log) = numbered (length log) entry ∷ all_numbered log

pub by_worker : (i : ℕ) (log : List LogEntry) → with_key (λ e. entry_worker e.entry) i (all_numbered log) ≡ logged_by i log
by_worker i [] = refl
by_worker i (entry ∷ log) =
    ap (λ es. cond (entry_worker entry == i) (numbered (length log) entry ∷ es) es) (by_worker i log)

pub all_at : (log : List LogEntry) → AllByRecursion (IsAt log) (all_numbered log)
all_at [] = tt
all_at (entry ∷ log) =
    (inl (refl, refl), all_then (IsAt log) (IsAt (entry ∷ log)) (all_numbered log) (λ e at. inr at) (all_at log))

-- two entries at one place are the same
pub same_at : (log : List LogEntry) (n : ℕ) (a b : LogEntry) → IsAt log (numbered n a) → IsAt log (numbered n b) → a ≡ b
same_at [] n a b at_a at_b = absurd at_a
same_at (entry ∷ log) n a b (inl here) (inl there) = here.1 ∙ sym there.1
same_at (entry ∷ log) n a b (inl here) (inr before) =
    let less = at_below log (numbered n b) before in absurd (omega (arith, less, here.0))
same_at (entry ∷ log) n a b (inr before) (inl here) =
    let less = at_below log (numbered n a) before in absurd (omega (arith, less, here.0))
same_at (entry ∷ log) n a b (inr before) (inr also) = same_at log n a b before also

-- what all steps of the log add
adds_logged : (page : ℕ) (log : List LogEntry) → weigh (logged_adds page) (all_numbered log) ≡ likes_in page (steps_in log)
adds_logged page log = by log ∙ sym (sum-weigh (adds_to page) (steps_in log)) where
  by : (log : List LogEntry) → weigh (logged_adds page) (all_numbered log) ≡ weigh (adds_to page) (steps_in log)
  by [] = refl
  by (Saw worker phase ∷ log) = let rest = by log in omega (arith, rest)
  by (Did s ∷ log) = ap (λ n. adds_to page s + n) (by log)

-- and those of one worker, phase by phase
pub adds_of_worker : (i k page : ℕ) (log : List LogEntry)
    → weigh (adds_in k page) (logged_by i log)
    ≡ weigh (λ s. only (s.phase == k) (adds_to page s)) (steps_by i (steps_in log))
adds_of_worker i k page [] = refl
adds_of_worker i k page (Saw worker phase ∷ log) = by (worker == i) (adds_of_worker i k page log) where
  by : (b : Bool)
      → weigh (adds_in k page) (logged_by i log)
      ≡ weigh (λ s. only (s.phase == k) (adds_to page s)) (steps_by i (steps_in log))
      → weigh (adds_in k page) (cond b (numbered (length log) (Saw worker phase) ∷ logged_by i log) (logged_by i log))
      ≡ weigh (λ s. only (s.phase == k) (adds_to page s)) (steps_by i (steps_in log))
  by true rest = let none = only-none (phase == k) in omega (arith, none, rest)
  by false rest = rest
adds_of_worker i k page (Did s ∷ log) = by (s.worker == i) (adds_of_worker i k page log) where
  by : (b : Bool)
      → weigh (adds_in k page) (logged_by i log)
      ≡ weigh (λ t. only (t.phase == k) (adds_to page t)) (steps_by i (steps_in log))
      → weigh (adds_in k page) (cond b (numbered (length log) (Did s) ∷ logged_by i log) (logged_by i log))
      ≡ weigh (λ t. only (t.phase == k) (adds_to page t))
      (cond b (s ∷ steps_by i (steps_in log)) (steps_by i (steps_in log)))
  by true rest = ap (λ n. only (s.phase == k) (adds_to page s) + n) rest
  by false rest = rest

below_all : (page n : ℕ) (log : List LogEntry) → length log ≤ n
    → weigh (adds_below n page) (all_numbered log) ≡ weigh (logged_adds page) (all_numbered log)
below_all page n [] most = refl
below_all page n (entry ∷ log) most =
    ap₂ (λ a b. a + b) (ap (λ b. only b (entry_adds page entry)) (below (length log) n (omega (arith, most))))
    (below_all page n log (omega (arith, most)))

-- a step found what those with lesser numbers left
pub found_at : (first : ℕ → ℕ) (last : ℕ) (log : List LogEntry) (n : ℕ) (s : PageStep)
    → AreInTurn first last (steps_in log) → IsAt log (numbered n (Did s))
    → s.found ≡ first s.page + weigh (adds_below n s.page) (all_numbered log)
found_at first last [] n s turn at = absurd at
found_at first last (Saw worker phase ∷ log) n s turn (inl here) = let clash = here.1 in absurd (cc)
found_at first last (Saw worker phase ∷ log) n s turn (inr there) =
    let rest = found_at first last log n s turn there in
    let none = only-none (nat_lt (length log) n) in
    omega (arith, rest, none)
found_at first last (Did t ∷ log) n s turn (inl here) =
    let is : s ≡ t = (let same = here.1 in cc) in
    let long : n ≡ length log = here.0 in
    let own : adds_below n t.page (numbered (length log) (Did t)) ≡ 0 =
    ap (λ b. only b (adds_to t.page t)) (not_below (length log) n (omega (arith, long))) in
    let rest = below_all t.page n log (omega (arith, long)) ∙ adds_logged t.page log in
    subst (λ (u : PageStep). u.found ≡ first u.page + weigh (adds_below n u.page) (all_numbered (Did t ∷ log))) (sym is)
    (omega (arith, turn.0, own, rest))
found_at first last (Did t ∷ log) n s turn (inr there) =
    let less = at_below log (numbered n (Did s)) there in
    let none : adds_below n s.page (numbered (length log) (Did t)) ≡ 0 =
    ap (λ b. only b (adds_to s.page t)) (not_below (length log) n (omega (arith, less))) in
    let rest = found_at first t.phase log n s turn.3 there in
    omega (arith, none, rest)
