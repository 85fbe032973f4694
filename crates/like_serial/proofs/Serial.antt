-- Run lists that one order of page steps fits are serial.
use Rattle.std.proofs.Common.{◌≡◌, ℕ, zero, suc, ◌+◌, ◌≤◌, ◌<◌, Bool, cond, nat_lt, ◌==◌, List, [], ◌∷◌, length, take, drop, map, filter, reverse, Some, subst, ap, ap₂, sym, ◌∙◌, refl, arith, eqb-true, true, false}
use Rattle.std.specs.List.{AllByRecursion}
use Rattle.like_tables.specs.Share.{worker_of}
use Rattle.like_promises.specs.declared.log.Ran.{Ran}
use Rattle.like_promises.specs.Likes.{count_in, initial_count, likes_among, look_ran}
use Rattle.like_promises.specs.Serial.{AreRising, HasExactCounts, IsSerial, run_of}
use Rattle.like_promises.specs.Workload.{Workload}
use Rattle.like_serial.specs.Laws.{RunsAreSerial}
use Rattle.like_core.specs.declared.page_step.PageStep.{PageStep}
use Rattle.like_core.specs.PageSteps.{adds_to}
use Rattle.like_core.proofs.Steps.{by-earliest}
use Rattle.like_serial.specs.RunLists.{AreRunLists, FitsRunList, FitsRuns}
use Rattle.like_serial.specs.StepsTold.{is_plain, step_ran, steps_ran, step_told}
use Rattle.like_serial.proofs.OneThread.{serial_is_one_thread}
use Rattle.like_serial.proofs.Answers.{answers_of_own}
use Rattle.like_serial.proofs.Counts.{likes-weigh, likes_by, look_shows}
use Rattle.like_serial.proofs.Growth.{within-weigh}
use Rattle.like_serial.proofs.Interleaved.{Interleaved, interleaved, with_key}
use Rattle.like_serial.proofs.Parts.{Passed, at_place, passed}
use Rattle.like_serial.proofs.Phases.{InBlock, above, all_above, all_rec, filter-swap, in_block, pairs_of, rises_of, sorted, sorted-key, sorted-rises, sorted-same}
use Rattle.like_serial.proofs.Totals.{same_below, same_in_all, weigh-reverse, weigh-sorted}
use Rattle.like_serial.proofs.Weigh.{only, sum-weigh, weigh, weigh-append, weigh-filter}

-- a worker that isn't there has run nothing
pub no_run : (runs : List (List Ran)) (w : ℕ) → length runs ≤ w → run_of runs w ≡ []
no_run [] w past = refl
no_run (run ∷ runs) zero past = absurd (omega (arith, past))
no_run (run ∷ runs) (suc w) past = no_run runs w (omega (arith, past))

-- whose an entry is
abbrev pub server_of : ℕ → Ran → ℕ
server_of workers e = worker_of workers e.submitter

abbrev pub phase_of : Ran → ℕ
phase_of e = e.phase

module _ (workload : Workload) (workers last : ℕ) (runs : List (List Ran)) (steps : List PageStep)
    (lists : AreRunLists workload workers runs) (fits : FitsRuns workload runs last steps) where
  abbrev own_steps : ℕ → List PageStep → List PageStep
  own_steps w all = filter (λ s. s.worker == w) (reverse all)

  -- each worker's steps in their order fit its run list
  each : (w : ℕ) → FitsRunList workload (own_steps w steps) (run_of runs w)
  each w = subst (λ did. FitsRunList workload did (run_of runs w)) (by-earliest w steps) (fits.each w)

  abbrev Merged : Type 0
  Merged =
      Interleaved (server_of workers) (step_ran workload) step_told (filter (is_plain workload) (reverse steps)) (run_of runs)

  -- a merge of the run lists that has their plain steps in the order of all
  merged : Merged
  merged =
      interleaved (server_of workers) (step_ran workload) (λ (s : PageStep). s.worker) step_told (length runs)
      (filter (is_plain workload) (reverse steps)) (run_of runs)
      (λ w. all_rec (λ e. server_of workers e ≡ w) (run_of runs w) (lists.own w))
      (λ w past. no_run runs w past)
      (λ w. ap (map step_told) (filter-swap (λ (s : PageStep). s.worker == w) (is_plain workload) (reverse steps))
      ∙ (each w).plain)

  module _ (m : Merged) where
    abbrev bound : ℕ
    bound = above phase_of m.entries

    -- sorted by phase
    abbrev serial : List Ran
    serial = sorted phase_of m.entries bound

    each_below : (w : ℕ) → AllByRecursion (λ e. phase_of e < bound) (with_key (server_of workers) w m.entries)
    each_below w = all_filter m.entries (all_above phase_of 0 m.entries) where
      add : (b : Bool) (e : Ran) (xs : List Ran)
          → e.phase < bound
          → AllByRecursion (λ e. phase_of e < bound) xs
          → AllByRecursion (λ e. phase_of e < bound) (cond b (e ∷ xs) xs)
      add true e xs less all = (less, all)
      add false e xs less all = all

      all_filter : (xs : List Ran)
          → AllByRecursion (λ e. phase_of e < bound + 0) xs
          → AllByRecursion (λ e. phase_of e < bound) (with_key (server_of workers) w xs)
      all_filter [] all = tt
      all_filter (e ∷ xs) all =
          add (server_of workers e == w) e (with_key (server_of workers) w xs) (omega (arith, all.0)) (all_filter xs all.1)

    own : (w : ℕ) → with_key (server_of workers) w serial ≡ run_of runs w
    own w =
        sorted-key (server_of workers) phase_of w m.entries bound
        ∙ sorted-same phase_of (with_key (server_of workers) w m.entries) bound
        (rises_of phase_of (with_key (server_of workers) w m.entries)
        (subst (λ xs. AreRising xs) (sym (m.own w)) (lists.rising w)))
        (each_below w)
        ∙ m.own w

    -- in each phase, the steps of all workers add to a page what its entries like
    worker_adds : (page phase w : ℕ)
        → weigh (λ (s : PageStep). only (s.worker == w) (only (s.phase == phase) (adds_to page s))) steps
        ≡ weigh (λ (e : Ran). only (server_of workers e == w) (only (e.phase == phase) (likes_by workload page e)))
        m.entries
    worker_adds page phase w =
        sym
        (weigh-reverse (λ (s : PageStep). only (s.worker == w) (only (s.phase == phase) (adds_to page s))) steps)
        ∙ sym
        (weigh-filter (λ (s : PageStep). s.worker == w) (λ s. only (s.phase == phase) (adds_to page s)) (reverse steps))
        ∙ sym (weigh-filter (λ (s : PageStep). s.phase == phase) (adds_to page) (own_steps w steps))
        ∙ sym (sum-weigh (adds_to page) (filter (λ (s : PageStep). s.phase == phase) (own_steps w steps)))
        ∙ (each w).by_phase phase page
        ∙ within-weigh workload page (run_of runs w) phase
        ∙ ap (weigh (λ (e : Ran). only (e.phase == phase) (likes_by workload page e))) (sym (m.own w))
        ∙ weigh-filter (λ (e : Ran). server_of workers e == w)
        (λ e. only (e.phase == phase) (likes_by workload page e)) m.entries

    below_adds : (page phase : ℕ)
        → weigh (λ (s : PageStep). only (nat_lt s.phase phase) (adds_to page s)) steps
        ≡ weigh (λ (e : Ran). only (nat_lt e.phase phase) (likes_by workload page e)) m.entries
    below_adds page phase =
        same_below (λ (s : PageStep). s.phase) (adds_to page) phase_of (likes_by workload page) steps m.entries phase
        (λ k less. same_in_all (λ (s : PageStep). s.worker) (λ s. only (s.phase == k) (adds_to page s)) (server_of workers)
        (λ e. only (e.phase == k) (likes_by workload page e)) steps m.entries (worker_adds page k))

    counts_at : (before : List Ran) (e : Ran) (page : ℕ)
        → look_ran workload e ≡ Some page
        → (b : InBlock (λ k. with_key phase_of k m.entries) bound before e)
        → Passed (λ (d : Ran). d.phase == b.block) m.entries b.front e b.rest
        → count_in e.reply ≡ initial_count workload.pages page + likes_among workload page before
    counts_at before e page look b p =
        let phase : e.phase ≡ b.block = eqb-true e.phase b.block p.passes in
        let shows = look_shows workload last steps p.front e p.rest page fits.in_turn
        (ap (steps_ran workload) (sym p.is) ∙ m.marks) look
        in
        let likes : Ran → ℕ = likes_by workload page in
        let all : likes_among workload page before
        ≡ weigh (λ (d : Ran). only (nat_lt d.phase e.phase) (likes d)) m.entries
        + weigh (λ (d : Ran). only (d.phase == e.phase) (likes d)) p.front =
        likes-weigh workload page before
        ∙ ap (weigh likes) b.fronts
        ∙ weigh-append likes (sorted phase_of m.entries b.block) b.front
        ∙ ap₂ (λ x y. x + y) (weigh-sorted phase_of likes m.entries b.block)
        (ap (weigh likes) (sym p.fronts) ∙ weigh-filter (λ (d : Ran). d.phase == b.block) likes p.front)
        ∙ ap
        (λ k. weigh (λ (d : Ran). only (nat_lt d.phase k) (likes d)) m.entries
        + weigh (λ (d : Ran). only (d.phase == k) (likes d)) p.front)
        (sym phase)
        in
        let early = below_adds page e.phase in
        omega arith

    counts : HasExactCounts workload serial
    counts i page e at look =
        let b = in_block (λ k. with_key phase_of k m.entries) bound (take i serial) e (drop (suc i) serial)
        (at_place serial i e at)
        in
        counts_at (take i serial) e page look b
        (passed (λ (d : Ran). d.phase == b.block) m.entries b.front e b.rest b.is)

    is_serial : IsSerial workload workers runs serial
    is_serial = record {
      own = own;
      rising = pairs_of phase_of serial (sorted-rises phase_of m.entries bound);
      replies = serial_is_one_thread workload serial
          (answers_of_own workload workers (run_of runs) serial own lists.answers) counts;
    }

pub runs_are_serial : RunsAreSerial
runs_are_serial workload workers last runs steps lists fits =
    let m = merged workload workers last runs steps lists fits in (
      serial workload workers last runs steps lists fits m,
      is_serial workload workers last runs steps lists fits m,
    )
