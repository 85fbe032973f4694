-- At pages that are not split a seat's deeds count what its entries in the log add, number by number.
use Rattle.std.proofs.Common.{◌≡◌, ℕ, ◌==◌, nat_lt, Bool, true, false, List, [], ◌∷◌, ◌++◌, drop, map, get_or, refl, ap, ap₂, sym, ◌∙◌, subst, arith, eqb-true, true≢false}
use Rattle.std.specs.List.{All, AllByRecursion}
use Rattle.std.proofs.lemmas.List.Elements.{All-head, All-tail}
use Rattle.like_core.specs.declared.log.LogEntry.{LogEntry}
use Rattle.like_core.specs.declared.log.LogEntry.TheVariants.{Did}
use Rattle.like_core.specs.declared.log.Logged.{Logged}
use Rattle.like_core.specs.declared.page_step.PageStep.{PageStep}
use Rattle.like_core.specs.declared.view.Addition.{Addition}
use Rattle.like_core.specs.Log.{entry_phase, latest_number}
use Rattle.like_core.specs.PageSteps.{AddsSome, adds_to, earliest_first, step_adding, then_steps}
use Rattle.like_core.specs.WorkerState.{RunsSplit}
use Rattle.like_core.proofs.Steps.{then-earliest}
use Rattle.like_seat.specs.Merge.{LogsSteps}
use Rattle.like_seat.specs.StationView.{phase_at}
use Rattle.like_serial.proofs.Interleaved.{all_rest}
use Rattle.like_serial.proofs.LogSteps.{adds_in, entry_adds}
use Rattle.like_serial.proofs.Parts.{head_is, not_cons, tail_is}
use Rattle.like_serial.proofs.Phases.{all_append}
use Rattle.like_serial.proofs.Totals.{only-none}
use Rattle.like_serial.proofs.Weigh.{only, weigh, weigh-append}
use Rattle.like_live.specs.declared.asked.Found.{Found}
use Rattle.like_live.specs.LiveView.{LiveView}
use Rattle.like_live.specs.Moves.{step_for, with_found}
use Rattle.like_live.specs.Deeds.{Act, Deed, counted, deed, deed_now, deeds_found, glimpsed, made_since, showed}
use Rattle.like_live.proofs.DeedTotals.{deed_in}
use Rattle.like_live.proofs.Finding.{plain, running}
use Rattle.like_live.proofs.Ordered.{IsOrdered, is_split_here, ordered_back, split_in}
use Rattle.like_live.proofs.Running.{split_runs}
use Rattle.like_live.proofs.Standing.{IsKept, Stands}
use Rattle.like_live.proofs.Stepping.{Step, acknowledges, adds_like, done_by, finds, glances, holds, looks, next, reads, reports, retires, returns, slices_like, takes}

-- what a deed counts, and what an entry adds, if its number is below one
abbrev pub deed_under : (k page under : ℕ) → Deed → ℕ
deed_under k page under d = only (nat_lt d.number under) (deed_in k page d)

abbrev pub entry_under : (k page under : ℕ) → Logged → ℕ
entry_under k page under e = only (nat_lt e.number under) (adds_in k page e)

-- a look read a page that isn't split then
abbrev pub ReadsPlain : (split : Bool) → Act → Type 0
ReadsPlain split (showed s) = split ≡ false
ReadsPlain split act = Unit {0}

-- nothing counts if not two tests pass
never_both : (a b : Bool) (m : ℕ) → (a ≡ true → b ≡ true → ⊥) → only a (only b m) ≡ 0
never_both true true m never = absurd (never refl refl)
never_both true false m never = refl
never_both false b m never = refl

nothing : (a b c : Bool) → only a (only b (only c 0)) ≡ 0
nothing a b c = ap (λ n. only a (only b n)) (only-none c) ∙ ap (only a) (only-none b) ∙ only-none a

-- what is true of all steps, one after the other
then_rec : (P : PageStep → Type 0) (before steps : List PageStep) → AllByRecursion P before → AllByRecursion P steps
    → AllByRecursion P (then_steps before steps)
then_rec P before [] old new = old
then_rec P before (s ∷ steps) old new = then_rec P (s ∷ before) steps (new.0, old) new.1

module _ (first : LiveView) (masks : ℕ → ℕ) where
  abbrev split : ℕ → ℕ → Bool
  split = split_in first masks

  -- where a page isn't split in a phase, the deeds so far count what the seat's entries add; and all looks are at pages
  -- that are not split then
  pub record HasPlain (v : LiveView) (ds : List Deed) : Type 0 where
    pub counts : (k page under : ℕ) → split k page ≡ false
        → weigh (deed_under k page under) ds ≡ weigh (entry_under k page under) v.station.post.logged
    pub reads_plain : AllByRecursion (λ d. ReadsPlain (split d.phase d.page) d.act) ds

  -- deeds more and entries more, that count the same
  more : (v w : LiveView) (ds es : List Deed) (since : List Logged)
      → w.station.post.logged ≡ since ++ v.station.post.logged
      → ((k page under : ℕ) → split k page ≡ false
      → weigh (deed_under k page under) es ≡ weigh (entry_under k page under) since)
      → AllByRecursion (λ d. ReadsPlain (split d.phase d.page) d.act) es
      → HasPlain v ds → HasPlain w (ds ++ es)
  more v w ds es since logged same read h = record {
    counts = λ k page under is. omega (
      arith,
      weigh-append (deed_under k page under) ds es,
      h.counts k page under is,
      same k page under is,
      ap (weigh (entry_under k page under)) logged,
      weigh-append (entry_under k page under) since v.station.post.logged,
    );
    reads_plain = all_append (λ d. ReadsPlain (split d.phase d.page) d.act) ds es h.reads_plain read;
  }

  -- no deed, and nothing is added to such a page
  none : (v w : LiveView) (ds : List Deed) (since : List Logged) → w.station.post.logged ≡ since ++ v.station.post.logged
      → ((k page under : ℕ) → split k page ≡ false → weigh (entry_under k page under) since ≡ 0)
      → HasPlain v ds → HasPlain w (ds ++ [])
  none v w ds since logged adds h = more v w ds [] since logged (λ k page under is. sym (adds k page under is)) tt h

  -- a step that adds nothing to a page that isn't split then; and entries of such steps
  abbrev AddsNone : PageStep → Type 0
  AddsNone s = (k page : ℕ) → split k page ≡ false → only (s.phase == k) (adds_to page s) ≡ 0

  steps_none : (steps : List PageStep) (before after : List Logged) (logs : LogsSteps steps before after)
      → AllByRecursion AddsNone steps
      → (k page under : ℕ) → split k page ≡ false → weigh (entry_under k page under) logs.since ≡ 0
  steps_none steps before after logs all k page under is =
      by logs.since (then_steps [] steps) logs.made (then_rec AddsNone [] steps tt all) where
        by : (since : List Logged) (made : List PageStep) → map (λ e. e.entry) since ≡ map (λ s. Did s) made
            → AllByRecursion AddsNone made → weigh (entry_under k page under) since ≡ 0
        by [] made same none = refl
        by (e ∷ since) [] same none = absurd (not_cons e.entry (map (λ (f : Logged). f.entry) since) (sym same))
        by (e ∷ since) (s ∷ made) same none =
            let entry : e.entry ≡ Did s = head_is e.entry (Did s) _ _ same in
            let here : entry_under k page under e ≡ 0 =
            ap (λ (x : LogEntry). only (nat_lt e.number under) (only (entry_phase x == k) (entry_adds page x))) entry
            ∙ ap (only (nat_lt e.number under)) (none.0 k page is) ∙ only-none (nat_lt e.number under) in
            let rest = by since made (tail_is e.entry (Did s) _ _ same) none.1 in
            omega (arith, here, rest)

  -- found looks count nothing, their reads add nothing, and their pages are not split
  found_none : (k page under : ℕ) (entries : List Logged) (found : List Found)
      → weigh (deed_under k page under) (deeds_found entries found) ≡ 0
  found_none k page under entries [] = refl
  found_none k page under entries (f ∷ found) =
      let here : only (nat_lt (latest_number entries) under) (only (f.phase == k) 0) ≡ 0 =
      ap (only (nat_lt (latest_number entries) under)) (only-none (f.phase == k))
      ∙ only-none (nat_lt (latest_number entries) under) in
      let rest = found_none k page under (drop 1 entries) found in
      omega (arith, here, rest)

  reads_none : (worker : ℕ) (found : List Found) → AllByRecursion AddsNone (map (step_for worker) found)
  reads_none worker [] = tt
  reads_none worker (f ∷ found) = (
    (λ k page is. ap (only (f.phase == k)) (only-none (f.asked.page == page)) ∙ only-none (f.phase == k)),
    reads_none worker found,
  )

  found_plain : (entries : List Logged) (found : List Found) → All (λ f. split f.phase f.asked.page ≡ false) found
      → AllByRecursion (λ d. ReadsPlain (split d.phase d.page) d.act) (deeds_found entries found)
  found_plain entries [] all = tt
  found_plain entries (f ∷ found) all = (
    All-head (λ (g : Found). split g.phase g.asked.page ≡ false) f found all,
    found_plain (drop 1 entries) found (All-tail (λ (g : Found). split g.phase g.asked.page ≡ false) f found all),
  )

  -- what is done at a page that is split counts nothing elsewhere
  apart : (phase page k other m : ℕ) → split phase page ≡ true → split k other ≡ false
      → only (phase == k) (only (page == other) m) ≡ 0
  apart phase page k other m is not =
      never_both (phase == k) (page == other) m
      (λ here there. absurd
      (true≢false (sym is ∙ ap₂ split (eqb-true phase k here) (eqb-true page other there) ∙ not)))

  -- a merge's additions are all of split pages
  merges_none : (v : LiveView) → Stands first v → IsOrdered masks v → RunsSplit v.station.post.state
      → (adds : List Addition)
      → All (λ a. a.likes ≡ get_or v.station.slice a.page 0) adds → All (λ a. a.phase ≡ phase_at v.station) adds
      → AllByRecursion (λ s. AddsSome s.call) (map (step_adding v.station.post.worker) adds)
      → AllByRecursion AddsNone (map (step_adding v.station.post.worker) adds)
  merges_none v k o runs [] likes phases some = tt
  merges_none v k o runs (a ∷ adds) likes phases some =
      let many = All-head (λ (b : Addition). b.likes ≡ get_or v.station.slice b.page 0) a adds likes in
      let least = some.0 in
      let here = k.split a.page (λ none. absurd (omega (arith, none, many, least))) in
      let is : split a.phase a.page ≡ true =
      ap (λ n. split n a.page) (All-head (λ (b : Addition). b.phase ≡ phase_at v.station) a adds phases)
      ∙ sym (is_split_here first masks v a.page k o (split_runs v.station.post.state runs))
      ∙ here.1 in (
        (λ n page plain. apart a.phase a.page n page a.likes is plain),
        merges_none v k o runs adds (All-tail (λ (b : Addition). b.likes ≡ get_or v.station.slice b.page 0) a adds likes)
            (All-tail (λ (b : Addition). b.phase ≡ phase_at v.station) a adds phases) some.1,
      )

  plain_next : (v : LiveView) (s : Step v) (ds : List Deed) → Stands first v → IsOrdered masks (next v s)
      → HasPlain v ds → HasPlain (next v s) (ds ++ done_by v s)
  plain_next v (looks sight mask number can) ds k o h =
      none v _ ds (_ ∷ []) refl
      (λ n page under is. let e = nothing (nat_lt number under) (sight.number == n) true in omega (arith, e)) h
  plain_next v (finds found logged joined order shown logs) ds k o h =
      let before = ordered_back first masks v (finds found logged joined order shown logs) k o in
      let entries = made_since v (with_found v found logged) in
      let steps = map (step_for v.station.post.worker) found in
      more v _ ds (deeds_found entries found) logs.since logs.logged
      (λ n page under is. found_none n page under entries found
      ∙ sym (steps_none steps v.station.post.logged logged logs (reads_none v.station.post.worker found) n page under is))
      (found_plain entries found
      (λ i d below. let f = get_or found i d in
      ap (λ n. split n f.asked.page) (shown i d below).phase
      ∙ sym (is_split_here first masks v f.asked.page k before (running v.station.post.state joined))
      ∙ plain v.station.post f.asked.page joined))
      h
  plain_next v (acknowledges joined) ds k o h = none v _ ds [] refl (λ n page under is. refl) h
  plain_next v (reports adds logged runs merges logs) ds k o h =
      let before = ordered_back first masks v (reports adds logged runs merges logs) k o in
      let steps = map (step_adding v.station.post.worker) adds in
      none v _ ds logs.since logs.logged
      (steps_none steps v.station.post.logged logged logs
      (merges_none v k before runs adds merges.likes_are merges.phase_is
      (all_rest (λ (t : PageStep). AddsSome t.call) (earliest_first v.station.post.did) steps
      (subst (AllByRecursion (λ (t : PageStep). AddsSome t.call)) (then-earliest v.station.post.did steps) o.some))))
      h
  plain_next v (retires joined) ds k o h = none v _ ds [] refl (λ n page under is. refl) h
  plain_next v (returns phase mask number gone) ds k o h =
      none v _ ds (_ ∷ []) refl
      (λ n page under is. let e = nothing (nat_lt number under) (phase == n) true in omega (arith, e)) h
  plain_next v takes ds k o h = none v _ ds [] refl (λ n page under is. refl) h
  plain_next v (slices_like user page is) ds k o h =
      let before = ordered_back first masks v (slices_like user page is) k o in
      let there = sym (is_split_here first masks v page k before is.runs) ∙ is.at in
      more v _ ds (deed_now v user page counted ∷ []) [] refl
      (λ n other under not.
      let d = deed_now v user page counted in
      let none = ap (only (nat_lt d.number under)) (apart (phase_at v.station) page n other 1 there not)
      ∙ only-none (nat_lt d.number under) in
      omega (arith, none))
      (tt, tt) h
  plain_next v (adds_like user page old number is) ds k o h =
      more v _ ds (deed number (phase_at v.station) user page counted ∷ []) (_ ∷ []) refl (λ n other under not. refl)
      (tt, tt) h
  plain_next v (reads user page shown number is last) ds k o h =
      let before = ordered_back first masks v (reads user page shown number is last) k o in
      let there = sym (is_split_here first masks v page k before is.runs) ∙ is.at in
      more v _ ds (deed number (phase_at v.station) user page (showed shown) ∷ []) (_ ∷ []) refl
      (λ n other under not.
      let a = nothing (nat_lt number under) (phase_at v.station == n) true in
      let b = nothing (nat_lt number under) (phase_at v.station == n) (page == other) in
      omega (arith, a, b))
      (there, tt) h
  plain_next v (glances user page count shown number is last) ds k o h =
      more v _ ds (deed number (phase_at v.station) user page (glimpsed shown) ∷ []) (_ ∷ []) refl
      (λ n other under not.
      let a = nothing (nat_lt number under) (phase_at v.station == n) true in
      let b = nothing (nat_lt number under) (phase_at v.station == n) (page == other) in
      omega (arith, a, b))
      (tt, tt) h
  plain_next v (holds user page tag is) ds k o h = none v _ ds [] refl (λ n page under is. refl) h

  pub plain_kept : IsKept first (IsOrdered masks) HasPlain
  plain_kept = record { back = ordered_back first masks; kept = plain_next }
