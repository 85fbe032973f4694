-- Lists of several workers' elements, each with the number of an entry of the board's log, merged by these numbers.
use Rattle.std.proofs.Common.{◌≡◌, ℕ, suc, ◌+◌, ◌≤◌, ◌<◌, ◌⊎◌, inl, inr, Bool, true, false, nat_lt, ◌==◌, List, [], ◌∷◌, ◌++◌, take, drop, slice_get, Some, subst, ap, ap₂, sym, ◌∙◌, refl, arith, append-nil, eq-eqb, eqb-true}
use Rattle.std.specs.List.{AllByRecursion}
use Rattle.std.proofs.lemmas.Bool.{cases_lt, ltb-true}
use Rattle.like_core.specs.declared.log.LogEntry.{LogEntry}
use Rattle.like_core.specs.declared.log.LogEntry.TheVariants.{Did}
use Rattle.like_core.specs.declared.log.Logged.{Logged}
use Rattle.like_core.specs.declared.page_step.PageStep.{PageStep}
use Rattle.like_core.specs.Log.{PhasesRise, entry_phase, entry_worker, logged_by, numbered, steps_in}
use Rattle.like_core.specs.PageSteps.{AreInTurn}
use Rattle.like_core.proofs.views.Clock.{IsAt, at_phase, phases}
use Rattle.like_serial.proofs.Increasing.{Earlier, Pairwise, alone_above, blocks_rec, earlier_rises, filter_rec, front_none, pairwise_at, pairwise_filter, pairwise_sorted, rec_at, rises_with}
use Rattle.like_serial.proofs.Interleaved.{all_front, all_of, all_of-own, all_of-past, key_all, with_key}
use Rattle.like_serial.proofs.LogSteps.{adds_below, adds_in, all_at, all_numbered, by_worker, found_at, logged_adds, phase_logged, same_at}
use Rattle.like_serial.proofs.Parts.{at_place}
use Rattle.like_serial.proofs.Phases.{Rises, above, all_above, all_then, below, filter-swap, in_block, key_is, sorted, sorted-key, sorted-rises, sorted-same}
use Rattle.like_serial.proofs.Totals.{same_below, same_in_all, weigh-all_alike, weigh-sorted}
use Rattle.like_serial.proofs.Weigh.{only, weigh, weigh-both, weigh-filter}

-- what counts below a number: all of earlier phases, and of this phase those with a lesser number
by_phase : (low early here : Bool) (n : ℕ) → (early ≡ true → low ≡ true) → (low ≡ true → (early ≡ true) ⊎ (here ≡ true))
    → (early ≡ true → here ≡ true → ⊥)
    → only low n ≡ only early n + only low (only here n)
by_phase true true true n on split apart = absurd (apart refl refl)
by_phase true true false n on split apart = omega arith
by_phase true false true n on split apart = omega arith
by_phase true false false n on split apart = elim (split refl) [ inl e ↦ absurd (cc e) | inr e ↦ absurd (cc e) ]
by_phase false true here n on split apart = (let e = on refl in absurd (cc e))
by_phase false false here n on split apart = refl

module _ {X : Type 0} (key number phase : X → ℕ) (likes : ℕ → X → ℕ) (Shares : X → Type 0)
    (Shows : X → ℕ → ℕ → Type 0) (split : ℕ → ℕ → Bool) (first : ℕ → ℕ) (last : ℕ) (log : List LogEntry) (n : ℕ) (runs : ℕ → List X) where
  -- how many likes of a page an element counts in a phase
  abbrev pub likes_then : ℕ → ℕ → X → ℕ
  likes_then k page x = only (phase x == k) (likes page x)

  -- an element's number is that of an entry of its worker, of its phase
  pub record IsLogged (x : X) : Type 0 where
    pub entry : LogEntry
    pub at : IsAt log (numbered (number x) entry)
    pub by : entry_worker entry ≡ key x
    pub phase_is : entry_phase entry ≡ phase x

  -- one that shows a page's count is logged as a step there that found it, and the page isn't split then
  pub record IsReadAt (x : X) (page count : ℕ) : Type 0 where
    pub step : PageStep
    pub at : IsAt log (numbered (number x) (Did step))
    pub there : step.page ≡ page
    pub found : step.found ≡ count
    pub plain : split (phase x) page ≡ false

  -- the elements of each worker fit its entries
  pub record FitsLog : Type 0 where
    pub turn : AreInTurn first last (steps_in log)
    pub rising : PhasesRise last log
    pub own : (w : ℕ) → AllByRecursion (λ x. key x ≡ w) (runs w)
    pub past : (w : ℕ) → n ≤ w → runs w ≡ []
    pub numbers : (w : ℕ) → Pairwise (Earlier number Shares) (runs w)
    pub alone : (x : X) (page count : ℕ) → Shows x page count → Shares x → ⊥
    pub logged : (w : ℕ) → AllByRecursion IsLogged (runs w)
    pub reads : (w : ℕ) → AllByRecursion (λ x. (page count : ℕ) → Shows x page count → IsReadAt x page count) (runs w)
    -- those with a number below one count in a phase what the entries below it add, at a page that isn't split then
    pub plain : (w k page under : ℕ) → split k page ≡ false
        → weigh (λ x. only (nat_lt (number x) under) (likes_then k page x)) (runs w)
        ≡ weigh (λ e. only (nat_lt e.number under) (adds_in k page e)) (logged_by w log)
    -- and in each phase before the last they count all that its entries add
    pub totals : (w k page : ℕ) → k < last → weigh (likes_then k page) (runs w) ≡ weigh (adds_in k page) (logged_by w log)

  -- a merge of the lists by the numbers, along which phases never fall, in which each count shown has the likes before it
  pub record IsMerged (serial : List X) : Type 0 where
    pub own : (w : ℕ) → with_key key w serial ≡ runs w
    pub numbers : Pairwise (Earlier number Shares) serial
    pub rising : Rises phase serial
    pub counts : (i : ℕ) (x : X) (page count : ℕ) → slice_get serial i ≡ Some x → Shows x page count
        → count ≡ first page + weigh (likes page) (take i serial)

  module _ (fits : FitsLog) where
    abbrev all : List X
    all = all_of runs n

    abbrev bound : ℕ
    bound = above number all

    abbrev serial : List X
    serial = sorted number all bound

    all_own : (w : ℕ) → with_key key w all ≡ runs w
    all_own w = elim (cases_lt w n) [
      | inl less ↦ all_of-own key runs n w fits.own less
      | inr past ↦ all_of-past key runs n w fits.own past ∙ sym (fits.past w past)
    ]

    each_logged : AllByRecursion IsLogged all
    each_logged = blocks_rec IsLogged runs n fits.logged

    own : (w : ℕ) → with_key key w serial ≡ runs w
    own w =
        sorted-key key number w all bound
        ∙ sorted-same number (with_key key w all) bound
        (subst (Rises number) (sym (all_own w)) (earlier_rises number Shares (runs w) (fits.numbers w)))
        (filter_rec (λ x. number x < bound) (λ x. key x == w) all
        (all_then (λ x. number x < bound + 0) (λ x. number x < bound) all (λ x less. omega (arith, less))
        (all_above number 0 all)))
        ∙ all_own w

    -- numbers agree with phases
    in_time : (x y : X) → IsLogged x → IsLogged y → number x ≤ number y → phase x ≤ phase y
    in_time x y a b least = elim (cases_lt (phase y) (phase x)) [
      | inl later ↦
          let one = a.phase_is in
          let two = b.phase_is in
          let less = phases last log (numbered (number y) b.entry) (numbered (number x) a.entry) fits.rising b.at a.at
          (omega (arith, later, one, two)) in
          absurd (omega (arith, less, least))
      | inr not ↦ not
    ]

    -- all with one number are of one worker: who has it made the entry there
    keys_same : (x : X) → IsLogged x → (ys : List X) → AllByRecursion IsLogged ys
        → AllByRecursion (λ y. number y ≡ number x) ys → AllByRecursion (λ y. key y ≡ key x) ys
    keys_same x a [] each is = tt
    keys_same x a (y ∷ ys) each is = (
      sym each.0.by
          ∙ ap entry_worker
          (same_at log (number x) each.0.entry a.entry (subst (λ k. IsAt log (numbered k each.0.entry)) is.0 each.0.at) a.at)
          ∙ a.by,
      keys_same x a ys each.1 is.1,
    )

    one_in : (k : ℕ) (xs : List X) → with_key number k all ≡ xs → Pairwise (Earlier number Shares) xs
    one_in k [] is = tt
    one_in k (x ∷ xs) is =
        let each : AllByRecursion IsLogged (x ∷ xs) =
        subst (AllByRecursion IsLogged) is (filter_rec IsLogged (λ y. number y == k) all each_logged) in
        let numbers : AllByRecursion (λ y. number y ≡ k) (x ∷ xs) =
        subst (AllByRecursion (λ y. number y ≡ k)) is (key_is number k all) in
        let here = numbers.0 in
        let keys : AllByRecursion (λ y. key y ≡ key x) (x ∷ xs) = (
          refl,
          keys_same x each.0 xs each.1
              (all_then (λ y. number y ≡ k) (λ y. number y ≡ number x) xs (λ y same. same ∙ sym here) numbers.1),
        ) in
        let whose : with_key number k (runs (key x)) ≡ x ∷ xs =
        ap (with_key number k) (sym (all_own (key x)))
        ∙ filter-swap (λ y. number y == k) (λ y. key y == key x) all
        ∙ ap (with_key key (key x)) is
        ∙ key_all key (key x) (x ∷ xs) keys in
        subst (Pairwise (Earlier number Shares)) whose
        (pairwise_filter (Earlier number Shares) (λ y. number y == k) (runs (key x)) (fits.numbers (key x)))

    one : (k : ℕ) → Pairwise (Earlier number Shares) (with_key number k all)
    one k = one_in k (with_key number k all) refl

    -- elements below a number count what the entries below it add, in all earlier phases and at a plain page in this one
    module _ (x : X) (l : IsLogged x) (page : ℕ) (is_plain : split (phase x) page ≡ false) where
      abbrev now : ℕ
      now = number x

      within : phase x ≤ last
      within =
          let most = at_phase last log (numbered now l.entry) fits.rising l.at in
          let is = l.phase_is in
          omega (arith, most, is)

      phase_low : (k : ℕ) → k ≤ phase x → (nat_lt k (phase x) ≡ true) ⊎ ((k == phase x) ≡ true)
      phase_low k most = elim (cases_lt k (phase x)) [
        | inl less ↦ inl (below k (phase x) less)
        | inr least ↦ inr (eq-eqb k (phase x) (omega (arith, most, least)))
      ]

      phase_apart : (k : ℕ) → nat_lt k (phase x) ≡ true → (k == phase x) ≡ true → ⊥
      phase_apart k early same =
          let less = ltb-true k (phase x) early in
          let is = eqb-true k (phase x) same in
          absurd (omega (arith, less, is))

      below_now : (y : X) → IsLogged y
          → only (nat_lt (number y) now) (likes page y)
          ≡ only (nat_lt (phase y) (phase x)) (likes page y) + only (nat_lt (number y) now) (likes_then (phase x) page y)
      below_now y a =
          by_phase (nat_lt (number y) now) (nat_lt (phase y) (phase x)) (phase y == phase x) (likes page y)
          (λ early. below (number y) now (by_time (ltb-true (phase y) (phase x) early)))
          (λ low. phase_low (phase y) (in_time y x a l (let less = ltb-true (number y) now low in omega (arith, less))))
          (phase_apart (phase y)) where
            by_time : phase y < phase x → number y < now
            by_time less = elim (cases_lt (number y) now) [
              | inl low ↦ low
              | inr past ↦ let most = in_time x y l a past in absurd (omega (arith, most, less))
            ]

      below_logged : (e : Logged) → IsAt log e
          → adds_below now page e
          ≡ only (nat_lt (phase_logged e) (phase x)) (logged_adds page e) + only (nat_lt e.number now) (adds_in (phase x) page e)
      below_logged e at =
          by_phase (nat_lt e.number now) (nat_lt (phase_logged e) (phase x)) (phase_logged e == phase x)
          (logged_adds page e)
          (λ early. below e.number now (by_time (ltb-true (phase_logged e) (phase x) early)))
          (λ low. phase_low (phase_logged e) (no_later (ltb-true e.number now low)))
          (phase_apart (phase_logged e)) where
            by_time : phase_logged e < phase x → e.number < now
            by_time less =
                let is = l.phase_is in
                phases last log e (numbered now l.entry) fits.rising at l.at (omega (arith, less, is))

            no_later : e.number < now → phase_logged e ≤ phase x
            no_later less = elim (cases_lt (phase x) (phase_logged e)) [
              | inl later ↦
                  let is = l.phase_is in
                  let back = phases last log (numbered now l.entry) e fits.rising l.at at (omega (arith, later, is)) in
                  absurd (omega (arith, back, less))
              | inr most ↦ most
            ]

      -- what agrees for each worker agrees in all
      of_workers : (f : X → ℕ) (g : Logged → ℕ) → ((w : ℕ) → weigh f (runs w) ≡ weigh g (logged_by w log))
          → weigh f all ≡ weigh g (all_numbered log)
      of_workers f g each =
          same_in_all key f (λ (e : Logged). entry_worker e.entry) g all (all_numbered log)
          (λ w. sym (weigh-filter (λ (y : X). key y == w) f all) ∙ ap (weigh f) (all_own w) ∙ each w
          ∙ ap (weigh g) (sym (by_worker w log)) ∙ weigh-filter (λ (e : Logged). entry_worker e.entry == w) g (all_numbered log))

      early : weigh (λ y. only (nat_lt (phase y) (phase x)) (likes page y)) all
          ≡ weigh (λ e. only (nat_lt (phase_logged e) (phase x)) (logged_adds page e)) (all_numbered log)
      early =
          same_below phase (likes page) phase_logged (logged_adds page) all (all_numbered log) (phase x)
          (λ k less. of_workers (likes_then k page) (adds_in k page)
          (λ w. fits.totals w k page (let most = within in omega (arith, less, most))))

      all_below : weigh (λ y. only (nat_lt (number y) now) (likes page y)) all
          ≡ weigh (adds_below now page) (all_numbered log)
      all_below =
          weigh-all_alike (λ y. only (nat_lt (number y) now) (likes page y))
          (λ y. only (nat_lt (phase y) (phase x)) (likes page y) + only (nat_lt (number y) now) (likes_then (phase x) page y))
          all (all_then IsLogged _ all below_now each_logged)
          ∙ weigh-both _ (λ y. only (nat_lt (phase y) (phase x)) (likes page y))
          (λ y. only (nat_lt (number y) now) (likes_then (phase x) page y)) all (λ y. refl)
          ∙ ap₂ (λ a b. a + b) early
          (of_workers (λ y. only (nat_lt (number y) now) (likes_then (phase x) page y))
          (λ e. only (nat_lt e.number now) (adds_in (phase x) page e)) (λ w. fits.plain w (phase x) page now is_plain))
          ∙ sym
          (weigh-all_alike (adds_below now page)
          (λ e. only (nat_lt (phase_logged e) (phase x)) (logged_adds page e) + only (nat_lt e.number now) (adds_in (phase x) page e))
          (all_numbered log) (all_then (IsAt log) _ (all_numbered log) below_logged (all_at log))
          ∙ weigh-both _ (λ e. only (nat_lt (phase_logged e) (phase x)) (logged_adds page e))
          (λ e. only (nat_lt e.number now) (adds_in (phase x) page e)) (all_numbered log) (λ e. refl))

    serial_rec : (P : X → Type 0) → AllByRecursion P all → AllByRecursion P serial
    serial_rec P each =
        blocks_rec P (λ k. with_key number k all) bound (λ k. filter_rec P (λ x. number x == k) all each)

    counts : (i : ℕ) (x : X) (page count : ℕ) → slice_get serial i ≡ Some x → Shows x page count
        → count ≡ first page + weigh (likes page) (take i serial)
    counts i x page count at shows =
        let here = at_place serial i x at in
        let l = rec_at IsLogged (take i serial) x (drop (suc i) serial) serial (serial_rec IsLogged each_logged) here in
        let r = rec_at (λ y. (p c : ℕ) → Shows y p c → IsReadAt y p c) (take i serial) x (drop (suc i) serial) serial
        (serial_rec _ (blocks_rec (λ y. (p c : ℕ) → Shows y p c → IsReadAt y p c) runs n fits.reads)) here page count shows in
        let b = in_block (λ k. with_key number k all) bound (take i serial) x (drop (suc i) serial) here in
        let is : number x ≡ b.block =
        rec_at (λ y. number y ≡ b.block) b.front x b.rest (with_key number b.block all) (key_is number b.block all) b.is in
        let early = pairwise_at (Earlier number Shares) b.front x b.rest
        (subst (Pairwise (Earlier number Shares)) b.is (one b.block)) in
        let none : b.front ≡ [] = front_none number x b.block is b.front
        (alone_above number Shares x (fits.alone x page count shows) b.front early.0)
        (all_front (λ y. number y ≡ b.block) b.front (x ∷ b.rest)
        (subst (AllByRecursion (λ y. number y ≡ b.block)) b.is (key_is number b.block all))) in
        let before : take i serial ≡ sorted number all (number x) =
        b.fronts ∙ ap (λ xs. sorted number all b.block ++ xs) none ∙ append-nil (sorted number all b.block)
        ∙ ap (sorted number all) (sym is) in
        let found = found_at first last log (number x) r.step fits.turn r.at in
        let counted : r.step.found ≡ first page + weigh (adds_below (number x) page) (all_numbered log) =
        subst (λ p. r.step.found ≡ first p + weigh (adds_below (number x) p) (all_numbered log)) r.there found in
        let total = ap (weigh (likes page)) before ∙ weigh-sorted number (likes page) all (number x)
        ∙ all_below x l page r.plain in
        sym r.found ∙ counted ∙ ap (λ k. first page + k) (sym total)

    pub merged_by_number : (serial : List X) × IsMerged serial
    merged_by_number = (
      serial,
      record {
        own = own;
        numbers = pairwise_sorted (Earlier number Shares) number all (λ x y less. inl less) one bound;
        rising = rises_with number phase IsLogged serial in_time (serial_rec IsLogged each_logged)
            (sorted-rises number all bound);
        counts = counts;
      },
    )
