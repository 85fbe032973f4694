-- The count that a look shows, by the entries before it in a merge.
use Rattle.std.proofs.Common.{◌≡◌, ℕ, ◌+◌, Bool, true, false, not, cond, eqb, nat_lt, ◌==◌, List, [], ◌∷◌, ◌++◌, map, filter, reverse, Option, Some, None, option_and_then, true≢false, subst, subst₂, ap, ap₂, sym, ◌∙◌, refl, arith, eqb-true}
use Rattle.std.specs.List.{cons_option}
use Rattle.std.specs.Option.{option_map_or}
use Rattle.std.proofs.lemmas.List.Elements.{filter_map-append}
use Rattle.like_promises.specs.declared.log.Ran.{Ran}
use Rattle.like_promises.specs.Asked.{asked, asks}
use Rattle.like_promises.specs.Likes.{count_in, initial_count, likes_among, look_ran, page_asked}
use Rattle.like_promises.specs.Store.{Ask, like, look, refuse}
use Rattle.like_promises.specs.Workload.{Workload, is_split_in}
use Rattle.like_core.specs.declared.page_step.PageCall.TheVariants.{Add, Read}
use Rattle.like_core.specs.declared.page_step.PageStep.{PageStep}
use Rattle.like_core.specs.PageSteps.{AreInTurn, adds_to, likes_of}
use Rattle.like_serial.specs.StepsTold.{StepTold, count_told, is_plain, step_asked, step_ran, steps_ran, step_told}
use Rattle.like_serial.proofs.InTurn.{found_by_phase}
use Rattle.like_serial.proofs.Parts.{Mapped, Passed, mapped, passed, reversed}
use Rattle.like_serial.proofs.Seen.{not_some, some_is}
use Rattle.like_serial.proofs.Stores.{adds_by}
use Rattle.like_serial.proofs.Totals.{only-none, weigh-marks, weigh-reverse}
use Rattle.like_serial.proofs.Weigh.{only, sum-weigh, weigh, weigh-alike, weigh-filter}

-- how many likes of the page an entry ran: 1 or 0
abbrev pub likes_by : Workload → ℕ → Ran → ℕ
likes_by workload page e = option_map_or (adds_by page) (asked workload e.submitter e.number) 0

pub likes-weigh : (workload : Workload) (page : ℕ) (xs : List Ran)
    → likes_among workload page xs ≡ weigh (likes_by workload page) xs
likes-weigh workload page xs =
    sum-weigh (adds_by page) (asks workload xs)
    ∙ weigh-marks (adds_by page) (λ (e : Ran). asked workload e.submitter e.number) xs

-- what a step that is told adds to a page in a phase
abbrev pub told_adds : ℕ → ℕ → StepTold → ℕ
told_adds phase page t = only (t.phase == phase) (cond (t.page == page) (likes_of t.call) 0)

pub weigh-map : {X Y : Type 0} (f : Y → ℕ) (g : X → Y) (xs : List X) → weigh f (map g xs) ≡ weigh (λ x. f (g x)) xs
weigh-map f g [] = refl
weigh-map f g (x ∷ xs) = ap (λ n. f (g x) + n) (weigh-map f g xs)

-- what counts at a page in a phase counts nothing elsewhere
pub counts_there : (a b c : Bool) (n : ℕ)
    → (a ≡ true → b ≡ true → c ≡ true)
    → only a (cond b n 0) ≡ only c (only a (cond b n 0))
counts_there true true c n then = sym (ap (λ d. only d n) (then refl refl))
counts_there true false c n then = sym (only-none c)
counts_there false b c n then = sym (only-none c)

-- at a page that is plain in the phase, an entry's plain step adds what it likes
module _ (workload : Workload) (phase page : ℕ) (plain : is_split_in workload phase page ≡ false) where
  like_adds : (e : Ran) (liked : ℕ) (b : Bool)
      → is_split_in workload e.phase liked ≡ b
      → option_map_or (told_adds phase page)
      (cond b None (Some (record { phase = e.phase; page = liked; call = Add 1; count = 0 }))) 0
      ≡ only (e.phase == phase) (cond (liked == page) 1 0)
  like_adds e liked false is = refl
  like_adds e liked true is =
      sym
      (counts_there (eqb e.phase phase) (eqb liked page) false 1
      (λ here there. absurd
      (true≢false
      (sym is
      ∙ ap₂ (is_split_in workload) (eqb-true e.phase phase here) (eqb-true liked page there)
      ∙ plain))))

  asked_adds : (e : Ran) (o : Option Ask)
      → option_map_or (told_adds phase page) (option_and_then (step_asked workload e) o) 0
      ≡ only (e.phase == phase) (option_map_or (adds_by page) o 0)
  asked_adds e None = sym (only-none (e.phase == phase))
  asked_adds e (Some (like user liked)) = like_adds e liked (is_split_in workload e.phase liked) refl
  asked_adds e (Some (look user looked)) = ap (only (e.phase == phase)) (only-none (looked == page))
  asked_adds e (Some (refuse why)) = sym (only-none (e.phase == phase))

  pub entry_adds : (e : Ran)
      → option_map_or (told_adds phase page) (step_ran workload e) 0
      ≡ only (e.phase == phase) (likes_by workload page e)
  entry_adds e = asked_adds e (asked workload e.submitter e.number)

  -- and a step that counts there is plain
  pub step_plain : (s : PageStep)
      → only (s.phase == phase) (adds_to page s)
      ≡ only (is_plain workload s) (only (s.phase == phase) (adds_to page s))
  step_plain s =
      counts_there (eqb s.phase phase) (eqb s.page page) (is_plain workload s) (likes_of s.call)
      (λ here there. ap not
      (ap₂ (is_split_in workload) (eqb-true s.phase phase here) (eqb-true s.page page there) ∙ plain))

  -- so steps add what the entries like whose plain steps they are
  pub steps_like : (steps : List PageStep) (entries : List Ran)
      → map step_told (filter (is_plain workload) steps) ≡ steps_ran workload entries
      → weigh (λ s. only (s.phase == phase) (adds_to page s)) steps
      ≡ weigh (λ e. only (e.phase == phase) (likes_by workload page e)) entries
  steps_like steps entries same =
      weigh-alike (λ s. only (s.phase == phase) (adds_to page s))
      (λ s. only (is_plain workload s) (only (s.phase == phase) (adds_to page s))) steps step_plain
      ∙ sym (weigh-filter (is_plain workload) (λ s. only (s.phase == phase) (adds_to page s)) steps)
      ∙ sym (weigh-map (told_adds phase page) step_told (filter (is_plain workload) steps))
      ∙ ap (weigh (told_adds phase page)) same
      ∙ weigh-marks (told_adds phase page) (step_ran workload) entries
      ∙ weigh-alike (λ e. option_map_or (told_adds phase page) (step_ran workload e) 0)
      (λ e. only (e.phase == phase) (likes_by workload page e)) entries entry_adds

not_split : (b : Bool) → not b ≡ true → b ≡ false
not_split false is = refl
not_split true is = absurd (true≢false (sym is))

-- the plain step of a look
look_step : (workload : Workload) (e : Ran) (page : ℕ) → look_ran workload e ≡ Some page
    → step_ran workload e ≡ Some (record { phase = e.phase; page = page; call = Read; count = count_in e.reply })
look_step workload e page is = by (asked workload e.submitter e.number) is where
  by : (o : Option Ask) → option_and_then page_asked o ≡ Some page
      → option_and_then (step_asked workload e) o
      ≡ Some (record { phase = e.phase; page = page; call = Read; count = count_in e.reply })
  by None is = absurd (not_some page is)
  by (Some (like user liked)) is = absurd (not_some page is)
  by (Some (look user looked)) is =
      ap (λ (q : ℕ). Some (record { phase = e.phase; page = q; call = Read; count = count_in e.reply }))
      (some_is looked page is)
  by (Some (refuse why)) is = absurd (not_some page is)

-- the look at an entry: its read, among the steps
module _ (workload : Workload) (last : ℕ) (steps : List PageStep) (before : List Ran) (e : Ran) (after : List Ran)
    (page : ℕ) (turn : AreInTurn (initial_count workload.pages) last steps)
    (marks : steps_ran workload (before ++ e ∷ after) ≡ map step_told (filter (is_plain workload) (reverse steps)))
    (look : look_ran workload e ≡ Some page) where
  abbrev the_read : StepTold
  the_read = record { phase = e.phase; page = page; call = Read; count = count_in e.reply }

  in_marks : map step_told (filter (is_plain workload) (reverse steps))
      ≡ steps_ran workload before ++ the_read ∷ steps_ran workload after
  in_marks =
      sym marks ∙ filter_map-append (step_ran workload) before (e ∷ after)
      ∙ ap
      (λ o. steps_ran workload before ++ cons_option o (steps_ran workload after)) (look_step workload e page look)

  shown : (m : Mapped step_told (filter (is_plain workload) (reverse steps)) (steps_ran workload before) the_read
      (steps_ran workload after))
      → Passed (is_plain workload) (reverse steps) m.front m.source m.rest
      → count_in e.reply
      ≡ initial_count workload.pages page
      + (weigh (λ s. only (nat_lt s.phase e.phase) (adds_to page s)) steps
      + weigh (λ d. only (d.phase == e.phase) (likes_by workload page d)) before)
  shown m p =
      let s = m.source in
      let phase : s.phase ≡ e.phase = ap (λ (t : StepTold). t.phase) m.gives in
      let at : s.page ≡ page = ap (λ (t : StepTold). t.page) m.gives in
      let call : s.call ≡ Read = ap (λ (t : StepTold). t.call) m.gives in
      let count : s.found ≡ count_in e.reply =
      sym (ap (λ c. count_told c s.found) call) ∙ ap (λ (t : StepTold). t.count) m.gives
      in
      let plain : is_split_in workload e.phase page ≡ false =
      ap₂ (is_split_in workload) (sym phase) (sym at)
      ∙ not_split (is_split_in workload s.phase s.page) p.passes
      in
      let is : steps ≡ reverse p.rest ++ s ∷ reverse p.front = reversed steps p.front s p.rest p.is in
      let found = found_by_phase (initial_count workload.pages) last (reverse p.rest) s (reverse p.front)
      (subst (AreInTurn (initial_count workload.pages) last) is turn)
      in
      let all : s.found
      ≡ initial_count workload.pages page
      + (weigh (λ t. only (nat_lt t.phase e.phase) (adds_to page t)) steps
      + weigh (λ t. only (t.phase == e.phase) (adds_to page t)) (reverse p.front)) =
      subst
      (λ (xs : List PageStep). s.found
      ≡ initial_count workload.pages page
      + (weigh (λ t. only (nat_lt t.phase e.phase) (adds_to page t)) xs
      + weigh (λ t. only (t.phase == e.phase) (adds_to page t)) (reverse p.front)))
      (sym is)
      (subst₂
      (λ k q. s.found
      ≡ initial_count workload.pages q
      + (weigh (λ t. only (nat_lt t.phase k) (adds_to q t)) (reverse p.rest ++ s ∷ reverse p.front)
      + weigh (λ t. only (t.phase == k) (adds_to q t)) (reverse p.front)))
      phase at found)
      in
      let own : weigh (λ t. only (t.phase == e.phase) (adds_to page t)) (reverse p.front)
      ≡ weigh (λ d. only (d.phase == e.phase) (likes_by workload page d)) before =
      weigh-reverse (λ (t : PageStep). only (t.phase == e.phase) (adds_to page t)) p.front
      ∙ steps_like workload e.phase page plain p.front before (ap (map step_told) p.fronts ∙ m.fronts)
      in
      omega arith

  pub look_shows : count_in e.reply
      ≡ initial_count workload.pages page
      + (weigh (λ s. only (nat_lt s.phase e.phase) (adds_to page s)) steps
      + weigh (λ d. only (d.phase == e.phase) (likes_by workload page d)) before)
  look_shows =
      let m = mapped step_told (filter (is_plain workload) (reverse steps)) (steps_ran workload before) the_read
      (steps_ran workload after) in_marks
      in
      shown m (passed (is_plain workload) (reverse steps) m.front m.source m.rest m.is)
