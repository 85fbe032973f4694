-- What steps in turn find and leave lies between what was added before.
use Rattle.std.proofs.Common.{◌≡◌, ℕ, ◌+◌, ◌≤◌, ◌==◌, ◌&&◌, nat_lt, Bool, true, false, cond, filter, List, [], ◌∷◌, ◌++◌, slice_index, subst, ap, ◌∙◌, refl, arith, eq-eqb}
use Rattle.std.specs.List.{sum_by}
use Rattle.std.proofs.lemmas.Bool.{le-ltb, lt-ltb}
use Rattle.like_core.specs.declared.page_step.PageStep.{PageStep}
use Rattle.like_core.specs.declared.view.Addition.{Addition}
use Rattle.like_core.specs.Additions.{added_before, added_in}
use Rattle.like_core.specs.PageSteps.{AreInTurn, additions_among, likes_in, likes_of, steps_by}
use Rattle.like_core.specs.views.Reads.{IsBetween}
use Rattle.like_core.proofs.Totals.{added-in, before_one, none_later, one_more, own_less}
use Rattle.like_core.proofs.core.Labels.{added_before-next}

-- an addition counts for none before its phase
pub not_before : (now phase n : ℕ) (page : Bool) → phase ≤ now → cond {A = ℕ} (nat_lt now phase && page) n 0 ≡ 0
not_before now phase n page past = ap (λ (b : Bool). cond {A = ℕ} (b && page) n 0) (le-ltb now phase past)

-- how much steps have added to a page before a phase
abbrev pub steps_before : List PageStep → ℕ → ℕ → ℕ
steps_before steps phase page = added_before phase page (additions_among steps)

-- the additions of two parts of a list count what those of the list do
pub sum_parts : (f : Addition → ℕ) (later earlier : List PageStep)
    → sum_by f (additions_among (later ++ earlier))
    ≡ sum_by f (additions_among later) + sum_by f (additions_among earlier)
sum_parts f [] earlier = omega arith
sum_parts f (s ∷ later) earlier =
    let rest = sum_parts f later earlier in
    let all = one_more f (additions_among (later ++ earlier)) s.phase s.page s.found s.call in
    let own = one_more f (additions_among later) s.phase s.page s.found s.call in
    omega arith

-- the parts of a list of steps, by those of what passes a test
record Parts (test : PageStep → Bool) (steps later : List PageStep) (s : PageStep) (earlier : List PageStep) : Type 0 where
  pub after : List PageStep
  pub before : List PageStep
  pub whole : steps ≡ after ++ s ∷ before
  pub later_is : filter test after ≡ later
  pub earlier_is : filter test before ≡ earlier

in_parts : (test : PageStep → Bool) (steps later : List PageStep) (s : PageStep) (earlier : List PageStep)
    → filter test steps ≡ later ++ s ∷ earlier
    → Parts test steps later s earlier
in_parts test [] [] s earlier is = absurd (cc is)
in_parts test [] (l ∷ later) s earlier is = absurd (cc is)
in_parts test (x ∷ steps) later s earlier is = by (test x) refl later is (λ ls. in_parts test steps ls s earlier) where
  more : (ls : List PageStep) (b : Bool) → test x ≡ b → Parts test steps ls s earlier
      → Parts test (x ∷ steps) (cond b (x ∷ ls) ls) s earlier
  more ls b passes p = record {
    after = x ∷ p.after;
    before = p.before;
    whole = ap (λ xs. x ∷ xs) p.whole;
    later_is = (λ m. cond (passes m) (x ∷ p.later_is m) (p.later_is m));
    earlier_is = p.earlier_is;
  }

  by : (b : Bool) → test x ≡ b → (ls : List PageStep)
      → cond b (x ∷ filter test steps) (filter test steps) ≡ ls ++ s ∷ earlier
      → ((ms : List PageStep) → filter test steps ≡ ms ++ s ∷ earlier → Parts test steps ms s earlier)
      → Parts test (x ∷ steps) ls s earlier
  by false passes ls same rest = more ls false passes (rest ls same)
  by true passes [] same rest =
      record { after = []; before = steps; whole = ap (λ y. y ∷ steps) (cc same); later_is = refl; earlier_is = cc same }
  by true passes (l ∷ ls) same rest =
      let here : x ≡ l = cc same in
      subst (λ y. Parts test (x ∷ steps) (y ∷ ls) s earlier) here (more ls true passes (rest ls (cc same)))

-- of steps in turn, one found what those before it left, and those after it are of no earlier phase
turn_at : (first : ℕ → ℕ) (last : ℕ) (after : List PageStep) (s : PageStep) (before : List PageStep)
    → AreInTurn first last (after ++ s ∷ before)
    → (s.found ≡ first s.page + likes_in s.page before) × (s.phase ≤ last) × AreInTurn first s.phase before
    × ((page : ℕ) → added_before s.phase page (additions_among after) ≡ 0)
turn_at first last [] s before turn = (turn.0, turn.1, turn.3, λ page. refl)
turn_at first last (x ∷ after) s before turn =
    let rest = turn_at first x.phase after s before turn.3 in
    let within = rest.1 in
    let on = turn.1 in (
      rest.0,
      omega arith,
      rest.2,
      λ page.
          let one = before_one (additions_among after) x.phase x.page x.found x.call s.phase page in
          let none = not_before x.phase s.phase (likes_of x.call) (x.page == page) within in
          let others = rest.3 page in
          omega arith,
    )

-- each step of a worker, of steps in turn
pub own_between : (counts : List ℕ) (last i : ℕ) (steps later : List PageStep) (s : PageStep) (earlier : List PageStep)
    → AreInTurn (slice_index counts) last steps
    → steps_by i steps ≡ later ++ s ∷ earlier
    → (s.phase ≤ last) × IsBetween counts (steps_before steps) later s earlier
own_between counts last i steps later s earlier turn is = (t.1, record { least = low; most = high })
  where
    p : Parts (λ x. x.worker == i) steps later s earlier
    p = in_parts (λ x. x.worker == i) steps later s earlier is

    after : List PageStep
    after = p.after

    before : List PageStep
    before = p.before

    first : ℕ → ℕ
    first = slice_index counts

    t : (s.found ≡ first s.page + likes_in s.page before) × (s.phase ≤ last) × AreInTurn first s.phase before
        × ((page : ℕ) → added_before s.phase page (additions_among after) ≡ 0)
    t = turn_at first last after s before (subst (AreInTurn first last) p.whole turn)

    -- how much is added before a phase, by parts
    all : (phase : ℕ)
        → steps_before steps phase s.page
        ≡ steps_before after phase s.page
        + (steps_before before phase s.page + cond (nat_lt s.phase phase && (s.page == s.page)) (likes_of s.call) 0)
    all phase =
        let whole = ap (λ xs. steps_before xs phase s.page) p.whole in
        let both = sum_parts (λ (a : Addition). cond (nat_lt a.phase phase && (a.page == s.page)) a.likes 0) after
        (s ∷ before) in
        let one = before_one (additions_among before) s.phase s.page s.found s.call phase s.page in
        omega arith

    -- how much in the phase of the step
    in_phase : Addition → ℕ
    in_phase a = cond ((a.phase == s.phase) && (a.page == s.page)) a.likes 0

    found : s.found ≡ slice_index counts s.page + (steps_before before s.phase s.page + added_in s.phase s.page (additions_among before))
    found =
        let here = t.0 in
        let likes = added-in s.page before in
        let past = none_later first s.phase (s.phase + 1) s.page before t.2 (omega arith) in
        let next = added_before-next (additions_among before) s.phase s.page in
        omega arith

    low : slice_index counts s.page + steps_before steps s.phase s.page
        + added_in s.phase s.page (additions_among earlier) ≤ s.found
    low =
        let sum = all s.phase in
        let none = not_before s.phase s.phase (likes_of s.call) (s.page == s.page) (omega arith) in
        let none_after = t.3 s.page in
        let own = own_less (λ (a : Addition). cond ((a.phase == s.phase) && (a.page == s.page)) a.likes 0) i before in
        let same = ap (λ xs. added_in s.phase s.page (additions_among xs)) p.earlier_is in
        let here = found in
        omega arith

    high : s.found + likes_of s.call + added_in s.phase s.page (additions_among later)
        ≤ slice_index counts s.page + steps_before steps (s.phase + 1) s.page
    high =
        let sum = all (s.phase + 1) in
        let one : cond (nat_lt s.phase (s.phase + 1) && (s.page == s.page)) (likes_of s.call) 0 ≡ likes_of s.call =
        ap (λ (b : Bool). cond (b && (s.page == s.page)) (likes_of s.call) 0) (lt-ltb s.phase (s.phase + 1) (omega arith))
        ∙ ap (λ (b : Bool). cond b (likes_of s.call) 0) (eq-eqb s.page s.page refl) in
        let next = added_before-next (additions_among before) s.phase s.page in
        let next_after = added_before-next (additions_among after) s.phase s.page in
        let none_after = t.3 s.page in
        let own = own_less (λ (a : Addition). cond ((a.phase == s.phase) && (a.page == s.page)) a.likes 0) i after in
        let same = ap (λ xs. added_in s.phase s.page (additions_among xs)) p.later_is in
        let here = found in
        omega arith
