-- How much the additions among steps have.
use Rattle.std.proofs.Common.{◌≡◌, ◌≢◌, ℕ, ◌+◌, ◌<◌, ◌≤◌, ◌==◌, ◌&&◌, nat_lt, inl, inr, Bool, true, false, cond, List, [], ◌∷◌, ap, sym, refl, arith, eq-eqb}
use Rattle.std.specs.List.{All, count_by, sum_by}
use Rattle.std.proofs.lemmas.Bool.{cases_eq, cond-true, ne_eqb, lt-ltb}
use Rattle.std.proofs.lemmas.List.Elements.{All-head, All-tail}
use Rattle.std.proofs.lemmas.List.Sums.{sum_by-cons, sum_by_push}
use Rattle.like_core.specs.declared.page_step.PageCall.{PageCall}
use Rattle.like_core.specs.declared.page_step.PageCall.TheVariants.{Add, Read, Glance}
use Rattle.like_core.specs.declared.page_step.PageStep.{PageStep}
use Rattle.like_core.specs.declared.view.Addition.{Addition}
use Rattle.like_core.specs.Additions.{addition, added_before, added_to}
use Rattle.like_core.specs.PageSteps.{AreInTurn, additions_among, adds_to, and_addition, likes_in, likes_of, steps_by}
use Rattle.like_core.proofs.core.Labels.{added_before-push, added_to-push}

-- nothing is the same whether it counts or not
pub cond_none : (b : Bool) → cond {A = ℕ} b 0 0 ≡ 0
cond_none true = refl
cond_none false = refl

-- one call more adds this to a page
pub to_one : (xs : List Addition) (k p found : ℕ) (call : PageCall) (page : ℕ)
    → added_to page (and_addition xs k p found call) ≡ added_to page xs + cond (p == page) (likes_of call) 0
to_one xs k p found (Add n) page = added_to-push xs k p found n page
to_one xs k p found Read page = let none = cond_none (p == page) in omega arith
to_one xs k p found Glance page = let none = cond_none (p == page) in omega arith

-- and this before a phase
pub before_one : (xs : List Addition) (k p found : ℕ) (call : PageCall) (phase page : ℕ)
    → added_before phase page (and_addition xs k p found call)
    ≡ added_before phase page xs + cond (nat_lt k phase && (p == page)) (likes_of call) 0
before_one xs k p found (Add n) phase page = added_before-push xs k p found n phase page
before_one xs k p found Read phase page = let none = cond_none (nat_lt k phase && (p == page)) in omega arith
before_one xs k p found Glance phase page = let none = cond_none (nat_lt k phase && (p == page)) in omega arith

-- the likes that steps add to a page are those of the additions among them
pub added-in : (page : ℕ) (steps : List PageStep) → added_to page (additions_among steps) ≡ likes_in page steps
added-in page [] = refl
added-in page (s ∷ before) =
    let rest = added-in page before in
    let more = sum_by-cons (adds_to page) s before in
    let here = to_one (additions_among before) s.phase s.page s.found s.call page in
    omega arith

-- of steps in turn none adds in a later phase
pub none_later : (first : ℕ → ℕ) (last later page : ℕ) (steps : List PageStep)
    → AreInTurn first last steps
    → last < later
    → added_before later page (additions_among steps) ≡ added_to page (additions_among steps)
none_later first last later page [] turn past = refl
none_later first last later page (s ∷ before) turn past =
    let within = turn.1 in
    let rest = none_later first s.phase later page before turn.3 (omega arith) in
    let one = before_one (additions_among before) s.phase s.page s.found s.call later page in
    let all = to_one (additions_among before) s.phase s.page s.found s.call page in
    let same : cond (nat_lt s.phase later && (s.page == page)) (likes_of s.call) 0 ≡ cond (s.page == page) (likes_of s.call) 0 =
    ap (λ (b : Bool). cond (b && (s.page == page)) (likes_of s.call) 0) (lt-ltb s.phase later (omega arith)) in
    omega arith

module _ (f : Addition → ℕ) where
  -- how much a call counts
  abbrev pub call_counts : ℕ → ℕ → ℕ → PageCall → ℕ
  call_counts k p found call = sum_by f (and_addition [] k p found call)

  pub one_more : (xs : List Addition) (k p found : ℕ) (call : PageCall)
      → sum_by f (and_addition xs k p found call) ≡ sum_by f xs + call_counts k p found call
  one_more xs k p found (Add n) =
      let here = sum_by_push f [] (addition k p found n) in
      let more = sum_by_push f xs (addition k p found n) in
      omega arith
  one_more xs k p found Read = omega arith
  one_more xs k p found Glance = omega arith

  -- a worker's additions count no more than all
  pub own_less : (i : ℕ) (steps : List PageStep)
      → sum_by f (additions_among (steps_by i steps)) ≤ sum_by f (additions_among steps)
  own_less i [] = omega arith
  own_less i (s ∷ before) = by (s.worker == i) (own_less i before) where
    own : List PageStep
    own = steps_by i before

    by : (b : Bool)
        → sum_by f (additions_among (steps_by i before)) ≤ sum_by f (additions_among before)
        → sum_by f (additions_among (cond b (s ∷ steps_by i before) (steps_by i before)))
        ≤ sum_by f (additions_among (s ∷ before))
    by true less =
        let all = one_more (additions_among before) s.phase s.page s.found s.call in
        let mine = one_more (additions_among (steps_by i before)) s.phase s.page s.found s.call in
        omega arith
    by false less =
        let all = one_more (additions_among before) s.phase s.page s.found s.call in
        omega arith

module _ {A : Type 0} (number : A → ℕ) where
  -- what counts for a number that none has
  count_never : (j m : ℕ) (xs : List A) → count_by (λ x. number x == j) xs ≡ 0
      → sum_by (λ x. cond (j == number x) m 0) xs ≡ 0
  count_never j m [] none = refl
  count_never j m (x ∷ xs) none =
      let more = sum_by-cons (λ y. cond {A = ℕ} (number y == j) 1 0) x xs in
      elim (cases_eq (number x) j) [
        | inl same ↦
            let one : cond {A = ℕ} (number x == j) 1 0 ≡ 1 = cond-true (number x == j) 1 0 (eq-eqb (number x) j same) in
            absurd (omega arith)
        | inr other ↦
            let here : cond {A = ℕ} (j == number x) m 0 ≡ 0 =
            ap (λ (b : Bool). cond {A = ℕ} b m 0) (ne_eqb j (number x) (λ same. other (sym same))) in
            let rest = count_never j m xs (omega arith) in
            let all = sum_by-cons (λ y. cond {A = ℕ} (j == number y) m 0) x xs in
            omega arith
      ]

  -- and for one that one has
  count_once : (j m : ℕ) (xs : List A) → count_by (λ x. number x == j) xs ≡ 1
      → sum_by (λ x. cond (j == number x) m 0) xs ≡ m
  count_once j m [] once = absurd (omega arith)
  count_once j m (x ∷ xs) once =
      let more = sum_by-cons (λ y. cond {A = ℕ} (number y == j) 1 0) x xs in
      let all = sum_by-cons (λ y. cond {A = ℕ} (j == number y) m 0) x xs in
      elim (cases_eq (number x) j) [
        | inl same ↦
            let one : cond {A = ℕ} (number x == j) 1 0 ≡ 1 = cond-true (number x == j) 1 0 (eq-eqb (number x) j same) in
            let here : cond {A = ℕ} (j == number x) m 0 ≡ m =
            cond-true (j == number x) m 0 (eq-eqb j (number x) (sym same)) in
            let rest = count_never j m xs (omega arith) in
            omega arith
        | inr other ↦
            let none : cond {A = ℕ} (number x == j) 1 0 ≡ 0 =
            ap (λ (b : Bool). cond {A = ℕ} b 1 0) (ne_eqb (number x) j other) in
            let here : cond {A = ℕ} (j == number x) m 0 ≡ 0 =
            ap (λ (b : Bool). cond {A = ℕ} b m 0) (ne_eqb j (number x) (λ same. other (sym same))) in
            let rest = count_once j m xs (omega arith) in
            omega arith
      ]

  -- terms that are equal have an equal sum
  pub sum_alike : (f g : A → ℕ) (xs : List A) → All (λ x. f x ≡ g x) xs → sum_by f xs ≡ sum_by g xs
  sum_alike f g [] same = refl
  sum_alike f g (x ∷ xs) same =
      let here = All-head (λ y. f y ≡ g y) x xs same in
      let rest = sum_alike f g xs (All-tail (λ y. f y ≡ g y) x xs same) in
      omega (arith, sum_by-cons f x xs, sum_by-cons g x xs)

  -- a sum of sums
  sum_plus : (f g h : A → ℕ) (xs : List A) → ((x : A) → f x ≡ g x + h x) → sum_by f xs ≡ sum_by g xs + sum_by h xs
  sum_plus f g h [] each = refl
  sum_plus f g h (x ∷ xs) each =
      let here = each x in
      let rest = sum_plus f g h xs each in
      omega (arith, sum_by-cons f x xs, sum_by-cons g x xs, sum_by-cons h x xs)

  -- no step at all
  sum_nothing : (xs : List A) → sum_by (λ x. 0) xs ≡ 0
  sum_nothing [] = refl
  sum_nothing (x ∷ xs) = let rest = sum_nothing xs in omega (arith, sum_by-cons (λ y. 0) x xs)

  -- where each worker that made a step is there once, what all workers' additions count is what those of all steps do
  pub totals : (f : Addition → ℕ) (xs : List A) (steps : List PageStep)
      → ((i : ℕ) → count_by (λ x. number x == i) xs ≤ 1)
      → ((i : ℕ) → count_by (λ x. number x == i) xs ≡ 0 → steps_by i steps ≡ [])
      → sum_by (λ x. sum_by f (additions_among (steps_by (number x) steps))) xs ≡ sum_by f (additions_among steps)
  totals f xs [] most others = sum_nothing xs
  totals f xs (s ∷ before) most others =
      let rest = totals f xs before most (λ i none. tail (s.worker == i) (others i none)) in
      let more = one_more f (additions_among before) s.phase s.page s.found s.call in
      let m : ℕ = call_counts f s.phase s.page s.found s.call in
      let all = sum_plus (λ x. sum_by f (additions_among (steps_by (number x) (s ∷ before))))
      (λ x. sum_by f (additions_among (steps_by (number x) before))) (λ x. cond (s.worker == number x) m 0) xs
      (λ x. own_more (s.worker == number x) (steps_by (number x) before)) in
      let one = count_once s.worker m xs once in
      omega arith
    where
      tail : (b : Bool) {rest : List PageStep} → cond b (s ∷ rest) rest ≡ [] → rest ≡ []
      tail true none = absurd (cc none)
      tail false none = none

      own_more : (b : Bool) (own : List PageStep)
          → sum_by f (additions_among (cond b (s ∷ own) own))
          ≡ sum_by f (additions_among own) + cond b (call_counts f s.phase s.page s.found s.call) 0
      own_more true own = one_more f (additions_among own) s.phase s.page s.found s.call
      own_more false own = omega arith

      its_own : (b : Bool) (own : List PageStep) → b ≡ true → cond b (s ∷ own) own ≡ [] → ⊥
      its_own true own is none = cc none
      its_own false own is none = cc is

      once : count_by (λ x. number x == s.worker) xs ≡ 1
      once =
          let least : count_by (λ x. number x == s.worker) xs ≢ 0 =
          λ none. its_own (s.worker == s.worker) (steps_by s.worker before) (eq-eqb s.worker s.worker refl)
          (others s.worker none) in
          let few = most s.worker in
          elim (cases_eq (count_by (λ x. number x == s.worker) xs) 0) [
            | inl none ↦ absurd (least none)
            | inr some ↦ omega arith
          ]
