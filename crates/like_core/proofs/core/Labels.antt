-- How many likes of a list have a label, and what one more addition changes.
use Rattle.std.proofs.Common.{◌≡◌, ◌≢◌, ℕ, zero, suc, ◌+◌, ◌==◌, nat_lt, Bool, true, false, ◌&&◌, cond, inl, inr, List, [], ◌∷◌, ◌++◌, replicate, count_by, ap, sym, ◌∙◌, refl, eq-eqb, arith}
use Rattle.std.proofs.lemmas.Bool.{cases_eq, cases_lt, cond-true, cond-false, ne_eqb, lt-ltb, le-ltb}
use Rattle.std.proofs.lemmas.List.Sums.{sum_by-append, sum_by-cons, sum_by_push}
use Rattle.like_core.specs.declared.view.Addition.{Addition}
use Rattle.like_core.specs.core.State.{Label, labelled}
use Rattle.like_core.specs.Additions.{addition, added_to, added_in, added_before}

-- a label
abbrev pub label : ℕ → ℕ → Label
label worker phase = record { worker = worker; phase = phase }

module _ {A : Type 0} (p : A → Bool) (a : A) where
  -- where one counts, n of it count n
  pub count_all : (n : ℕ) → p a ≡ true → count_by p (replicate n a) ≡ n
  count_all zero is = refl
  count_all (suc n) is =
      let rest = count_all n is in
      let more = sum_by-cons (λ x. cond (p x) 1 0) a (replicate n a) in
      let one : cond {A = ℕ} (p a) 1 0 ≡ 1 = cond-true (p a) 1 0 is in
      omega arith

  -- where one does not count, none counts
  pub count_none : (n : ℕ) → p a ≡ false → count_by p (replicate n a) ≡ 0
  count_none zero is = refl
  count_none (suc n) is =
      let rest = count_none n is in
      let more = sum_by-cons (λ x. cond (p x) 1 0) a (replicate n a) in
      let none : cond {A = ℕ} (p a) 1 0 ≡ 0 = cond-false (p a) 1 0 is in
      omega arith

-- likes that are joined to others add what they have of each label
pub labelled-append : (i phase : ℕ) (xs ys : List Label)
    → labelled i phase (xs ++ ys) ≡ labelled i phase xs + labelled i phase ys
labelled-append i phase xs ys = sum_by-append (λ l. cond ((l.worker == i) && (l.phase == phase)) 1 0) xs ys

-- likes of another worker do not count
pub labels_else : (i j now phase n : ℕ) → j ≢ i → labelled j phase (replicate n (label i now)) ≡ 0
labels_else i j now phase n other =
    count_none (λ (l : Label). (l.worker == j) && (l.phase == phase)) (label i now) n
    (ap (λ b. b && (now == phase)) (ne_eqb i j (λ same. other (sym same))))

-- likes of one's own count as the addition does
pub labels_here : (i now phase n : ℕ) → labelled i phase (replicate n (label i now)) ≡ cond (now == phase) n 0
labels_here i now phase n =
    let test : Label → Bool = λ l. (l.worker == i) && (l.phase == phase) in
    elim (cases_eq now phase) [
      | inl same ↦
          let own : test (label i now) ≡ true = λ m. eq-eqb i i refl m && eq-eqb now phase same m in
          count_all test (label i now) n own ∙ sym (cond-true (now == phase) n 0 (eq-eqb now phase same))
      | inr other ↦
          let own : test (label i now) ≡ false = λ m. eq-eqb i i refl m && ne_eqb now phase other m in
          count_none test (label i now) n own ∙ sym (cond-false (now == phase) n 0 (ne_eqb now phase other))
    ]

-- one more addition
pub added_in-push : (additions : List Addition) (now page old n phase q : ℕ)
    → added_in phase q (additions ++ addition now page old n ∷ [])
    ≡ added_in phase q additions + cond ((now == phase) && (page == q)) n 0
added_in-push additions now page old n phase q =
    sum_by_push (λ (a : Addition). cond ((a.phase == phase) && (a.page == q)) a.likes 0) additions
    (addition now page old n)

-- how much one addition counts in the phases before one
pub added_before-push : (additions : List Addition) (now page old n phase q : ℕ)
    → added_before phase q (additions ++ addition now page old n ∷ [])
    ≡ added_before phase q additions + cond (nat_lt now phase && (page == q)) n 0
added_before-push additions now page old n phase q =
    sum_by_push (λ (a : Addition). cond (nat_lt a.phase phase && (a.page == q)) a.likes 0) additions
    (addition now page old n)

-- an addition before the next phase is one before this phase or in it
pub one_before-next : (now phase n : ℕ) (page : Bool)
    → cond {A = ℕ} (nat_lt now (phase + 1) && page) n 0
    ≡ cond (nat_lt now phase && page) n 0 + cond ((now == phase) && page) n 0
one_before-next now phase n page =
    let counts : Bool → ℕ = λ b. cond (b && page) n 0 in
    elim (cases_lt now phase) [
      | inl less ↦
          let next : counts (nat_lt now (phase + 1)) ≡ counts true = ap counts (lt-ltb now (phase + 1) (omega arith)) in
          let before : counts (nat_lt now phase) ≡ counts true = ap counts (lt-ltb now phase less) in
          let here : counts (now == phase) ≡ 0 = ap counts (ne_eqb now phase (λ same. absurd (omega arith))) in
          omega arith
      | inr past ↦ elim (cases_eq now phase) [
        | inl same ↦
            let next : counts (nat_lt now (phase + 1)) ≡ counts true =
            ap counts (lt-ltb now (phase + 1) (omega arith)) in
            let before : counts (nat_lt now phase) ≡ 0 = ap counts (le-ltb now phase past) in
            let here : counts (now == phase) ≡ counts true = ap counts (eq-eqb now phase same) in
            omega arith
        | inr other ↦
            let next : counts (nat_lt now (phase + 1)) ≡ 0 = ap counts (le-ltb now (phase + 1) (omega arith)) in
            let before : counts (nat_lt now phase) ≡ 0 = ap counts (le-ltb now phase past) in
            let here : counts (now == phase) ≡ 0 = ap counts (ne_eqb now phase other) in
            omega arith
      ]
    ]

-- what was added before the next phase was added before this one or in it
pub added_before-next : (additions : List Addition) (phase q : ℕ)
    → added_before (phase + 1) q additions ≡ added_before phase q additions + added_in phase q additions
added_before-next [] phase q = refl
added_before-next (a ∷ additions) phase q =
    let rest = added_before-next additions phase q in
    let here = one_before-next a.phase phase a.likes (a.page == q) in
    omega (
      arith,
      sum_by-cons (λ (b : Addition). cond (nat_lt b.phase (phase + 1) && (b.page == q)) b.likes 0) a additions,
      sum_by-cons (λ (b : Addition). cond (nat_lt b.phase phase && (b.page == q)) b.likes 0) a additions,
      sum_by-cons (λ (b : Addition). cond ((b.phase == phase) && (b.page == q)) b.likes 0) a additions,
    )

-- one more addition, of some page
pub added_to-push : (additions : List Addition) (now page old n q : ℕ)
    → added_to q (additions ++ addition now page old n ∷ []) ≡ added_to q additions + cond (page == q) n 0
added_to-push additions now page old n q =
    sum_by_push (λ (a : Addition). cond (a.page == q) a.likes 0) additions (addition now page old n)

-- one more addition counts for its page
pub added_to_here : (additions : List Addition) (now page old n : ℕ)
    → added_to page (additions ++ addition now page old n ∷ []) ≡ added_to page additions + n
added_to_here additions now page old n =
    let more = sum_by_push (λ (a : Addition). cond (a.page == page) a.likes 0) additions (addition now page old n) in
    let one : cond {A = ℕ} (page == page) n 0 ≡ n = cond-true (page == page) n 0 (eq-eqb page page refl) in
    omega arith

-- and for no other
pub added_to_else : (additions : List Addition) (now page old n q : ℕ)
    → q ≢ page
    → added_to q (additions ++ addition now page old n ∷ []) ≡ added_to q additions
added_to_else additions now page old n q other =
    let more = sum_by_push (λ (a : Addition). cond (a.page == q) a.likes 0) additions (addition now page old n) in
    let none : cond {A = ℕ} (page == q) n 0 ≡ 0 =
    cond-false (page == q) n 0 (ne_eqb page q (λ same. other (sym same))) in
    omega arith
