-- What a read shows of an earlier addition.
use Rattle.std.proofs.Common.{◌≡◌, inl, inr, ℕ, zero, suc, ◌+◌, ◌<◌, ◌≤◌, cond, List, [], ◌∷◌, slice_get, Some, None, unwrap_or, is_some, true≢false, subst, ap, sym, ◌∙◌, refl, arith, eq-eqb}
use Rattle.std.proofs.lemmas.Bool.{cases_lt}
use Rattle.std.proofs.lemmas.List.Sums.{sum_by-cons}
use Rattle.like_core.specs.declared.page_step.PageStep.{PageStep}
use Rattle.like_core.specs.PageSteps.{AreInTurn, adds_to, likes_in, likes_of}
use Rattle.like_serial.specs.OneSees.{OneSeesTheOther, ReadsLikes}

pub some_is : {X : Type 0} (x y : X) → Some x ≡ Some y → x ≡ y
some_is x y same = ap (λ o. unwrap_or o x) same

pub not_some : {X : Type 0} (x : X) → None ≡ Some x → ⊥
not_some x same = true≢false (ap is_some (sym same))

-- what a step left is no more than what the whole list did
left_most : (first : ℕ → ℕ) (last : ℕ) (steps : List PageStep) (j : ℕ) (a : PageStep)
    → AreInTurn first last steps
    → slice_get steps j ≡ Some a
    → a.found + likes_of a.call ≤ first a.page + likes_in a.page steps
left_most first last [] j a turn at = absurd (not_some a at)
left_most first last (s ∷ before) zero a turn at =
    subst (λ (x : PageStep). x.found + likes_of x.call ≤ first x.page + likes_in x.page (s ∷ before)) (some_is s a at)
    (let found = turn.0 in
    let more = sum_by-cons (adds_to s.page) s before in
    let here : adds_to s.page s ≡ likes_of s.call = ap (λ b. cond b (likes_of s.call) 0) (eq-eqb s.page s.page refl) in
    omega arith)
left_most first last (s ∷ before) (suc j) a turn at =
    let others = left_most first s.phase before j a turn.3 at in
    let more = sum_by-cons (adds_to a.page) s before in
    omega arith

-- a read of the page after it shows what the step left
shows_later : (first : ℕ → ℕ) (last : ℕ) (steps : List PageStep) (i j : ℕ) (r a : PageStep)
    → AreInTurn first last steps
    → slice_get steps i ≡ Some r
    → slice_get steps j ≡ Some a
    → i < j
    → r.page ≡ a.page
    → ReadsLikes r a
shows_later first last [] i j r a turn there at later same = absurd (not_some a at)
shows_later first last (s ∷ before) i zero r a turn there at later same = absurd (omega (arith, later))
shows_later first last (s ∷ before) zero (suc j) r a turn there at later same =
    let is = some_is s r there in
    let page : s.page ≡ a.page = ap (λ (x : PageStep). x.page) is ∙ same in
    let found : s.found ≡ first a.page + likes_in a.page before =
    subst (λ p. s.found ≡ first p + likes_in p before) page turn.0
    in
    let read : s.found ≡ r.found = ap (λ (x : PageStep). x.found) is in
    let most = left_most first s.phase before j a turn.3 at in
    omega arith
shows_later first last (s ∷ before) (suc i) (suc j) r a turn there at later same =
    shows_later first s.phase before i j r a turn.3 there at (omega arith) same

pub one_sees_the_other : OneSeesTheOther
one_sees_the_other first last steps a r b q turn one other at_b at_a =
    elim (cases_lt one.read_at other.added_at) [
      | inl later ↦ inl (shows_later first last steps one.read_at other.added_at r b turn one.was_read other.added later at_b)
      | inr earlier ↦
          let mine = one.later in
          let yours = other.later in
          inr
          (shows_later first last steps other.read_at one.added_at q a turn other.was_read one.added (omega arith) at_a)
    ]
