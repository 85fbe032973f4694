-- The one order weighs as much as what the passes told.
use Rattle.std.proofs.Common.{◌≡◌, ◌+◌, ℕ, inl, inr, List, [], ◌∷◌, ◌++◌, refl, sym, ap, ◌∙◌, subst, arith}
use Rattle.std.specs.Prelude.{sum_by}
use Rattle.std.proofs.lemmas.Bool.{cases_eq}
use Rattle.std.proofs.lemmas.List.Sums.{sum_by-append, sum_by-cons}
use Rattle.std.proofs.lemmas.List.{map-append}
use Rattle.told_lock.specs.Deeds.{Named, deeds_by, deeds_in}
use Rattle.told_lock.proofs.Logs.{by-append, by-first, by-later}

-- where the first deed of a pass stands
record IsFirstAt {C : Type 0} (n : ℕ) (c : C) (es : Named C) : Type 0 where
  before : Named C
  after : Named C
  all : es ≡ before ++ (n, c) ∷ after
  none : deeds_by n before ≡ []

first-at : {C : Type 0} (n : ℕ) (c : C) (cs : List C) (es : Named C) → deeds_by n es ≡ c ∷ cs → IsFirstAt n c es
first-at n c cs [] is = absurd (cc is)
first-at {C} n c cs (e ∷ es) is = elim (cases_eq e.0 n) [
  | inl same ↦
      let here : e.1 ≡ c = cc (sym (by-first n e es same) ∙ is) in
      record { before = []; after = es; all = λ i. (same i, here i) ∷ es; none = refl }
  | inr other ↦
      let r = first-at n c cs es (sym (by-later n e es other) ∙ is) in
      record {
        before = e ∷ r.before;
        after = r.after;
        all = ap (λ (l : Named C). e ∷ l) r.all;
        none = by-later n e r.before other ∙ r.none;
      }
]

-- if two lists have the same deeds of each pass, they weigh as much
pub weigh-alike : {C : Type 0} (w : C → ℕ) (es fs : Named C) → ((n : ℕ) → deeds_by n es ≡ deeds_by n fs)
    → sum_by w (deeds_in es) ≡ sum_by w (deeds_in fs)
weigh-alike w [] [] own = refl
weigh-alike w [] (f ∷ fs) own = absurd (cc (own f.0 ∙ by-first f.0 f fs refl))
weigh-alike {C} w (e ∷ es) fs own =
    let at = first-at e.0 e.1 (deeds_by e.0 es) fs (sym (own e.0) ∙ by-first e.0 e es refl) in
    let left : Named C = at.before ++ at.after in
    let both : (n : ℕ) → deeds_by n fs ≡ deeds_by n at.before ++ deeds_by n (e ∷ at.after) =
    (λ n. ap (deeds_by n) at.all ∙ by-append n at.before (e ∷ at.after)) in
    let rest : (n : ℕ) → deeds_by n es ≡ deeds_by n left =
    (λ n. elim (cases_eq e.0 n) [
      | inl same ↦
          let none : deeds_by n at.before ≡ [] = subst (λ m. deeds_by m at.before ≡ []) same at.none in
          let more : e.1 ∷ deeds_by n es ≡ e.1 ∷ deeds_by n at.after =
          sym (by-first n e es same) ∙ own n ∙ both n
          ∙ (λ i. none i ++ by-first n e at.after same i) in
          let alike : deeds_by n es ≡ deeds_by n at.after = cc more in
          alike ∙ sym (by-append n at.before at.after ∙ ap (λ (l : List C). l ++ deeds_by n at.after) none)
      | inr other ↦
          sym (by-later n e es other) ∙ own n ∙ both n
          ∙ ap (λ (l : List C). deeds_by n at.before ++ l) (by-later n e at.after other)
          ∙ sym (by-append n at.before at.after)
    ]) in
    let all : sum_by w (deeds_in fs) ≡ sum_by w (deeds_in at.before) + sum_by w (deeds_in (e ∷ at.after)) =
    ap (λ (l : Named C). sum_by w (deeds_in l)) at.all
    ∙ ap (sum_by w) (map-append (λ (d : ℕ × C). d.1) at.before (e ∷ at.after))
    ∙ sum_by-append w (deeds_in at.before) (deeds_in (e ∷ at.after)) in
    let parts : sum_by w (deeds_in left) ≡ sum_by w (deeds_in at.before) + sum_by w (deeds_in at.after) =
    ap (sum_by w) (map-append (λ (d : ℕ × C). d.1) at.before at.after)
    ∙ sum_by-append w (deeds_in at.before) (deeds_in at.after) in
    let one = sum_by-cons w e.1 (deeds_in at.after) in
    let first = sum_by-cons w e.1 (deeds_in es) in
    let r = weigh-alike w es left rest in
    omega (arith, all, parts, one, first, r)
