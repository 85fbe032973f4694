-- Logs of passes, added to the deeds so far.
use Rattle.std.proofs.Common.{◌≡◌, ◌≢◌, ◌==◌, ℕ, Bool, cond, List, [], ◌∷◌, ◌++◌, refl, sym, ap, ◌∙◌, subst, append-nil, append_assoc, eq-eqb, ne_eqb}
use Rattle.std.specs.Prelude.{filter}
use Rattle.std.proofs.lemmas.List.{map-append}
use Rattle.std.proofs.lemmas.List.Elements.{filter-append}
use Rattle.told_lock.specs.Deeds.{Continues, ContinuesWithout, HasRun, Named, deeds_by, deeds_in, named}

module _ {C : Type 0} (n : ℕ) where
  -- the deeds of one pass in two lists, one after the other
  pub by-append : (xs ys : Named C) → deeds_by n (xs ++ ys) ≡ deeds_by n xs ++ deeds_by n ys
  by-append xs ys =
      ap deeds_in (filter-append (λ (e : ℕ × C). e.0 == n) xs ys)
      ∙ map-append (λ (e : ℕ × C). e.1) (filter (λ e. e.0 == n) xs) (filter (λ e. e.0 == n) ys)

  -- the first deed is this pass's
  pub by-first : (e : ℕ × C) (es : Named C) → e.0 ≡ n → deeds_by n (e ∷ es) ≡ e.1 ∷ deeds_by n es
  by-first e es same =
      let rest : Named C = filter (λ d. d.0 == n) es in
      ap (λ (b : Bool). deeds_in (cond b (e ∷ rest) rest)) (eq-eqb e.0 n same)

  -- it is another's
  pub by-later : (e : ℕ × C) (es : Named C) → e.0 ≢ n → deeds_by n (e ∷ es) ≡ deeds_by n es
  by-later e es other =
      let rest : Named C = filter (λ d. d.0 == n) es in
      ap (λ (b : Bool). deeds_in (cond b (e ∷ rest) rest)) (ne_eqb e.0 n other)

  -- this pass's log has its deeds alone
  pub by-own : (cs : List C) → deeds_by n (named n cs) ≡ cs
  by-own [] = refl
  by-own (c ∷ cs) = by-first (n, c) (named n cs) refl ∙ ap (λ (l : List C). c ∷ l) (by-own cs)

  -- another's has none of them
  pub by-other : (m : ℕ) (cs : List C) → m ≢ n → deeds_by n (named m cs) ≡ []
  by-other m [] other = refl
  by-other m (c ∷ cs) other = by-later (m, c) (named m cs) other ∙ by-other m cs other

  -- this pass's deeds, with a log of its own behind all others
  pub own-more : (es : Named C) (log cs : List C) → log ≡ deeds_by n es → deeds_by n (es ++ named n cs) ≡ log ++ cs
  own-more es log cs is = by-append es (named n cs) ∙ (λ i. sym is i ++ by-own cs i)

  -- and with another's
  pub other-more : (es : Named C) (m : ℕ) (cs : List C) → m ≢ n → deeds_by n (es ++ named m cs) ≡ deeds_by n es
  other-more es m cs other =
      by-append es (named m cs) ∙ ap (λ (l : List C). deeds_by n es ++ l) (by-other m cs other)
      ∙ append-nil (deeds_by n es)

  -- an order without deeds of this pass behind what it has seen has no others of its
  pub same-without : (xs ys : Named C) → ContinuesWithout n xs ys → deeds_by n ys ≡ deeds_by n xs
  same-without xs ys on =
      ap (deeds_by n) on.1 ∙ by-append xs on.0 ∙ ap (λ (l : List C). deeds_by n xs ++ l) on.2
      ∙ append-nil (deeds_by n xs)

  -- an order continues itself
  pub none-behind : (xs ys : Named C) → ys ≡ xs → ContinuesWithout n xs ys
  none-behind xs ys same = ([], same ∙ sym (append-nil xs), refl)

  -- and one continues another that continues a third
  pub on-without : (xs ys zs : Named C) → ContinuesWithout n xs ys → ContinuesWithout n ys zs → ContinuesWithout n xs zs
  on-without xs ys zs on more = (
    on.0 ++ more.0,
    more.1 ∙ ap (λ (l : Named C). l ++ more.0) on.1 ∙ append_assoc xs on.0 more.0,
    by-append on.0 more.0 ∙ (λ i. on.2 i ++ more.2 i),
  )

-- one order continues another that continues a third
pub on-more : {C : Type 0} (xs ys zs : Named C) → Continues xs ys → Continues ys zs → Continues xs zs
on-more {C} xs ys zs on more =
    (on.0 ++ more.0, more.1 ∙ ap (λ (l : Named C). l ++ more.0) on.1 ∙ append_assoc xs on.0 more.0)

-- the deeds of a log, without the name
unnamed : {C : Type 0} (n : ℕ) (cs : List C) → deeds_in (named n cs) ≡ cs
unnamed n [] = refl
unnamed {C} n (c ∷ cs) = ap (λ (l : List C). c ∷ l) (unnamed n cs)

-- deeds, and then others
pub run-append : {T C : Type 0} (does : T → C → T → Type 0) (x y z : T) (cs ds : List C) → HasRun does x cs y
    → HasRun does y ds z → HasRun does x (cs ++ ds) z
run-append does x y z [] ds first then = subst (λ u. HasRun does u ds z) first then
run-append does x y z (c ∷ cs) ds first then =
    (first.0, first.1, run-append does first.0 y z cs ds first.2 then)

-- all deeds, with a log behind them
pub all-more : {C : Type 0} (es : Named C) (n : ℕ) (cs : List C) → deeds_in (es ++ named n cs) ≡ deeds_in es ++ cs
all-more {C} es n cs =
    map-append (λ (e : ℕ × C). e.1) es (named n cs) ∙ ap (λ (l : List C). deeds_in es ++ l) (unnamed n cs)

-- a log is done after all deeds so far
pub run-more : {T C : Type 0} (does : T → C → T → Type 0) (x y z : T) (es : Named C) (n : ℕ) (cs : List C)
    → HasRun does x (deeds_in es) y → HasRun does y cs z → HasRun does x (deeds_in (es ++ named n cs)) z
run-more {T} {C} does x y z es n cs first then =
    subst (λ ds. HasRun does x ds z) (sym (all-more es n cs)) (run-append does x y z (deeds_in es) cs first then)
