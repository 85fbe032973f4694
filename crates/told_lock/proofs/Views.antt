-- The views of a lock's table, one of which changes.
use Rattle.std.proofs.Common.{◌≡◌, ◌≢◌, ℕ, zero, suc, ◌+◌, ◌<◌, Bool, inl, inr, List, [], ◌∷◌, ◌++◌, length, get_or, set, Option, Some, None, sym, ap, ◌∙◌, subst, arith, eq-eqb, ne_eqb, if◌then◌else◌}
use Rattle.std.specs.Prelude.{sum_by}
use Rattle.std.proofs.lemmas.Bool.{cases_eq}
use Rattle.std.proofs.lemmas.List.{get_or-set_other, get_or-set_same, get_or_append_left, get_or_past, get_or_push, length-append}
use Rattle.std.proofs.lemmas.List.Sums.{sum_by-cons, sum_by-set}
use mathlib.Core.Option.{some, some-injective, some-ne-none}
use lib.ListN.{get_elem?}
use native.Mathlib.Decide.{dec_le}
use Rattle.told_lock.specs.declared.known.Known.{Known}
use Rattle.told_lock.specs.declared.known.Known.TheVariants.{Pass}
use Rattle.told_lock.specs.Deeds.{Named}
use Rattle.told_lock.specs.Rule.{outs, taken_by, view_at}

module _ {A : Type 0} where
  -- what is at a place is within the list
  pub within : (xs : List A) (i : ℕ) (x : A) → get_elem? xs i ≡ some x → i < length xs
  within [] i x at = absurd (some-ne-none x (sym at))
  within (y ∷ xs) zero x at = omega arith
  within (y ∷ xs) (suc i) x at = let r = within xs i x at in omega (arith, r)

  -- and is read there, whatever the default
  pub read-at : (xs : List A) (i : ℕ) (x d : A) → get_elem? xs i ≡ some x → get_or xs i d ≡ x
  read-at [] i x d at = absurd (some-ne-none x (sym at))
  read-at (y ∷ xs) zero x d at = some-injective y x at
  read-at (y ∷ xs) (suc i) x d at = read-at xs i x d at

module _ {T C : Type 0} (first : T) where
  -- what is so of a new view at its place, and of the others, is so of all views
  pub set-view : (P : ℕ → Known T C → Type 0) (views : List (Known T C)) (i : ℕ) (v : Known T C) → i < length views
      → P i v → ((m : ℕ) → m ≢ i → P m (view_at first views m)) → (m : ℕ) → P m (view_at first (set views i v) m)
  set-view P views i v there here others m = elim (cases_eq m i) [
    | inl same ↦ subst (λ n. P n (view_at first (set views i v) n)) (sym same)
        (subst (P i) (sym (get_or-set_same views i v (Pass first i [] None) there)) here)
    | inr other ↦ subst (P m) (sym (get_or-set_other views i m v (Pass first m [] None) other)) (others m other)
  ]

  -- a pass that is made changes no view: before, it had done nothing
  pub push-view : (views : List (Known T C)) (n : ℕ) → length views ≡ n → (m : ℕ)
      → view_at first (views ++ Pass first n [] None ∷ []) m ≡ view_at first views m
  push-view views n long m =
      let v : Known T C = Pass first n [] None in
      let d : Known T C = Pass first m [] None in
      elim (dec_le (suc m) n) [
        | yes low ↦ get_or_append_left views (v ∷ []) d m (omega (arith, low, long))
        | no high ↦ elim (cases_eq n m) [
          | inl same ↦ get_or_push views v d m (long ∙ same) ∙ (λ i. Pass first (same i) [] None)
              ∙ sym (get_or_past views m d (omega (arith, long, same)))
          | inr other ↦
              let more = length-append views (v ∷ []) in
              get_or_past (views ++ v ∷ []) m d (omega (arith, high, other, long, more))
              ∙ sym (get_or_past views m d (omega (arith, high, long)))
        ]
      ]

-- how many passes are out, after one view changes
pub set-outs : {T C : Type 0} (views : List (Known T C)) (i : ℕ) (was v : Known T C) → get_elem? views i ≡ some was
    → sum_by outs (set views i v) + outs was ≡ sum_by outs views + outs v
set-outs views i was v at =
    ap (λ w. sum_by outs (set views i v) + outs w) (sym (read-at views i was v at))
    ∙ sum_by-set outs views i v v (within views i was at)

-- others have taken nothing
pub taken-none : {T : Type 0} (holder name : ℕ) (now : T) → holder ≢ name → taken_by holder now name ≡ None
taken-none {T} holder name now other =
    let f : Bool → Option T = λ b. if b then Some now else None in ap f (ne_eqb holder name other)

-- the holder has taken the value
pub taken-some : {T : Type 0} (holder name : ℕ) (now : T) → holder ≡ name → taken_by holder now name ≡ Some now
taken-some {T} holder name now same =
    let f : Bool → Option T = λ b. if b then Some now else None in ap f (eq-eqb holder name same)

-- who took a value is the holder
pub holder-is : {T : Type 0} (holder name : ℕ) (x now : T) → Some x ≡ taken_by holder now name
    → (holder ≡ name) × (x ≡ now)
holder-is holder name x now is = elim (cases_eq holder name) [
  | inl same ↦ (same, cc (is ∙ taken-some holder name now same))
  | inr other ↦ absurd (cc (is ∙ taken-none holder name now other))
]

-- who took nothing isn't
pub holder-not : {T : Type 0} (holder name : ℕ) (now : T) → None ≡ taken_by holder now name → holder ≢ name
holder-not holder name now is = λ same. cc (is ∙ taken-some holder name now same)

-- if no pass is out, no view is a pass's, but for passes that are not made yet
pub quiet : {T C : Type 0} (views : List (Known T C)) (i : ℕ) (first : T) (name : ℕ) (f : T) (n : ℕ) (seen : Named C)
    (taken : Option T)
    → sum_by outs views ≡ 0 → get_or views i (Pass first name [] None) ≡ Pass f n seen taken
    → (seen ≡ []) × (taken ≡ None)
quiet [] i first name f n seen taken none is = (cc (sym is), cc (sym is))
quiet (v ∷ views) zero first name f n seen taken none is =
    let one : outs v ≡ 1 = ap outs is in let all = sum_by-cons outs v views in absurd (omega (arith, none, one, all))
quiet (v ∷ views) (suc i) first name f n seen taken none is =
    let all = sum_by-cons outs v views in
    quiet views i first name f n seen taken (omega (arith, none, all)) is
