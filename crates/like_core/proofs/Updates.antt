-- Functions that are updated at a place.
use Rattle.std.proofs.Common.{◌≡◌, ◌≢◌, ℕ, ◌<◌, ◌==◌, inl, inr, List, length, get_or, set, ap, subst, sym, refl}
use Rattle.std.proofs.lemmas.Bool.{cases_eq, cond-true, cond-false, eq-eqb, ne_eqb}
use Rattle.std.proofs.lemmas.List.{get_or-set_same, get_or-set_other}
use Rattle.like_core.specs.Functions.{update}

-- an updated function at the place of the update
pub update-same : {A : Type 0} (f : ℕ → A) (i : ℕ) (x : A) → update f i x i ≡ x
update-same f i x = cond-true (i == i) x (f i) (eq-eqb i i refl)

-- an updated function elsewhere
pub update-other : {A : Type 0} (f : ℕ → A) (i : ℕ) (x : A) (j : ℕ) → j ≢ i → update f i x j ≡ f j
update-other f i x j other = cond-false (j == i) x (f j) (ne_eqb j i other)

-- what holds of x at i and of f elsewhere holds of the updated function
pub update_cases : {A : Type 0} (P : ℕ → A → Type 0) (f : ℕ → A) (i : ℕ) (x : A)
    → P i x
    → ((j : ℕ) → j ≢ i → P j (f j))
    → (j : ℕ)
    → P j (update f i x j)
update_cases {A} P f i x here there j =
    elim (cases_eq j i) [
      | inl same ↦
          let at : ℕ → Type 0 = λ k. P k (update f i x k) in
          let here_now : at i = subst (P i) (sym (update-same f i x)) here in
          subst at (sym same) here_now
      | inr other ↦ subst (P j) (sym (update-other f i x j other)) (there j other)
    ]

-- reading a list after a write is an updated reading of the list before
pub get_or-set : {A : Type 0} (xs : List A) (i : ℕ) (x d : A)
    → i < length xs
    → (j : ℕ)
    → get_or (set xs i x) j d ≡ update (λ k. get_or xs k d) i x j
get_or-set {A} xs i x d within =
    let P : ℕ → A → Type 0 = λ j y. get_or (set xs i x) j d ≡ y in
    update_cases P (λ k. get_or xs k d) i x (get_or-set_same xs i x d within)
    (λ j other. get_or-set_other xs i j x d other)

-- an updated function of two arguments, at a second argument
pub update-apply : {A : Type 0} (f : ℕ → ℕ → A) (i : ℕ) (g : ℕ → A) (j k : ℕ)
    → update f i g j k ≡ update (λ l. f l k) i (g k) j
update-apply {A} f i g j k =
    let P : ℕ → A → Type 0 = λ l y. update f i g l k ≡ y in
    update_cases P (λ l. f l k) i (g k)
    (ap (λ (h : ℕ → A). h k) (update-same f i g))
    (λ l other. ap (λ (h : ℕ → A). h k) (update-other f i g l other))
    j
