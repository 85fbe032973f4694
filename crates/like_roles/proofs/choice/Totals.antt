-- What a page's total was before a phase.
use Rattle.std.proofs.Common.{◌≡◌, ℕ, ◌+◌, ◌-◌, ◌%◌, ◌==◌, Bool, cond, List, [], ◌∷◌, ◌++◌, get_or, Option, Some, sym, ap, ◌∙◌, arith, inl, inr, append-nil}
use Rattle.std.specs.List.{filter, range_with_len}
use Rattle.std.specs.Option.{option_map_or}
use Rattle.std.proofs.lemmas.Bool.{cases_eq, eq-eqb, ne_eqb}
use Rattle.std.proofs.lemmas.List.{map-id}
use Rattle.std.proofs.lemmas.List.FromFn.{filter_of_map_range_with_len_more}
use Rattle.like_promises.specs.Likes.{last_in}
use Rattle.like_promises.proofs.Lists.{last_in-push}
use Rattle.like_roles.specs.coordinator.Choice.{joined_before, total_before}

-- the joined phases before the next phase
joined-next : (n : ℕ) → joined_before (n + 1) ≡ joined_before n ++ cond (n % 2 == 0) (n ∷ []) []
joined-next n =
    let joined : ℕ → Bool = λ k. k % 2 == 0 in
    ap (filter joined) (sym (map-id (range_with_len 0 (n + 1))))
    ∙ filter_of_map_range_with_len_more joined (λ k. k) 0 n n (omega arith)
    ∙ ap (λ (phases : List ℕ). filter joined phases ++ cond (joined n) (n ∷ []) []) (map-id (range_with_len 0 n))

-- a joined phase is the last of them
last-even : (n : ℕ) → n % 2 ≡ 0 → last_in (joined_before (n + 1)) ≡ Some n
last-even n even =
    ap last_in (joined-next n)
    ∙ ap (λ (b : Bool). last_in (joined_before n ++ cond b (n ∷ []) [])) (eq-eqb (n % 2) 0 even)
    ∙ last_in-push (joined_before n) n

-- and a split one adds none
last-joined : (n : ℕ) → last_in (joined_before (n + 1)) ≡ Some (n - n % 2)
last-joined n = elim (cases_eq (n % 2) 0) [
  | inl even ↦
      let same : n ≡ n - n % 2 = omega arith in
      last-even n even ∙ ap (λ (k : ℕ). Some k) same
  | inr odd ↦
      let back : n ≡ (n - 1) + 1 = omega arith in
      let even : (n - 1) % 2 ≡ 0 = omega arith in
      let same : n - 1 ≡ n - n % 2 = omega arith in
      ap last_in (joined-next n)
      ∙ ap (λ (b : Bool). last_in (joined_before n ++ cond b (n ∷ []) [])) (ne_eqb (n % 2) 0 odd)
      ∙ ap last_in (append-nil (joined_before n))
      ∙ ap (λ k. last_in (joined_before k)) back
      ∙ last-even (n - 1) even ∙ ap (λ (k : ℕ). Some k) same
]

-- a page's total before the next phase is that of this one, if it is joined, or else of the one before
pub total_before-next : (counts : List ℕ) (total : ℕ → ℕ → ℕ) (n page : ℕ)
    → total_before counts total (n + 1) page ≡ total (n - n % 2) page
total_before-next counts total n page =
    ap (λ (o : Option ℕ). option_map_or (λ k. total k page) o (get_or counts page 0)) (last-joined n)
