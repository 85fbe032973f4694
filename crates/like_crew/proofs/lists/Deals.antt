-- Dealing out one thing more.
use Rattle.std.proofs.Common.{◌≡◌, ◌≢◌, ℕ, zero, suc, ◌+◌, ◌*◌, ◌/◌, ◌%◌, ◌<◌, ◌≤◌, List, [], ◌∷◌, ◌++◌, length, get_or, map, set, slice_get, Option, Some, None, option_map, refl, sym, ap, ◌∙◌, subst, arith, inl, inr}
use Rattle.std.proofs.Math.Nat.{div-add-mod, mod-lt, mul-le-mul_left, mul_comm}
use Rattle.std.proofs.lemmas.Bool.{cases_eq, cases_lt}
use Rattle.std.proofs.lemmas.List.{get_or-set_same, get_or-set_other, length-map, map-set}
use Rattle.std.specs.List.{All}
use Rattle.std.specs.Option.{unwrap_or}
use Rattle.std.proofs.lemmas.Nat.{div-mul-add, mod-mul-add}
use Rattle.std.proofs.lemmas.Option.{get_or_from_slice_get, slice_get-get_or, slice_get-map, slice_get_past, slice_get_read, slice_get_within, unwrap_or-slice_get}
use Rattle.like_promises.proofs.Lists.{slice_get-at_end}

-- another place than the end has what it had before the push
snoc-other : {X : Type 0} (xs : List X) (y : X) (i : ℕ) → i ≢ length xs → slice_get (xs ++ y ∷ []) i ≡ slice_get xs i
snoc-other [] y zero other = absurd (other refl)
snoc-other [] y (suc i) other = refl
snoc-other (x ∷ xs) y zero other = refl
snoc-other (x ∷ xs) y (suc i) other = snoc-other xs y i (λ e. other (ap suc e))

-- each worker has at each place what its submitter has
abbrev pub AllDealt : {A : Type 0} → List A → ℕ → List (List A) → Type 0
AllDealt items workers hands = (worker : ℕ) → worker < workers
    → (place : ℕ) → slice_get (get_or hands worker []) place ≡ slice_get items (worker + workers * place)

module _ {A : Type 0} (items : List A) (workers : ℕ) (hands : List (List A)) (some : 0 < workers)
    (sized : length hands ≡ workers) (dealt : AllDealt items workers hands)
    (item : A) where
  abbrev pub here : ℕ
  here = length items % workers

  there : here < workers
  there = mod-lt (length items) some

  abbrev pub hand : List A
  hand = get_or hands here []

  -- the next submitter, by its worker and its place there
  next : here + workers * (length items / workers) ≡ length items
  next = let d : workers * (length items / workers) + length items % workers ≡ length items =
      div-add-mod (length items) workers in omega (arith, d)

  place-is : (worker place : ℕ) → worker < workers → worker + workers * place ≡ length items
      → (worker ≡ here) × (place ≡ length items / workers)
  place-is worker place w e =
      let turned : worker + workers * place ≡ place * workers + worker = omega (arith, mul_comm workers place) in (
        sym (mod-mul-add place workers worker w) ∙ ap (λ n. n % workers) (sym turned ∙ e),
        sym (div-mul-add place workers worker w) ∙ ap (λ n. n / workers) (sym turned ∙ e),
      )

  -- the worker has so many
  hand-size : length hand ≡ length items / workers
  hand-size =
      let q : ℕ = length items / workers in
      let none : slice_get hand q ≡ None =
      dealt here there q ∙ ap (λ n. slice_get items n) next ∙ slice_get_past items (length items) (omega arith) in
      elim (cases_lt q (length hand)) [
        | inl more ↦ absurd (none_some (slice_get hand q) _ none (slice_get-get_or hand q item more))
        | inr enough ↦
            elim (cases_lt (length hand) q) [
              | inl fewer ↦
                  let below : workers * (length hand + 1) ≤ workers * q =
                  mul-le-mul_left workers (omega (arith, fewer)) in
                  let one : workers * (length hand + 1) ≡ workers * length hand + workers =
                  mul-one-more workers (length hand) in
                  let within : here + workers * length hand < length items = omega (arith, below, one, next, some) in
                  let e = dealt here there (length hand)
                  ∙ slice_get-get_or items (here + workers * length hand) item within in
                  absurd (none_some (slice_get hand (length hand)) _
                  (slice_get_past hand (length hand) (omega arith)) e)
              | inr same ↦ omega (arith, enough, same)
            ]
      ] where
        none_some : (o : Option A) (i : A) → o ≡ None → o ≡ Some i → ⊥
        none_some o i a b = cc (a, b)

        mul-one-more : (a b : ℕ) → a * (b + 1) ≡ a * b + a
        mul-one-more a b = omega arith

  pub deal-next : AllDealt (items ++ item ∷ []) workers (set hands here (hand ++ item ∷ []))
  deal-next worker w place =
      elim (cases_eq worker here) [
        | inl mine ↦
            let new : get_or (set hands here (hand ++ item ∷ [])) worker [] ≡ hand ++ item ∷ [] =
            ap (λ n. get_or (set hands here (hand ++ item ∷ [])) n []) mine
            ∙ get_or-set_same hands here (hand ++ item ∷ []) [] (omega (arith, there, sized)) in
            elim (cases_eq (worker + workers * place) (length items)) [
              | inl last ↦
                  let p = place-is worker place w last in
                  ap (λ xs. slice_get xs place) new
                  ∙ ap (slice_get (hand ++ item ∷ [])) (p.1 ∙ sym hand-size)
                  ∙ slice_get-at_end hand (item)
                  ∙ sym (slice_get-at_end items item)
                  ∙ ap (λ n. slice_get (items ++ item ∷ []) n) (sym last)
              | inr other ↦
                  let else_where : place ≢ length hand =
                  λ e. other (ap (λ n. n + workers * place) mine ∙ ap (λ n. here + workers * n) (e ∙ hand-size)
                  ∙ next) in
                  ap (λ xs. slice_get xs place) new
                  ∙ snoc-other hand (item) place else_where
                  ∙ ap (λ n. slice_get (get_or hands n []) place) (sym mine)
                  ∙ dealt worker w place
                  ∙ sym (snoc-other items item (worker + workers * place) other)
            ]
        | inr not_mine ↦
            ap (λ xs. slice_get xs place) (get_or-set_other hands here worker (hand ++ item ∷ []) [] not_mine)
            ∙ dealt worker w place
            ∙ sym (snoc-other items item (worker + workers * place) (λ e. not_mine (place-is worker place w e).0))
      ]

-- at first nothing is dealt
pub deal-none : {A H : Type 0} (held : H → List A) (hands : List H) (workers : ℕ)
    → All (λ hand. held hand ≡ []) hands
    → AllDealt [] workers (map held hands)
deal-none {H = H} held hands workers none worker w place =
    ap (λ xs. slice_get xs place)
    (sym (unwrap_or-slice_get (map held hands) worker [])
    ∙ ap (λ o. unwrap_or o []) (slice_get-map held hands worker) ∙ by_hand (slice_get hands worker) refl) where
      by_hand : (o : Option H) → slice_get hands worker ≡ o → unwrap_or (option_map held o) [] ≡ []
      by_hand None e = refl
      by_hand (Some hand) e =
          subst (λ h. held h ≡ []) (get_or_from_slice_get hands worker hand hand e)
          (none worker hand (slice_get_within hands worker hand e))

-- the next one is dealt to its worker's hand
pub deal-pushed : {A H : Type 0} (held : H → List A) (hands : List H) (old new : H) (items : List A) (item : A)
    (workers at : ℕ)
    → 0 < workers
    → length hands ≡ workers
    → at ≡ length items % workers
    → old ≡ get_or hands at old
    → held new ≡ held old ++ item ∷ []
    → AllDealt items workers (map held hands)
    → AllDealt (items ++ item ∷ []) workers (map held (set hands at new))
deal-pushed held hands old new items item workers at some sized at_is value pushed dealt =
    let there : at < length hands = omega (arith, mod-lt (length items) some, at_is, sized) in
    let found : slice_get hands at ≡ Some old = slice_get_read hands (length hands) at old refl there value in
    let items_at : get_or (map held hands) at [] ≡ held old =
    sym (unwrap_or-slice_get (map held hands) at [])
    ∙ ap (λ o. unwrap_or o []) (slice_get-map held hands at ∙ ap (option_map held) found) in
    let path : map held (set hands at new)
    ≡ set (map held hands) (length items % workers)
    (get_or (map held hands) (length items % workers) [] ++ item ∷ []) =
    map-set held hands at new ∙ ap (set (map held hands) at) (pushed ∙ ap (λ xs. xs ++ item ∷ []) (sym items_at))
    ∙ ap (λ n. set (map held hands) n (get_or (map held hands) n [] ++ item ∷ [])) at_is in
    subst (AllDealt (items ++ item ∷ []) workers) (sym path)
    (deal-next items workers (map held hands) some (length-map hands held ∙ sized) dealt item)
