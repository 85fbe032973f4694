-- Whether a name is found among the pages' names.
use Rattle.std.proofs.Common.{◌≡◌, ℕ, zero, suc, ◌<◌, Bool, true, false, List, [], ◌∷◌, length, get_or, Option, Some, None, is_some, refl, sym, ◌∙◌, arith, true≢false, inl, inr}
use Rattle.std.specs.Prelude.{position, bytes_eq, Contains}
use Rattle.std.specs.List.{position_or_len}
use Rattle.std.proofs.lemmas.Bool.{cases_Bool, lt-ltb}
use Rattle.std.proofs.lemmas.Slice.Eq.{bytes_eq-Decides}
use Rattle.std.proofs.lemmas.List.Quantifiers.{position-Some}

-- a test that passes somewhere passes before the end
front_ends : {X : Type 0} (p : X → Bool) (xs : List X) (k : ℕ) (d : X)
    → k < length xs
    → p (get_or xs k d) ≡ true
    → position_or_len p xs < length xs
front_ends p [] k d within here = omega arith
front_ends p (x ∷ xs) zero d within here = rw here (omega arith)
front_ends p (x ∷ xs) (suc k) d within here =
    elim (cases_Bool (p x)) [
      | inl first ↦ rw first (omega arith)
      | inr later ↦ rw later (omega (arith, front_ends p xs k d (omega arith) here))
    ]

-- bytes that are a name are found
pub found-Contains : (xs : List (List ℕ)) (name : List ℕ)
    → is_some (position (bytes_eq name) xs) ≡ false
    → ¬ Contains xs name
found-Contains xs name nowhere there =
    let same : bytes_eq name (get_or xs there.0 name) ≡ true =
    (bytes_eq-Decides name (get_or xs there.0 name)).1 (sym there.2) in
    let short : position_or_len (bytes_eq name) xs < length xs =
    front_ends (bytes_eq name) xs there.0 name there.1 same in
    true≢false (sym (rw (lt-ltb (position_or_len (bytes_eq name) xs) (length xs) short) refl) ∙ nowhere)

-- bytes that are found are a name
pub Contains-found : (xs : List (List ℕ)) (name : List ℕ)
    → is_some (position (bytes_eq name) xs) ≡ true
    → Contains xs name
Contains-found xs name found = at (position (bytes_eq name) xs) refl found
  where
    at : (o : Option ℕ) → position (bytes_eq name) xs ≡ o → is_some o ≡ true → Contains xs name
    at None e h = absurd (true≢false (sym h))
    at (Some i) e h =
        let (within, same, first) = position-Some (bytes_eq name) xs i name e in
        (i, within, sym ((bytes_eq-Decides name (get_or xs i name)).0 same))
