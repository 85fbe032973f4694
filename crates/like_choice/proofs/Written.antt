-- The pages in the slots in use, one slot after the other.
use Rattle.std.proofs.Common.{◌≡◌, ℕ, zero, suc, ◌+◌, ◌<◌, ◌≤◌, Bool, true, false, cond, List, [], ◌∷◌, ◌++◌, filter, map, length, take, drop, get_or, refl, sym, ap, ◌∙◌, arith}
use Rattle.std.specs.List.{range_with_len}
use Rattle.std.proofs.lemmas.List.{drop-drop, length-append, length-take, append-nil, map-append, take-append-le, take_all}
use Rattle.std.proofs.lemmas.List.Elements.{filter-append}
use Rattle.like_core.specs.Functions.{has_bit}
use Rattle.like_choice.specs.Slots.{pages_below}

-- one number more
counting : (a n j : ℕ) → a + n ≡ j → range_with_len a (suc n) ≡ range_with_len a n ++ j ∷ []
counting a zero j e = let here : a ≡ j = omega (arith, e) in ap (λ k. k ∷ []) here
counting a (suc n) j e = ap (λ (xs : List ℕ). a ∷ xs) (counting (a + 1) n j (omega (arith, e)))

-- one slot more
more : (slots : List ℕ) (bits n : ℕ) (used : Bool)
    → has_bit bits n ≡ used
    → pages_below slots bits (n + 1)
    ≡ pages_below slots bits n ++ map (λ i. get_or slots i 0) (cond used (n ∷ []) [])
unfolding pages_below
more slots bits n used is =
    let next : n + 1 ≡ suc n = omega arith in
    let at : ℕ → ℕ = λ i. get_or slots i 0 in
    ap (pages_below slots bits) next
    ∙ ap (λ (xs : List ℕ). map at (filter (has_bit bits) xs)) (counting 0 n n (omega arith))
    ∙ ap (map at) (filter-append (has_bit bits) (range_with_len 0 n) (n ∷ []))
    ∙ map-append at (filter (has_bit bits) (range_with_len 0 n)) (filter (has_bit bits) (n ∷ []))
    ∙ ap (λ (b : Bool). pages_below slots bits n ++ map at (cond b (n ∷ []) [])) is

-- one that is not in use adds no page
pub more-unused : (slots : List ℕ) (bits n : ℕ)
    → has_bit bits n ≡ false
    → pages_below slots bits (n + 1) ≡ pages_below slots bits n
more-unused slots bits n is = more slots bits n false is ∙ append-nil (pages_below slots bits n)

-- one in use adds its page
pub more-used : (slots : List ℕ) (bits n : ℕ)
    → has_bit bits n ≡ true
    → pages_below slots bits (n + 1) ≡ pages_below slots bits n ++ get_or slots n 0 ∷ []
more-used slots bits n is = more slots bits n true is

-- where there is room for it
pub take-room : (room many page : ℕ) (pages : List ℕ)
    → length (take room pages) ≡ many
    → many < room
    → take room (pages ++ page ∷ []) ≡ take room pages ++ page ∷ []
take-room room many page pages len less =
    let few : length pages ≤ room = omega (arith, length-take room pages, len) in
    take_all room (pages ++ page ∷ []) (omega (arith, length-append pages (page ∷ []), length-take room pages, len))
    ∙ ap (λ (xs : List ℕ). xs ++ page ∷ []) (sym (take_all room pages few))

-- where there is none
pub take-full : (room many page : ℕ) (pages : List ℕ)
    → length (take room pages) ≡ many
    → room ≤ many
    → take room (pages ++ page ∷ []) ≡ take room pages
take-full room many page pages len full =
    take-append-le room pages (page ∷ []) (omega (arith, length-take room pages, len))

-- no slot has no page
pub none-below : (slots : List ℕ) (bits : ℕ) → pages_below slots bits 0 ≡ []
unfolding pages_below
none-below slots bits = refl

-- lists that are the same from one place on are the same from the next one on
pub drop-more : (n : ℕ) (xs ys : List ℕ) → drop n xs ≡ drop n ys → drop (n + 1) xs ≡ drop (n + 1) ys
drop-more n xs ys same = sym (drop-drop 1 n xs) ∙ ap (drop 1) same ∙ drop-drop 1 n ys
