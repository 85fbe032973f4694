-- Sets of pages written and looked through, a word at a time.
use Rattle.std.proofs.Common.{◌≡◌, ◌≢◌, ℕ, ◌+◌, ◌-◌, ◌*◌, ◌/◌, ◌%◌, ◌^◌, ◌<◌, ◌≤◌, List, length, get_or, set, inl, inr, refl, ap, ◌∙◌, arith, w64, bit_and, get_or-set_same, get_or-set_other}
use Rattle.std.specs.Int.{bit_at, trailing_zeros}
use Rattle.std.proofs.lemmas.Bool.{cases_eq, cases_lt}
use Rattle.std.proofs.lemmas.List.{get_or_read}
use Rattle.std.proofs.lemmas.Nat.Bits.{bit_at_and, bit_at-lt, bit_at-zero, bit_at-trailing_zeros, bit_at_ones, bit_at_mask_inside, bit_at_mask_below, ones_shl}
use Rattle.like_tables.specs.PageSet.{HasNone, IsNextIn, bit_of}

-- a page's bit after its word was written
pub bit_of-written : (words : List ℕ) (page word : ℕ) → page < 64 * length words
    → bit_of (set words (page / 64) word) page ≡ bit_at word (page % 64)
bit_of-written words page word there =
    ap (λ w. bit_at w (page % 64)) (get_or-set_same words (page / 64) word 0 (omega arith))

-- where the word keeps its other bits, all other pages keep theirs
pub bit_of-others : (words : List ℕ) (page word other : ℕ) → page < 64 * length words
    → ((i : ℕ) → i < 64 → i ≢ page % 64 → bit_at word i ≡ bit_at (get_or words (page / 64) 0) i)
    → other ≢ page → bit_of (set words (page / 64) word) other ≡ bit_of words other
bit_of-others words page word other there kept apart =
    elim (cases_eq (other / 64) (page / 64)) [
      | inl same ↦
          let bit : other % 64 ≢ page % 64 = λ e. apart (omega arith) in
          rw same (ap (λ w. bit_at w (other % 64)) (get_or-set_same words (page / 64) word 0 (omega arith))
          ∙ kept (other % 64) (omega arith) bit)
      | inr differs ↦ ap (λ w. bit_at w (other % 64)) (get_or-set_other words (page / 64) (other / 64) word 0 differs)
    ]

-- where a search stands: no page from `from` on is in the words before this one, and of this one count the bits of
-- the pages from `from` on
pub record IsScanned (words : List ℕ) (from place counted : ℕ) : Type 0 where
  pub none : HasNone words from (64 * place)
  pub counts : (i : ℕ) → i < 64 → from ≤ 64 * place + i → bit_at counted i ≡ 1
  pub cut : (i : ℕ) → 64 * place + i < from → bit_at counted i ≡ 0

-- at the first word
pub IsScanned-first : (words : List ℕ) (from : ℕ)
    → IsScanned words from (from / 64) ((2 ^ 64 - 1) * 2 ^ (from % 64) % 2 ^ 64)
IsScanned-first words from = record {
  none = λ page after before. absurd (omega arith);
  counts = λ i small after. ap (λ x. bit_at x i) mask ∙ bit_at_mask_inside (from % 64) 64 i (omega arith) small;
  cut = λ i before. ap (λ x. bit_at x i) mask ∙ bit_at_mask_below (from % 64) 64 i (omega arith);
}
  where
    mask : (2 ^ 64 - 1) * 2 ^ (from % 64) % 2 ^ 64 ≡ 2 ^ 64 - 2 ^ (from % 64)
    mask = ones_shl 64 (from % 64) (omega arith)

-- a page of this word
bit_of-word : (words : List ℕ) (place page : ℕ) → 64 * place ≤ page → page < 64 * place + 64
    → bit_of words page ≡ bit_at (get_or words place 0) (page - 64 * place)
bit_of-word words place page low high =
    let word : page / 64 ≡ place = omega arith in
    let bit : page % 64 ≡ page - 64 * place = omega arith in
    rw (word, bit) refl

-- past a word that has no bit that counts
pub IsScanned-next : (words : List ℕ) (from place counted word : ℕ) → from / 64 ≤ place → place < length words
    → word ≡ get_or words place word → IsScanned words from place counted → bit_and word counted ≡ 0
    → IsScanned words from (place + 1) (2 ^ 64 - 1)
IsScanned-next words from place counted word first there read s zero = record {
  none = λ page after before. elim (cases_lt page (64 * place)) [
    | inl lower ↦ s.none page after lower
    | inr upper ↦
        let bit = bit_at_and word counted (page - 64 * place) in
        let cleared = ap (λ x. bit_at x (page - 64 * place)) zero ∙ bit_at-zero (page - 64 * place) in
        let counts = s.counts (page - 64 * place) (omega arith) (omega arith) in
        bit_of-word words place page upper (omega arith)
        ∙ rw (← get_or_read words place word there read 0) (omega arith)
  ];
  counts = λ i small after. bit_at_ones 64 i small;
  cut = λ i before. absurd (omega arith);
}

-- the lowest bit that counts is the next page's
pub IsNextIn-found : (words : List ℕ) (from place counted word : ℕ) → place < length words
    → word ≡ get_or words place word → IsScanned words from place counted → 0 < bit_and word counted
    → bit_and word counted < 2 ^ 64
    → IsNextIn words from (place * 64 + trailing_zeros w64 (bit_and word counted))
IsNextIn-found words from place counted word there read s some small =
    let found = bit_at-trailing_zeros w64 (bit_and word counted) some small in
    let bit = trailing_zeros w64 (bit_and word counted) in
    lowest bit found.0 found.1 found.2
  where
    here : word ≡ get_or words place 0
    here = get_or_read words place word there read 0

    lowest : (bit : ℕ) → bit < 64 → bit_at (bit_and word counted) bit ≡ 1
        → ((i : ℕ) → i < bit → bit_at (bit_and word counted) i ≡ 0) → IsNextIn words from (place * 64 + bit)
    lowest bit low set below =
        let both = bit_at_and word counted bit in
        let at : (place * 64 + bit) - 64 * place ≡ bit = omega arith in
        let one : bit_at word bit ≡ 1 = omega (arith, bit_at-lt word bit) in
        let counted_here : bit_at counted bit ≡ 1 = omega (arith, bit_at-lt counted bit) in
        record {
          after = elim (cases_lt (64 * place + bit) from) [
            | inl before ↦ absurd (omega (arith, s.cut bit before))
            | inr after ↦ omega arith
          ];
          inside = bit_of-word words place (place * 64 + bit) (omega arith) (omega arith) ∙ rw (at, ← here) one;
          least = λ page after before. elim (cases_lt page (64 * place)) [
            | inl lower ↦ s.none page after lower
            | inr upper ↦
                let both = bit_at_and word counted (page - 64 * place) in
                let none = below (page - 64 * place) (omega arith) in
                let counts = s.counts (page - 64 * place) (omega arith) (omega arith) in
                bit_of-word words place page upper (omega arith) ∙ rw (← here) (omega arith)
          ];
        }
