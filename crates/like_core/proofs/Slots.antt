-- The masks of the pages in slots.
use Rattle.std.proofs.Common.{◌≡◌, ℕ, zero, suc, ◌^◌, ◌<◌, ◌==◌, ◌||◌, ◌⊎◌, bit_or, inl, inr, Bool, true, false, cond, subst, ap, sym, ◌∙◌, refl, arith}
use Rattle.std.proofs.lemmas.Bool.{cases_eq, cond-false, cond-true}
use Rattle.std.proofs.lemmas.Nat.{or_lt, pow_below, pow_pos}
use Rattle.std.proofs.lemmas.Nat.Bits.{bit_at-zero, bit_at-pow_same, bit_at-pow_other}
use Rattle.like_core.specs.declared.limits.Limits.{Limits}
use Rattle.like_limits.specs.Limits.{hot_pages}
use Rattle.like_limits.specs.Buckets.{bucket}
use Rattle.like_core.specs.Functions.{has_bit}
use Rattle.like_core.specs.OpeningLimits.{has_slots}
use Rattle.like_core.specs.Slots.{IsChoice, IsInSlot, SlotsTell, mask_by, mask_of_slots}
use Rattle.like_core.proofs.Below.{has_bit-or}

-- the number that a slot adds to the mask: its page's bit, where it is in use
abbrev bit_of : Bool → ℕ → ℕ
bit_of used page = cond used (2 ^ page) 0

-- the mask of one slot more
mask_of_slots-suc : (slots : ℕ → ℕ) (word n : ℕ)
    → mask_of_slots slots word (suc n) ≡ bit_or (mask_of_slots slots word n) (bit_of (has_bit word n) (slots n))
unfolding mask_of_slots
mask_of_slots-suc slots word n = refl

-- no slot has no mask
mask_of_slots-zero : (slots : ℕ → ℕ) (word : ℕ) → mask_of_slots slots word 0 ≡ 0
unfolding mask_of_slots
mask_of_slots-zero slots word = refl

-- 0 has no bit
has_bit-zero : (page : ℕ) → has_bit 0 page ≡ false
has_bit-zero page = ap (λ b. b == 1) (bit_at-zero page)

-- a slot's number has the bit of its page alone, and where it is in use
bit_of-has : (used : Bool) (page other : ℕ) → has_bit (bit_of used page) other ≡ true → (used ≡ true) × (page ≡ other)
bit_of-has true page other has = elim (cases_eq other page) [
  | inl same ↦ (refl, sym same)
  | inr apart ↦
      let none : has_bit (2 ^ page) other ≡ false = ap (λ b. b == 1) (bit_at-pow_other page other apart) in
      absurd (cc)
]
bit_of-has false page other has = let none = has_bit-zero other in absurd (cc)

has-bit_of : (used : Bool) (page : ℕ) → used ≡ true → has_bit (bit_of used page) page ≡ true
has-bit_of true page is = ap (λ b. b == 1) (bit_at-pow_same page)
has-bit_of false page is = absurd (cc)

-- one of two is true
either : (a b : Bool) → (a || b) ≡ true → (a ≡ true) ⊎ (b ≡ true)
either true b is = inl refl
either false b is = inr is

left : (a b : Bool) → a ≡ true → (a || b) ≡ true
left true b is = refl
left false b is = absurd (cc)

right : (a b : Bool) → b ≡ true → (a || b) ≡ true
right true b is = refl
right false b is = is

-- the bits of the mask of one slot more
bits-suc : (slots : ℕ → ℕ) (word n page : ℕ)
    → has_bit (mask_of_slots slots word (suc n)) page
    ≡ (has_bit (mask_of_slots slots word n) page || has_bit (bit_of (has_bit word n) (slots n)) page)
bits-suc slots word n page =
    ap (λ m. has_bit m page) (mask_of_slots-suc slots word n)
    ∙ has_bit-or (mask_of_slots slots word n) (bit_of (has_bit word n) (slots n)) page

-- a page whose bit the mask has is in a slot
in_slot : (slots : ℕ → ℕ) (word n page : ℕ)
    → has_bit (mask_of_slots slots word n) page ≡ true
    → IsInSlot slots word n page
in_slot slots word zero page has =
    let none = ap (λ m. has_bit m page) (mask_of_slots-zero slots word) ∙ has_bit-zero page in absurd (cc)
in_slot slots word (suc n) page has =
    let here : ℕ = bit_of (has_bit word n) (slots n) in
    elim (either (has_bit (mask_of_slots slots word n) page) (has_bit here page)
    (sym (bits-suc slots word n page) ∙ has)) [
      | inl earlier ↦
          let known = in_slot slots word n page earlier in
          record { slot = known.slot; below = omega (arith, known.below); used = known.used; holds = known.holds }
      | inr last ↦
          let known = bit_of-has (has_bit word n) (slots n) page last in
          record { slot = n; below = omega arith; used = known.0; holds = known.1 }
    ]

-- a page in a slot in use has its bit
has_slot : (slots : ℕ → ℕ) (word n page slot : ℕ)
    → slot < n
    → has_bit word slot ≡ true
    → slots slot ≡ page
    → has_bit (mask_of_slots slots word n) page ≡ true
has_slot slots word zero page slot below used holds = absurd (omega arith)
has_slot slots word (suc n) page slot below used holds =
    let before : Bool = has_bit (mask_of_slots slots word n) page in
    let here : Bool = has_bit (bit_of (has_bit word n) (slots n)) page in
    bits-suc slots word n page ∙
    elim (cases_eq slot n) [
      | inl same ↦
          let last = has-bit_of (has_bit word n) (slots n) (ap (has_bit word) (sym same) ∙ used) in
          right before here
          (subst (λ k. has_bit (bit_of (has_bit word n) (slots n)) k ≡ true) (ap slots (sym same) ∙ holds) last)
      | inr other ↦ left before here (has_slot slots word n page slot (omega arith) used holds)
    ]

pub slots_tell : SlotsTell
slots_tell slots word n page = (
  in_slot slots word n page,
  λ known. has_slot slots word n page known.slot known.below known.used known.holds,
)

-- the mask of no slot in use
pub mask_of_slots-none : (slots : ℕ → ℕ) (n : ℕ) → mask_of_slots slots 0 n ≡ 0
mask_of_slots-none slots zero = mask_of_slots-zero slots 0
mask_of_slots-none slots (suc n) =
    mask_of_slots-suc slots 0 n ∙
    (λ m. bit_or (mask_of_slots-none slots n m) (bit_of (has_bit-zero n m) (slots n)))

-- slots that hold the same pages have the same mask
pub mask_of_slots-same : (slots others : ℕ → ℕ) (word n : ℕ)
    → ((i : ℕ) → i < n → slots i ≡ others i)
    → mask_of_slots slots word n ≡ mask_of_slots others word n
mask_of_slots-same slots others word zero same = mask_of_slots-zero slots word ∙ sym (mask_of_slots-zero others word)
mask_of_slots-same slots others word (suc n) same =
    let rest = mask_of_slots-same slots others word n (λ i below. same i (omega arith)) in
    let here : slots n ≡ others n = same n (omega arith) in
    mask_of_slots-suc slots word n ∙
    ((λ m. bit_or (rest m) (bit_of (has_bit word n) (here m))) ∙ sym (mask_of_slots-suc others word n))

-- pages that are there have bits below 2 ^ pages
below : (pages : ℕ) (slots : ℕ → ℕ) (word n : ℕ)
    → ((i : ℕ) → i < n → has_bit word i ≡ true → slots i < pages)
    → mask_of_slots slots word n < 2 ^ pages
below pages slots word zero there = rw (mask_of_slots-zero slots word) (pow_pos pages)
below pages slots word (suc n) there =
    let rest = below pages slots word n (λ i less. there i (omega arith)) in
    let P : Bool → Type 0 = λ b. bit_of b (slots n) < 2 ^ pages in
    let bit : (b : Bool) → has_bit word n ≡ b → P b =
    λ b. elim b as (λ b. has_bit word n ≡ b → P b) [
      | true ↦ λ used. pow_below (slots n) pages (there n (omega arith) used)
      | false ↦ λ _. pow_pos pages
    ]
    in
    rw (mask_of_slots-suc slots word n)
    (or_lt pages (mask_of_slots slots word n) (bit_of (has_bit word n) (slots n)) rest (bit (has_bit word n) refl))

-- those of a lawful choice are there
pub mask-below : (factor pages : ℕ) (slots : ℕ → ℕ) (word : ℕ)
    → IsChoice factor pages slots word
    → mask_of_slots slots word hot_pages < 2 ^ pages
mask-below factor pages slots word choice = below pages slots word hot_pages choice.there

-- no slot in use is a lawful choice
pub choice-none : (factor pages : ℕ) (slots : ℕ → ℕ) → IsChoice factor pages slots 0
choice-none factor pages slots = record {
  there = λ i less used. let none = has_bit-zero i in absurd (cc);
  apart = λ i j i_less j_less used other same. let none = has_bit-zero i in absurd (cc);
}

-- so is a choice whose slots hold the pages of a lawful one
pub choice-same : (factor pages : ℕ) (slots others : ℕ → ℕ) (word : ℕ)
    → ((i : ℕ) → i < hot_pages → slots i ≡ others i)
    → IsChoice factor pages slots word
    → IsChoice factor pages others word
choice-same factor pages slots others word same choice = record {
  there = λ i less used. subst (λ p. p < pages) (same i less) (choice.there i less used);
  apart = λ i j i_less j_less used other equal.
      choice.apart i j i_less j_less used other
      (ap (bucket factor) (same i i_less) ∙ (equal ∙ ap (bucket factor) (sym (same j j_less))));
}

-- what a mask word tells in a run, and in a service
pub mask_by-plain : (l : Limits) (slots : ℕ → ℕ) (word : ℕ) → has_slots l ≡ false → mask_by l slots word ≡ word
mask_by-plain l slots word plain = cond-false (has_slots l) (mask_of_slots slots word hot_pages) word plain

pub mask_by-slots : (l : Limits) (slots : ℕ → ℕ) (word : ℕ)
    → has_slots l ≡ true
    → mask_by l slots word ≡ mask_of_slots slots word hot_pages
mask_by-slots l slots word slotted = cond-true (has_slots l) (mask_of_slots slots word hot_pages) word slotted

-- it is 0 where the word is
pub mask_by-none : (l : Limits) (slots : ℕ → ℕ) → mask_by l slots 0 ≡ 0
mask_by-none l slots =
    let P : Bool → Type 0 = λ b. cond b (mask_of_slots slots 0 hot_pages) 0 ≡ 0 in
    elim (has_slots l) as P [ true ↦ mask_of_slots-none slots hot_pages | false ↦ refl ]

-- and the same where slots and word are
pub mask_by-same : (l : Limits) (slots others : ℕ → ℕ) (word other : ℕ)
    → ((i : ℕ) → i < hot_pages → slots i ≡ others i)
    → word ≡ other
    → mask_by l slots word ≡ mask_by l others other
mask_by-same l slots others word other same words =
    let masks = mask_of_slots-same slots others word hot_pages same in
    (λ m. cond (has_slots l) (masks m) word) ∙ ap (λ w. mask_by l others w) words
