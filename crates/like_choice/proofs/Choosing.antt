-- A choice, from the slots that stay and the pages that are put into the free ones.
use Rattle.std.proofs.Common.{◌≡◌, ℕ, ◌^◌, ◌<◌, ◌==◌, ◌&&◌, ◌⊎◌, nat_lt, inl, inr, true, List, length, refl, sym, ◌∙◌, subst, arith, slice_index}
use Rattle.std.specs.List.{Contains, list_any, slice_index_or}
use Rattle.std.proofs.lemmas.Bool.{and_parts, and_from, or_cases, or_left, or_right, eqb-true, eq-eqb, ltb-true, lt-ltb}
use Rattle.std.proofs.lemmas.List.Folds.{list_any_at}
use Rattle.std.proofs.lemmas.Map.Views.{Contains-from_any}
use Rattle.like_limits.specs.Limits.{hot_pages}
use Rattle.like_core.specs.Functions.{has_bit}
use Rattle.like_core.specs.Slots.{IsChoice}
use Rattle.like_choice.specs.Slots.{AreSlots, CameBefore, Chooses, IsInUse, SlotsView}
use Rattle.like_choice.specs.Steps.{CameBy, Fills, stays}

-- the bits of the slots that stay in use
abbrev pub AreKept : SlotsView → List ℕ → ℕ → Type 0
AreKept v proposed kept =
    (slot : ℕ) → has_bit kept slot ≡ (nat_lt slot hot_pages && stays v.slots v.bits v.marks proposed slot)

-- the slots after pages were put in
abbrev pub filled : SlotsView → List ℕ → ℕ → SlotsView
filled v slots bits = record v { slots = slots; bits = bits }

-- a page is on the list where one equals it
contains-any : (pages : List ℕ) (page : ℕ) → Contains pages page → list_any (λ p. p == page) pages ≡ true
contains-any pages page (k, below, is) =
    list_any_at (λ p. p == page) pages k page below (eq-eqb (slice_index_or pages k page) page is)

any-contains : (pages : List ℕ) (page : ℕ) → list_any (λ p. p == page) pages ≡ true → Contains pages page
any-contains pages page is = Contains-from_any {eq = λ q k. k == q} (λ x y e. sym (eqb-true y x e)) page pages is

-- a slot that stays was in use, and is a marked page's or proposed again
kept-was : (v : SlotsView) (proposed : List ℕ) (kept : ℕ) → AreKept v proposed kept → (slot : ℕ)
    → has_bit kept slot ≡ true
    → (has_bit v.bits slot ≡ true) × ((slot < v.marks) ⊎ Contains proposed (slice_index v.slots slot))
kept-was v proposed kept are slot is =
    let test = (and_parts (nat_lt slot hot_pages) _ (sym (are slot) ∙ is)).1 in
    let parts = and_parts (has_bit v.bits slot) _ test in (
      parts.0,
      elim (or_cases (nat_lt slot v.marks) _ parts.1) [
        | inl low ↦ inl (ltb-true slot v.marks low)
        | inr any ↦ inr (any-contains proposed (slice_index v.slots slot) any)
      ],
    )

-- a slot in use stays if it is a marked page's or proposed again
kept-is : (v : SlotsView) (proposed : List ℕ) (kept : ℕ) → AreKept v proposed kept → (slot : ℕ)
    → IsInUse v.bits slot → (slot < v.marks) ⊎ Contains proposed (slice_index v.slots slot)
    → has_bit kept slot ≡ true
kept-is v proposed kept are slot used why =
    are slot ∙ and_from _ _ (lt-ltb slot hot_pages used.0) (and_from _ _ used.1 (elim why [
      | inl low ↦ or_left (nat_lt slot v.marks) _ (lt-ltb slot v.marks low)
      | inr among ↦ or_right (nat_lt slot v.marks) _ (contains-any proposed (slice_index v.slots slot) among)
    ]))

-- fewer slots are a lawful choice too
kept-lawful : (v : SlotsView) (proposed : List ℕ) (kept : ℕ) → AreSlots v → AreKept v proposed kept
    → IsChoice v.factor v.pages (slice_index v.slots) kept
kept-lawful v proposed kept old are = record {
  there = λ i small used. old.choice.there i small (kept-was v proposed kept are i used).0;
  apart = λ i j i_small j_small i_used j_used same. old.choice.apart i j i_small j_small
      (kept-was v proposed kept are i i_used).0 (kept-was v proposed kept are j j_used).0 same;
}

-- a slot that has to stay in use keeps its page
keeps : (v : SlotsView) (proposed : List ℕ) (kept : ℕ) (slots : List ℕ) (bits : ℕ) → AreKept v proposed kept
    → Fills v.factor v.pages proposed v.slots kept slots bits → (slot : ℕ) → IsInUse v.bits slot
    → (slot < v.marks) ⊎ Contains proposed (slice_index v.slots slot)
    → (has_bit bits slot ≡ true) × (slice_index slots slot ≡ slice_index v.slots slot)
keeps v proposed kept slots bits are fills slot used why =
    fills.stay slot (used.0, kept-is v proposed kept are slot used why)

-- what came by the slots that stayed, stayed
came : (v : SlotsView) (proposed : List ℕ) (kept : ℕ) (slots : List ℕ) (bits : ℕ) → AreKept v proposed kept
    → Fills v.factor v.pages proposed v.slots kept slots bits → (k slot : ℕ) → slot < hot_pages
    → CameBy proposed k kept slots slot → CameBefore v proposed k (filled v slots bits) slot
came v proposed kept slots bits are fills k slot small by = elim by [
  | inl was ↦ inl ((kept-was v proposed kept are slot was).0, (fills.stay slot (small, was)).1)
  | inr at ↦ inr at
]

pub Chooses-filled : (v : SlotsView) (proposed : List ℕ) (kept : ℕ) (slots : List ℕ) (bits : ℕ) → AreSlots v
    → AreKept v proposed kept → Fills v.factor v.pages proposed v.slots kept slots bits
    → Chooses v proposed (filled v slots bits)
Chooses-filled v proposed kept slots bits old are fills = record {
  same = (refl, refl, refl);
  marked = λ slot low.
      keeps v proposed kept slots bits are fills slot (omega (arith, old.marks), old.marked slot low) (inl low);
  again = λ slot used among. keeps v proposed kept slots bits are fills slot used (inr among);
  asked = λ slot used. elim (fills.asked slot used) [
    | inl was ↦ elim (kept-was v proposed kept are slot was).1 [
      | inl low ↦ inl low
      | inr among ↦ inr (subst (λ p. Contains proposed p) (sym (fills.stay slot (used.0, was)).1) among)
    ]
    | inr among ↦ inr among
  ];
  left_out = λ k below there. elim (fills.left_out k below there) [
    | inl at ↦ inl (at.0, at.1, at.2, came v proposed kept slots bits are fills k at.0 at.1.0 at.3)
    | inr all ↦ inr (λ slot small. (
      (all slot small).0,
      came v proposed kept slots bits are fills k slot small (all slot small).1,
    ))
  ];
}

pub AreSlots-filled : (v : SlotsView) (proposed : List ℕ) (kept : ℕ) (slots : List ℕ) (bits : ℕ) → AreSlots v
    → AreKept v proposed kept → Fills v.factor v.pages proposed v.slots kept slots bits
    → length slots ≡ hot_pages → bits < 2 ^ 64 → AreSlots (filled v slots bits)
AreSlots-filled v proposed kept slots bits old are fills all below = record {
  choice = fills.lawful (kept-lawful v proposed kept old are);
  marks = old.marks;
  marked = λ slot low.
      (keeps v proposed kept slots bits are fills slot (omega (arith, old.marks), old.marked slot low) (inl low)).0;
  all = all;
  below = below;
}
