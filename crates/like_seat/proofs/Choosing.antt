-- What a lead puts into slots.
use Rattle.std.proofs.Common.{◌≡◌, ℕ, zero, suc, ◌+◌, ◌^◌, ◌<◌, ◌≤◌, Bool, true, false, cond, bit_or, inl, inr, List, length, get_or, set, refl, sym, ap, ◌∙◌, subst, arith}
use Rattle.std.proofs.lemmas.Bool.{cases_eq}
use Rattle.std.proofs.lemmas.List.{ext_get_or, get_or-set_other, get_or-set_same, length-set, set-get_or}
use Rattle.std.proofs.lemmas.List.FromFn.{get_or-map-range_with_len, length-map-range_with_len}
use Rattle.like_core.specs.declared.view.CoordSeatView.{CoordSeatView}
use Rattle.like_limits.specs.Limits.{hot_pages}
use Rattle.like_limits.specs.Buckets.{bucket}
use Rattle.like_core.specs.Functions.{has_bit}
use Rattle.like_core.specs.Slots.{IsChoice, mask_of_slots}
use Rattle.like_core.specs.views.Views.{MayPublishSlots, MayPut, slotted_coord}
use Rattle.like_seat.specs.Lead.{MayPublishChoice, PutsPages, slots_with}

-- each slot in use of the first `many` holds its page
abbrev pub HoldPages : List ℕ → List ℕ → ℕ → ℕ → Type 0
HoldPages slots pages bits many =
    (slot : ℕ) → slot < many → has_bit bits slot ≡ true → get_or slots slot 0 ≡ get_or pages slot 0

-- the slots after pages were put: one in use holds its page, any other what it held
pub with-slot : (slots pages : List ℕ) (bits slot : ℕ)
    → slot < hot_pages
    → get_or (slots_with slots pages bits) slot 0 ≡ get_or (cond (has_bit bits slot) pages slots) slot 0
unfolding slots_with
with-slot slots pages bits slot below =
    get_or-map-range_with_len (λ i. get_or (cond (has_bit bits i) pages slots) i 0) 0 hot_pages slot slot 0 below (omega arith)

with-used : (slots pages : List ℕ) (bits : ℕ) → HoldPages (slots_with slots pages bits) pages bits hot_pages
with-used slots pages bits slot below used =
    with-slot slots pages bits slot below ∙ ap (λ b. get_or (cond b pages slots) slot 0) used

pub with-length : (slots pages : List ℕ) (bits : ℕ) → length (slots_with slots pages bits) ≡ hot_pages
unfolding slots_with
with-length slots pages bits =
    length-map-range_with_len (λ i. get_or (cond (has_bit bits i) pages slots) i 0) 0 hot_pages

-- a seat put these pages into those of the first `many` slots that are in use
pub record PutsFirst (c : CoordSeatView) (pages : List ℕ) (bits many : ℕ) (a : CoordSeatView) : Type 0 where
  pub all : length a.slots ≡ hot_pages
  pub put : (slot : ℕ) → slot < many
      → get_or a.slots slot 0 ≡ get_or (cond (has_bit bits slot) pages c.slots) slot 0
  pub later : (slot : ℕ) → many ≤ slot → get_or a.slots slot 0 ≡ get_or c.slots slot 0
  pub rest : PutsPages c a.slots a

-- before the first slot none was put
pub puts-none : (c : CoordSeatView) (pages : List ℕ) (bits : ℕ)
    → length c.slots ≡ hot_pages
    → PutsFirst c pages bits 0 c
puts-none c pages bits all =
    record { all = all; put = λ slot before. absurd (omega arith); later = λ slot past. refl; rest = refl }

-- after the last one all were
pub puts-all : (c : CoordSeatView) (pages : List ℕ) (bits : ℕ) (a : CoordSeatView)
    → PutsFirst c pages bits hot_pages a
    → PutsPages c (slots_with c.slots pages bits) a
puts-all c pages bits a puts =
    let after : List ℕ = slots_with c.slots pages bits in
    let same : a.slots ≡ after =
    ext_get_or 0 a.slots after (puts.all ∙ sym (with-length c.slots pages bits))
    (λ i there. let below : i < hot_pages = omega (arith, puts.all) in
    puts.put i below ∙ sym (with-slot c.slots pages bits i below)) in
    puts.rest ∙ (λ m. record c { slots = same m; published = a.published })

-- a page that a slot holds is as if it were put there
pub puts-held : (c : CoordSeatView) (slot page : ℕ)
    → get_or c.slots slot 0 ≡ page
    → PutsPages c (set c.slots slot page) c
puts-held c slot page held =
    subst (λ p. PutsPages c (set c.slots slot p) c) held
    (λ m. record c { slots = sym (set-get_or c.slots slot 0) m; published = c.published })

-- one that its seat puts there is
pub puts-slotted : (c : CoordSeatView) (slot page : ℕ) (a : CoordSeatView)
    → a ≡ slotted_coord c slot page
    → PutsPages c (set c.slots slot page) a
puts-slotted c slot page a is =
    subst (λ (v : CoordSeatView). PutsPages c (set c.slots slot page) v) (sym is) refl

-- one slot more has its page
pub puts-more : (c : CoordSeatView) (pages : List ℕ) (bits n : ℕ) (a b : CoordSeatView)
    → PutsFirst c pages bits n a
    → PutsPages a (set a.slots n (get_or pages n 0)) b
    → n < hot_pages
    → has_bit bits n ≡ true
    → PutsFirst c pages bits (n + 1) b
puts-more c pages bits n a b puts put below used =
    let page : ℕ = get_or pages n 0 in
    let there : n < length a.slots = omega (arith, puts.all) in
    let slots : b.slots ≡ set a.slots n page = ap (λ (v : CoordSeatView). v.slots) put in
    let at : (slot : ℕ) → get_or b.slots slot 0 ≡ get_or (set a.slots n page) slot 0 =
    λ slot. ap (λ (xs : List ℕ). get_or xs slot 0) slots in
    record {
      all = ap (λ (xs : List ℕ). length xs) slots ∙ length-set a.slots n page ∙ puts.all;
      put = λ slot before. at slot ∙ elim (cases_eq slot n) [
        | inl same ↦ (λ m. get_or (set a.slots n page) (same m) 0) ∙ get_or-set_same a.slots n page 0 there
            ∙ (λ m. get_or (cond (sym used m) pages c.slots) n 0)
            ∙ (λ m. get_or (cond (has_bit bits (sym same m)) pages c.slots) (sym same m) 0)
        | inr other ↦ get_or-set_other a.slots n slot page 0 other ∙ puts.put slot (omega arith)
      ];
      later = λ slot past.
          at slot ∙ get_or-set_other a.slots n slot page 0 (λ same. absurd (omega arith))
          ∙ puts.later slot (omega arith);
      rest = put ∙ (λ m. record (puts.rest m) { slots = sym slots m; published = b.published });
    }

-- one slot more is not in use
pub puts-unused : (c : CoordSeatView) (pages : List ℕ) (bits n : ℕ) (a : CoordSeatView)
    → PutsFirst c pages bits n a
    → has_bit bits n ≡ false
    → PutsFirst c pages bits (n + 1) a
puts-unused c pages bits n a puts unused = record {
  all = puts.all;
  put = λ slot before. elim (cases_eq slot n) [
    | inl same ↦ puts.later slot (omega arith)
        ∙ (λ m. get_or (cond (sym unused m) pages c.slots) slot 0)
        ∙ (λ m. get_or (cond (has_bit bits (sym same m)) pages c.slots) slot 0)
    | inr other ↦ puts.put slot (omega arith)
  ];
  later = λ slot past. puts.later slot (omega arith);
  rest = puts.rest;
}

-- the page of a slot in use may be put there
pub may-put : (c : CoordSeatView) (pages : List ℕ) (bits n : ℕ) (a : CoordSeatView)
    → MayPublishChoice c pages bits
    → PutsFirst c pages bits n a
    → n < hot_pages
    → has_bit bits n ≡ true
    → MayPut a n (get_or pages n 0)
may-put c pages bits n a may puts below used =
    subst (λ (v : CoordSeatView). MayPut v n (get_or pages n 0)) (sym puts.rest) (record {
      all_in = may.all_in;
      joined = may.joined;
      slotted = may.slotted;
      there = below;
      known = may.choice.there n below used;
    })

-- slots that hold these pages are a lawful choice where these are
choice-held : (factor many : ℕ) (slots pages : List ℕ) (bits : ℕ)
    → HoldPages slots pages bits hot_pages
    → IsChoice factor many (λ i. get_or pages i 0) bits
    → IsChoice factor many (λ i. get_or slots i 0) bits
choice-held factor many slots pages bits holds choice = record {
  there = λ i below used. subst (λ n. n < many) (sym (holds i below used)) (choice.there i below used);
  apart = λ i j i_below j_below i_used j_used same.
      choice.apart i j i_below j_below i_used j_used
      (ap (bucket factor) (sym (holds i i_below i_used)) ∙ same ∙ ap (bucket factor) (holds j j_below j_used));
}

-- once all pages are in their slots, those in use may be published
pub may-publish_slots : (c : CoordSeatView) (pages : List ℕ) (bits : ℕ) (a : CoordSeatView)
    → MayPublishChoice c pages bits
    → PutsPages c (slots_with c.slots pages bits) a
    → bits < 2 ^ 64
    → MayPublishSlots a bits
may-publish_slots c pages bits a may puts width =
    subst (λ (v : CoordSeatView). MayPublishSlots v bits) (sym puts) (record {
      all_in = may.all_in;
      joined = may.joined;
      slotted = may.slotted;
      width = width;
      choice =
          choice-held c.opening.factor (length c.opening.counts) (slots_with c.slots pages bits) pages bits
          (with-used c.slots pages bits) may.choice;
    })

-- a slot's bit, by what it holds where it is in use
bit-held : (used : Bool) (page other : ℕ)
    → (used ≡ true → page ≡ other)
    → cond used (2 ^ page) 0 ≡ cond used (2 ^ other) 0
bit-held true page other same = ap (λ n. 2 ^ n) (same refl)
bit-held false page other same = refl

-- slots that hold the same pages where they are in use have the same mask
mask-held : (slots pages : List ℕ) (bits n : ℕ)
    → HoldPages slots pages bits n
    → mask_of_slots (λ i. get_or slots i 0) bits n ≡ mask_of_slots (λ i. get_or pages i 0) bits n
unfolding mask_of_slots
mask-held slots pages bits zero holds = refl
mask-held slots pages bits (suc n) holds =
    let rest = mask-held slots pages bits n (λ slot before used. holds slot (omega arith) used) in
    let here : cond (has_bit bits n) (2 ^ get_or slots n 0) 0 ≡ cond (has_bit bits n) (2 ^ get_or pages n 0) 0 =
    bit-held (has_bit bits n) (get_or slots n 0) (get_or pages n 0) (holds n (omega arith)) in
    λ m. bit_or (rest m) (here m)

-- so the slots with these pages have theirs
pub mask-with : (slots pages : List ℕ) (bits : ℕ)
    → mask_of_slots (λ i. get_or (slots_with slots pages bits) i 0) bits hot_pages
    ≡ mask_of_slots (λ i. get_or pages i 0) bits hot_pages
mask-with slots pages bits =
    mask-held (slots_with slots pages bits) pages bits hot_pages (with-used slots pages bits)
