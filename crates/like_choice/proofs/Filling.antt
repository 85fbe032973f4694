-- Pages put into free slots, one after another.
use Rattle.std.proofs.Common.{◌≡◌, ℕ, zero, suc, ◌<◌, ◌==◌, ◌||◌, ◌⊎◌, inl, inr, true, false, List, [], ◌∷◌, ◌++◌, length, get_or, set, refl, sym, ap, ◌∙◌, subst, arith, get_or-set_same, get_or-set_other, slice_index}
use Rattle.std.specs.List.{Contains}
use Rattle.std.proofs.Common.{◌+◌, ◌-◌, ◌≤◌}
use Rattle.std.proofs.lemmas.List.{get_or_append_left, get_or_default, get_or-append_right, length-append}
use Rattle.std.proofs.lemmas.Bool.{both_ways, cases_lt, or_left, or_right, eq-eqb}
use Rattle.std.proofs.lemmas.List.Elements.{Contains-append_left, Contains-append_right}
use Rattle.like_limits.specs.Limits.{hot_pages}
use Rattle.like_limits.specs.Buckets.{bucket}
use Rattle.like_core.specs.Functions.{has_bit}
use Rattle.like_core.specs.Slots.{IsChoice}
use Rattle.like_choice.specs.Slots.{IsTaken}
use Rattle.like_choice.specs.Steps.{CameBy, Fills, IsServedBy}
use Rattle.like_choice.proofs.Masks.{in_use-set}

-- a slot that is free, and the page in it after it was put there
record IsPut (factor page : ℕ) (slots : List ℕ) (bits after slot : ℕ) : Type 0 where
  all : length slots ≡ hot_pages
  there : slot < hot_pages
  free : has_bit bits slot ≡ false
  sets : (i : ℕ) → has_bit after i ≡ (has_bit bits i || (i == slot))
  apart : ¬ (IsTaken factor slots bits page)

-- the pages of the other slots in use
old-page : {factor page : ℕ} {slots : List ℕ} {bits after slot : ℕ} → IsPut factor page slots bits after slot
    → (i : ℕ) → has_bit bits i ≡ true → get_or (set slots slot page) i 0 ≡ get_or slots i 0
old-page {factor} {page} {slots} {bits} {after} {slot} put i was =
    get_or-set_other slots slot i page 0
    (λ e. both_ways (has_bit bits slot) put.free (ap (has_bit bits) (sym e) ∙ was))

-- the page of the slot
new-page : {factor page : ℕ} {slots : List ℕ} {bits after slot : ℕ} → IsPut factor page slots bits after slot
    → (i : ℕ) → i ≡ slot → get_or (set slots slot page) i 0 ≡ page
new-page {factor} {page} {slots} {bits} {after} {slot} put i is =
    ap (λ k. get_or (set slots slot page) k 0) is
    ∙ get_or-set_same slots slot page 0 (omega (arith, put.all, put.there))

-- a slot in use afterwards was in use, or it is that one
used-put : {factor page : ℕ} {slots : List ℕ} {bits after slot : ℕ} → IsPut factor page slots bits after slot
    → (i : ℕ) → has_bit after i ≡ true → (has_bit bits i ≡ true) ⊎ (i ≡ slot)
used-put {factor} {page} {slots} {bits} {after} {slot} put = in_use-set bits after slot put.sets

-- the slot is in use
put-used : {factor page : ℕ} {slots : List ℕ} {bits after slot : ℕ} → IsPut factor page slots bits after slot
    → has_bit after slot ≡ true
put-used {factor} {page} {slots} {bits} {after} {slot} put =
    put.sets slot ∙ or_right (has_bit bits slot) (slot == slot) (eq-eqb slot slot refl)

-- where another slot in use had the bucket, it was taken
put-alone : {factor page : ℕ} {slots : List ℕ} {bits after slot : ℕ} → IsPut factor page slots bits after slot
    → (i j : ℕ) → i < hot_pages → has_bit bits i ≡ true → j ≡ slot
    → bucket factor (get_or (set slots slot page) i 0) ≡ bucket factor (get_or (set slots slot page) j 0) → i ≡ j
put-alone {factor} {page} {slots} {bits} {after} {slot} put i j small was is same =
    absurd (put.apart (
      i,
      (small, was),
      ap (bucket factor) (sym (old-page put i was)) ∙ same ∙ ap (bucket factor) (new-page put j is),
    ))

-- the buckets of the slots in use stay apart
put-apart : {factor page : ℕ} {slots : List ℕ} {bits after slot pages : ℕ}
    → IsPut factor page slots bits after slot → IsChoice factor pages (slice_index slots) bits
    → (i j : ℕ) → i < hot_pages → j < hot_pages → has_bit after i ≡ true → has_bit after j ≡ true
    → bucket factor (get_or (set slots slot page) i 0) ≡ bucket factor (get_or (set slots slot page) j 0) → i ≡ j
put-apart {factor} {page} {slots} {bits} {after} {slot} put choice i j i_small j_small i_used j_used same =
    elim (used-put put i i_used) [
      | inl i_was ↦ elim (used-put put j j_used) [
        | inl j_was ↦ choice.apart i j i_small j_small i_was j_was
            (ap (bucket factor) (sym (old-page put i i_was)) ∙ same ∙ ap (bucket factor) (old-page put j j_was))
        | inr j_is ↦ put-alone put i j i_small i_was j_is same
      ]
      | inr i_is ↦ elim (used-put put j j_used) [
        | inl j_was ↦ sym (put-alone put j i j_small j_was i_is (sym same))
        | inr j_is ↦ i_is ∙ sym j_is
      ]
    ]

-- the only page of a list is in
put-left : {factor page : ℕ} {slots : List ℕ} {bits after slot : ℕ} → IsPut factor page slots bits after slot
    → (pages k : ℕ) → k < length (page ∷ []) → get_or (page ∷ []) k 0 < pages
    → IsServedBy factor (page ∷ []) k bits (set slots slot page) after
put-left {factor} {page} {slots} {bits} {after} {slot} put pages zero below there = inl (
  slot,
  (put.there, put-used put),
  ap (bucket factor) (new-page put slot refl),
  inr (0, omega arith, sym (new-page put slot refl)),
)
put-left put pages (suc k) below there = absurd (omega (arith, below))

-- a page is put into a free slot
pub Fills-put : (factor pages page : ℕ) (slots : List ℕ) (bits after slot : ℕ) → length slots ≡ hot_pages
    → slot < hot_pages → has_bit bits slot ≡ false
    → ((i : ℕ) → has_bit after i ≡ (has_bit bits i || (i == slot)))
    → page < pages → ¬ (IsTaken factor slots bits page)
    → Fills factor pages (page ∷ []) slots bits (set slots slot page) after
Fills-put factor pages page slots bits after slot all there free sets below apart =
    let put : IsPut factor page slots bits after slot =
    record { all = all; there = there; free = free; sets = sets; apart = apart } in
    record {
      stay = λ i used. (sets i ∙ or_left (has_bit bits i) (i == slot) used.1, old-page put i used.1);
      asked = λ i used. elim (used-put put i used.1) [
        | inl was ↦ inl was
        | inr is ↦ inr (0, omega arith, sym (new-page put i is))
      ];
      lawful = λ choice. record {
        there = λ i small used. elim (used-put put i used) [
          | inl was ↦ subst (λ p. p < pages) (sym (old-page put i was)) (choice.there i small was)
          | inr is ↦ subst (λ p. p < pages) (sym (new-page put i is)) below
        ];
        apart = put-apart put choice;
      };
      left_out = put-left put pages;
    }

-- what came by the first list
came-first : (some more : List ℕ) (k bits slot : ℕ) (between after : List ℕ) → k < length some
    → get_or after slot 0 ≡ get_or between slot 0 → CameBy some k bits between slot
    → CameBy (some ++ more) k bits after slot
came-first some more k bits slot between after early stay by = elim by [
  | inl was ↦ inl was
  | inr at ↦ inr (
    at.0,
    at.1,
    get_or_append_left some more 0 at.0 (omega (arith, at.1, early)) ∙ at.2 ∙ sym stay,
  )
]

-- what came by the second, or by the first before it
came-second : (factor pages : ℕ) (some more slots : List ℕ) (bits : ℕ) (between : List ℕ) (bits_between : ℕ)
    (after : List ℕ) (k slot : ℕ) → Fills factor pages some slots bits between bits_between
    → length some ≤ k → slot < hot_pages
    → (has_bit bits_between slot ≡ true → get_or after slot 0 ≡ get_or between slot 0)
    → CameBy more (k - length some) bits_between after slot → CameBy (some ++ more) k bits after slot
came-second factor pages some more slots bits between bits_between after k slot first late small stay by = elim by [
  | inl was ↦ elim (first.asked slot (small, was)) [
    | inl had ↦ inl had
    | inr among ↦ inr (
      among.0,
      omega (arith, among.1, late),
      get_or_append_left some more 0 among.0 among.1
          ∙ get_or_default some among.0 0 (get_or between slot 0) among.1 ∙ among.2 ∙ sym (stay was),
    )
  ]
  | inr at ↦ inr (
    length some + at.0,
    omega (arith, at.1, late),
    get_or-append_right some more (length some) (length some + at.0) 0 refl (omega arith)
        ∙ ap (λ i. get_or more i 0) (omega arith) ∙ at.2,
  )
]

-- one list of pages after another
pub Fills-more : (factor pages : ℕ) (some more slots : List ℕ) (bits : ℕ) (between : List ℕ) (bits_between : ℕ)
    (after : List ℕ) (bits_after : ℕ) → Fills factor pages some slots bits between bits_between
    → Fills factor pages more between bits_between after bits_after
    → Fills factor pages (some ++ more) slots bits after bits_after
Fills-more factor pages some more slots bits between bits_between after bits_after first second = record {
  stay = λ slot used.
      let one = first.stay slot used in
      let two = second.stay slot (used.0, one.0) in
      (two.0, two.1 ∙ one.1);
  asked = λ slot used. elim (second.asked slot used) [
    | inl was ↦ elim (first.asked slot (used.0, was)) [
      | inl had ↦ inl had
      | inr among ↦ inr (Contains-append_left some more _
          (subst (λ p. Contains some p) (sym (second.stay slot (used.0, was)).1) among))
    ]
    | inr among ↦ inr (Contains-append_right some more _ among)
  ];
  lawful = λ choice. second.lawful (first.lawful choice);
  left_out = λ k below there. elim (cases_lt k (length some)) [
    | inl early ↦
        let is : get_or (some ++ more) k 0 ≡ get_or some k 0 = get_or_append_left some more 0 k early in
        elim (first.left_out k early (subst (λ p. p < pages) is there)) [
          | inl at ↦
              let kept = second.stay at.0 at.1 in
              inl (
                at.0,
                (at.1.0, kept.0),
                ap (bucket factor) kept.1 ∙ at.2 ∙ ap (bucket factor) (sym is),
                came-first some more k bits at.0 between after early kept.1 at.3,
              )
          | inr all ↦ inr (λ slot small.
              let kept = second.stay slot (small, (all slot small).0) in
              (kept.0, came-first some more k bits slot between after early kept.1 (all slot small).1))
        ]
    | inr late ↦
        let past : length some ≤ k = omega (arith, late) in
        let is : get_or (some ++ more) k 0 ≡ get_or more (k - length some) 0 =
        get_or-append_right some more (length some) k 0 refl past in
        let small : k - length some < length more = omega (arith, below, past, length-append some more) in
        elim (second.left_out (k - length some) small (subst (λ p. p < pages) is there)) [
          | inl at ↦ inl (
            at.0,
            at.1,
            at.2 ∙ ap (bucket factor) (sym is),
            came-second factor pages some more slots bits between bits_between after k at.0 first past at.1.0
                (λ was. (second.stay at.0 (at.1.0, was)).1) at.3,
          )
          | inr all ↦ inr (λ slot there. (
            (all slot there).0,
            came-second factor pages some more slots bits between bits_between after k slot first past there
                (λ was. (second.stay slot (there, was)).1) (all slot there).1,
          ))
        ]
  ];
}
