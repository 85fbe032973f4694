-- A slice in which pages are split, one after the other, by the factor of a run.
use Rattle.std.proofs.Common.{◌≡◌, ℕ, ◌+◌, ◌<◌, ◌&&◌, ◌↔◌, nat_lt, Bool, true, false, length, inl, inr, sym, ap, ◌∙◌, arith}
use Rattle.std.proofs.lemmas.Bool.{and_from, and_parts, cases_eq, cases_lt, lt-ltb, ltb-true}
use Rattle.like_limits.specs.Buckets.{bucket, buckets, run_factor}
use Rattle.like_tables.specs.SplitPages.{MayPut, is_split}
use Rattle.like_tables.specs.SplitSlice.{IsSplitSlice, SplitSlice, bucket_in, has_split, with_split}
use Rattle.like_tables.proofs.ByPage.{MayPut-none, is_split-kept, is_split-put, is_split-with_page}
use Rattle.like_core.specs.Functions.{has_bit}
use Rattle.like_core.specs.Slots.{IsInSlot}
use Rattle.like_limits.specs.Limits.{hot_pages}
use Rattle.like_seat.specs.Kept.{AreSlotsApart, IsFilledBySlots}
use Rattle.like_core.proofs.Below.{same_truth}

-- in a run page i has bucket i
pub bucket-run : (page : ℕ) → page < buckets → bucket run_factor page ≡ page
bucket-run page small = omega arith

-- a page has its number still, where the factor and the many numbers are as before
pub number-kept : (s after : SplitSlice) (page : ℕ) → after.splits.factor ≡ s.splits.factor
    → length after.counts ≡ length s.counts → bucket_in s page < length s.counts
    → bucket_in after page < length after.counts
number-kept s after page factor long here =
    let same : bucket_in after page ≡ bucket_in s page = ap (λ f. bucket f page) factor in
    omega (arith, same, long, here)

-- a page that is below n is below n + 1
more : (test : ℕ → Bool) (n page : ℕ) → (nat_lt page n && test page) ≡ true → (nat_lt page (n + 1) && test page) ≡ true
more test n page held =
    let both = and_parts (nat_lt page n) (test page) held in
    and_from (nat_lt page (n + 1)) (test page)
    (lt-ltb page (n + 1) (omega (arith, ltb-true page n both.0))) both.1

module _ (s : SplitSlice) (is : IsSplitSlice s) (factor : s.splits.factor ≡ run_factor) (test : ℕ → Bool) (n : ℕ)
    (small : n < buckets) (splits : (page : ℕ) → has_split s page ≡ (nat_lt page n && test page)) where
  -- a page that is split is below n
  below : (page : ℕ) → has_split s page ≡ true → page < n
  below page held = ltb-true page n (and_parts (nat_lt page n) (test page) (sym (splits page) ∙ held)).0

  -- so the next page may be split
  pub fill-may : MayPut s.splits n
  fill-may =
      MayPut-none s.splits n is.pages
      (λ other held same.
      let less = below other held in
      let there = bucket-run n small in
      let here = bucket-run other (omega arith) in
      let equal : bucket run_factor other ≡ bucket run_factor n =
      sym (ap (λ f. bucket f other) factor) ∙ same ∙ ap (λ f. bucket f n) factor in
      absurd (omega (arith, less, there, here, equal)))

  -- it is split
  pub fill-put : test n ≡ true → (page : ℕ) → has_split (with_split s n) page ≡ (nat_lt page (n + 1) && test page)
  fill-put held page =
      same_truth (has_split (with_split s n) page) (nat_lt page (n + 1) && test page)
      (λ put. elim (is_split-with_page s.splits n page is.pages fill-may put) [
        | inl same ↦
            and_from (nat_lt page (n + 1)) (test page) (lt-ltb page (n + 1) (omega arith)) (ap test same ∙ held)
        | inr was ↦ more test n page (sym (splits page) ∙ was)
      ])
      (λ both. let parts = and_parts (nat_lt page (n + 1)) (test page) both in
      elim (cases_eq page n) [
        | inl same ↦ ap (is_split (with_split s n).splits) same ∙ is_split-put s.splits n is.pages
        | inr apart ↦
            let less : page < n = omega (arith, ltb-true page (n + 1) parts.0) in
            is_split-kept s.splits n page is.pages fill-may
            (splits page ∙ and_from (nat_lt page n) (test page) (lt-ltb page n less) parts.1)
      ])

  -- or it is not to be split
  pub fill-skip : test n ≡ false → (page : ℕ) → has_split s page ≡ (nat_lt page (n + 1) && test page)
  fill-skip not_it page =
      splits page
      ∙ same_truth (nat_lt page n && test page) (nat_lt page (n + 1) && test page) (more test n page)
      (λ both. let parts = and_parts (nat_lt page (n + 1)) (test page) both in
      elim (cases_eq page n) [
        | inl same ↦ absurd (cc (parts.1, ap test same, not_it))
        | inr apart ↦
            and_from (nat_lt page n) (test page)
            (lt-ltb page n (omega (arith, ltb-true page (n + 1) parts.0))) parts.1
      ])

-- a slot before n is one before n + 1
later : (slots : ℕ → ℕ) (word n page : ℕ) → IsInSlot slots word n page → IsInSlot slots word (n + 1) page
later slots word n page i = record { slot = i.slot; below = omega (arith, i.below); used = i.used; holds = i.holds }

module _ (s0 s : SplitSlice) (slots : ℕ → ℕ) (word n : ℕ) (small : n < hot_pages)
    (apart : AreSlotsApart s0.splits.factor slots word) (f : IsFilledBySlots s0 slots word n s) where
  -- the page in the next slot in use may be split
  pub slot-may : has_bit word n ≡ true → MayPut s.splits (slots n)
  slot-may used =
      MayPut-none s.splits (slots n) f.slice.pages
      (λ other held same.
      let i = (f.splits other).0 held in
      let equal : bucket s0.splits.factor (slots i.slot) ≡ bucket s0.splits.factor (slots n) =
      ap (bucket s0.splits.factor) i.holds ∙ ap (λ x. bucket x other) (sym f.factor) ∙ same
      ∙ ap (λ x. bucket x (slots n)) f.factor in
      absurd (omega (arith, i.below, apart i.slot n (omega (arith, i.below)) small i.used used equal)))

  -- it is split
  pub slot-splits : has_bit word n ≡ true → (page : ℕ)
      → (has_split (with_split s (slots n)) page ≡ true) ↔ IsInSlot slots word (n + 1) page
  slot-splits used page = (
    λ held. elim (is_split-with_page s.splits (slots n) page f.slice.pages (slot-may used) held) [
      | inl same ↦ record { slot = n; below = omega arith; used = used; holds = sym same }
      | inr was ↦ later slots word n page ((f.splits page).0 was)
    ],
    λ i. elim (cases_lt i.slot n) [
      | inl before ↦
          is_split-kept s.splits (slots n) page f.slice.pages (slot-may used)
          ((f.splits page).1 (record { slot = i.slot; below = before; used = i.used; holds = i.holds }))
      | inr last ↦
          let here : i.slot ≡ n = omega (arith, i.below) in
          ap (is_split (with_split s (slots n)).splits) (sym i.holds ∙ ap slots here)
          ∙ is_split-put s.splits (slots n) f.slice.pages
    ],
  )

  -- or its slot is not in use
  pub slot-skips : has_bit word n ≡ false → (page : ℕ) → (has_split s page ≡ true) ↔ IsInSlot slots word (n + 1) page
  slot-skips free page = (
    λ held. later slots word n page ((f.splits page).0 held),
    λ i. elim (cases_lt i.slot n) [
      | inl before ↦ (f.splits page).1 (record { slot = i.slot; below = before; used = i.used; holds = i.holds })
      | inr last ↦
          let here : i.slot ≡ n = omega (arith, i.below) in
          absurd (cc (ap (has_bit word) (sym here) ∙ i.used, free))
    ],
  )
