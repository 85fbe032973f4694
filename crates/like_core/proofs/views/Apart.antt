-- The words of a board stand apart.
use Rattle.std.proofs.Common.{◌≡◌, ℕ, ◌+◌, ◌-◌, ◌*◌, ◌<◌, ◌≤◌, nat_lt, inl, inr, arith}
use Rattle.std.proofs.lemmas.Bool.{cond-true, cond-false, cases_lt, lt-ltb, le-ltb}
use Rattle.like_core.specs.views.Layout.{mask_place, word_of, WordsStandApart}

-- the place of one of the first 64 pages
pub word_of-first : (page : ℕ) → page < 64 → word_of page ≡ 16 * (page + 6)
unfolding word_of
word_of-first page below = cond-true (nat_lt page 64) (16 * (page + 6)) (16 * 70 + (page - 64)) (lt-ltb page 64 below)

-- the place of one of the others
pub word_of-dense : (page : ℕ) → 64 ≤ page → word_of page ≡ 16 * 70 + (page - 64)
unfolding word_of
word_of-dense page past = cond-false (nat_lt page 64) (16 * (page + 6)) (16 * 70 + (page - 64)) (le-ltb page 64 past)

-- it lies past the mask's and those of the slots
pub word_of-past : (page : ℕ) → mask_place + 80 ≤ word_of page
word_of-past page = elim (cases_lt page 64) [
  | inl below ↦ let here = word_of-first page below in omega arith
  | inr past ↦ let here = word_of-dense page past in omega arith
]

-- a later page's lies later
pub word_of-order : (page later : ℕ) → page < later → word_of page < word_of later
word_of-order page later less = elim (cases_lt later 64) [
  | inl below ↦
      let here = word_of-first page (omega arith) in
      let there = word_of-first later below in
      omega arith
  | inr past ↦
      let there = word_of-dense later past in
      elim (cases_lt page 64) [
        | inl below ↦ let here = word_of-first page below in omega arith
        | inr dense ↦ let here = word_of-dense page dense in omega arith
      ]
]

-- by 16 or more where the page is one of the first 64
word_of-apart : (page later : ℕ) → page < later → page < 64 → word_of page + 16 ≤ word_of later
word_of-apart page later less first =
    let here = word_of-first page first in
    elim (cases_lt later 64) [
      | inl below ↦ let there = word_of-first later below in omega arith
      | inr past ↦ let there = word_of-dense later past in omega arith
    ]

-- no two pages have the same
pub word_of-injective : (page other : ℕ) → word_of page ≡ word_of other → page ≡ other
word_of-injective page other same = elim (cases_lt page other) [
  | inl less ↦ let before = word_of-order page other less in absurd (omega arith)
  | inr past ↦ elim (cases_lt other page) [
    | inl less ↦ let before = word_of-order other page less in absurd (omega arith)
    | inr back ↦ omega arith
  ]
]

pub words_stand_apart : WordsStandApart
words_stand_apart = record {
  mask = omega arith;
  slots = λ slot. omega arith;
  slot_order = λ slot later less. omega arith;
  pages = λ slot page below. let past = word_of-past page in omega arith;
  order = word_of-order;
  apart = word_of-apart;
}
