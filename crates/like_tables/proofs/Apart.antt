-- Pages that are told apart by their buckets, one after the other.
use Rattle.std.proofs.Common.{◌≡◌, ◌≢◌, ℕ, ◌+◌, ◌<◌, ◌≤◌, Bool, true, false, List, length, get_or, set, inl, inr, sym, ap, ◌∙◌, arith, get_or-set_same, get_or-set_other}
use Rattle.std.proofs.lemmas.Bool.{cases_lt, cases_eq}
use Rattle.like_limits.specs.Buckets.{AreApart, bucket, buckets}
use Rattle.like_tables.proofs.Tagged.{bucket-lt}

-- the bucket of the page at a place
abbrev pub at : ℕ → List ℕ → ℕ → ℕ
at factor pages i = bucket factor (get_or pages i 0)

-- no two of the first n pages share a bucket, and just their buckets are marked
pub record AreMarked (factor : ℕ) (pages : List ℕ) (marks : List Bool) (n : ℕ) : Type 0 where
  pub apart : (i j : ℕ) → i < n → j < n → at factor pages i ≡ at factor pages j → i ≡ j
  pub marked : (i : ℕ) → i < n → get_or marks (at factor pages i) false ≡ true
  pub others : (b : ℕ) → ((i : ℕ) → i < n → at factor pages i ≢ b) → get_or marks b false ≡ false

-- of none
pub AreMarked-none : (factor : ℕ) (pages : List ℕ) (marks : List Bool)
    → ((b : ℕ) → get_or marks b false ≡ false) → AreMarked factor pages marks 0
AreMarked-none factor pages marks none = record {
  apart = λ i j less. absurd (omega (arith, less));
  marked = λ i less. absurd (omega (arith, less));
  others = λ b apart. none b;
}

-- the bucket of the next page is not marked, so none before it has its bucket
unlike : (factor : ℕ) (pages : List ℕ) (marks : List Bool) (n i : ℕ) → AreMarked factor pages marks n
    → get_or marks (at factor pages n) false ≡ false → i < n → at factor pages i ≢ at factor pages n
unlike factor pages marks n i m free less same =
    let marked = ap (λ b. get_or marks b false) (sym same) ∙ m.marked i less in absurd (cc (marked, free))

-- the next page's bucket was not marked, and is
pub AreMarked-next : (factor : ℕ) (pages : List ℕ) (marks : List Bool) (n b : ℕ) → length marks ≡ buckets
    → AreMarked factor pages marks n → b ≡ at factor pages n → get_or marks b false ≡ false
    → AreMarked factor pages (set marks b true) (n + 1)
AreMarked-next factor pages marks n b all m is free =
    let there : b < length marks = omega (arith, is, bucket-lt factor (get_or pages n 0)) in
    let free' : get_or marks (at factor pages n) false ≡ false = ap (λ k. get_or marks k false) (sym is) ∙ free in
    record {
      apart = λ i j less less' same. elim (cases_lt i n) [
        | inl before ↦ elim (cases_lt j n) [
          | inl before' ↦ m.apart i j before before' same
          | inr last' ↦
              let e : j ≡ n = omega arith in
              absurd (unlike factor pages marks n i m free' before (same ∙ ap (at factor pages) e))
        ]
        | inr last ↦ elim (cases_lt j n) [
          | inl before' ↦
              let e : i ≡ n = omega arith in
              absurd (unlike factor pages marks n j m free' before' (sym same ∙ ap (at factor pages) e))
          | inr last' ↦ omega arith
        ]
      ];
      marked = λ i less. elim (cases_eq (at factor pages i) b) [
        | inl here ↦ ap (λ k. get_or (set marks b true) k false) here ∙ get_or-set_same marks b true false there
        | inr apart ↦
            let before : i < n = elim (cases_lt i n) [
              | inl before ↦ before
              | inr last ↦ let e : i ≡ n = omega arith in absurd (apart (ap (at factor pages) e ∙ sym is))
            ] in
            get_or-set_other marks b (at factor pages i) true false apart ∙ m.marked i before
      ];
      others = λ k unlike'.
          get_or-set_other marks b k true false (λ same. unlike' n (omega arith) (sym (same ∙ is)))
          ∙ m.others k (λ i less. unlike' i (omega arith));
    }

-- the next page's bucket is marked, so an earlier page has it
pub shared : (factor : ℕ) (pages : List ℕ) (marks : List Bool) (n b : ℕ) → AreMarked factor pages marks n
    → b ≡ at factor pages n → n < length pages → get_or marks b false ≡ true → ¬ AreApart factor pages
shared factor pages marks n b m is less marked apart =
    let free = m.others b (λ i before same. absurd (omega (arith, apart i n (omega arith) less (same ∙ is)))) in
    absurd (cc (marked, free))

-- all pages were told apart
pub AreApart-all : (factor : ℕ) (pages : List ℕ) (marks : List Bool) (n : ℕ) → AreMarked factor pages marks n
    → length pages ≤ n → AreApart factor pages
AreApart-all factor pages marks n m all i j less less' same = m.apart i j (omega arith) (omega arith) same
