-- A row of last likes, rank by rank.
use Rattle.std.proofs.Common.{◌≡◌, ℕ, ◌+◌, ◌<◌, List, length, get_or, set, Option, None, inl, inr, sym, ap, ◌∙◌, arith, get_or-set_same, get_or-set_other}
use Rattle.std.proofs.lemmas.Bool.{cases_eq}
use Rattle.like_tables.specs.LastLike.{page_or_none}
use Rattle.like_tables.specs.Ranks.{AreLastsFrom, table_of}
use Rattle.like_tables.specs.Share.{Share}
use Rattle.like_tables.proofs.Ranks.{last_at-owned, last_of-table_of}

-- a row has what stands at so many ranks, from one on
abbrev pub AreWritten : List (Option ℕ) → ℕ → List ℕ → ℕ → Type 0
AreWritten pages from row ranks =
    (i : ℕ) → i < ranks → get_or row i 0 ≡ page_or_none (get_or pages (from + i) None)

pub written-none : (pages : List (Option ℕ)) (from : ℕ) (row : List ℕ) → AreWritten pages from row 0
written-none pages from row i less = absurd (omega (arith, less))

-- one rank more
pub written-more : (pages : List (Option ℕ)) (from : ℕ) (row : List ℕ) (rank number : ℕ) → rank < length row
    → number ≡ page_or_none (get_or pages (from + rank) None) → AreWritten pages from row rank
    → AreWritten pages from (set row rank number) (rank + 1)
written-more pages from row rank number within is before i less =
    elim (cases_eq i rank) [
      | inl same ↦ rw same (get_or-set_same row rank number 0 within ∙ is)
      | inr apart ↦ get_or-set_other row rank i number 0 apart ∙ before i (omega (arith, less, apart))
    ]

-- once all are written, they are last likes of the table
pub written-lasts : (s : Share) (pages : List (Option ℕ)) (from : ℕ) (row : List ℕ)
    → AreWritten pages from row (length row)
    → AreLastsFrom (table_of s pages) from row
written-lasts s pages from row written user i owned rank less =
    written i less
    ∙ ap page_or_none (ap (λ p. get_or pages p None) (sym rank) ∙ sym (last_at-owned s pages user owned)
    ∙ sym (last_of-table_of s pages user))
