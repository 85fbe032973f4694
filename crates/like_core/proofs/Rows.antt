-- Rows of zeros.
use Rattle.std.proofs.Common.{◌≡◌, ℕ, inl, inr, List, length, EachIndex, slice_index}
use Rattle.std.proofs.lemmas.Bool.{cases_lt}
use Rattle.std.proofs.lemmas.List.{get_or_past}

-- a list of zeros reads as 0 past its end too
pub all_zero : (xs : List ℕ) → EachIndex xs (λ k. slice_index xs k ≡ 0) → (k : ℕ) → slice_index xs k ≡ 0
all_zero xs zero k =
    elim (cases_lt k (length xs)) [ inl within ↦ zero k within | inr past ↦ get_or_past xs k 0 past ]
