-- Each page's count is written at its place, where the words of a board are made.
use Rattle.std.proofs.Common.{◌≡◌, ℕ, ◌+◌, ◌<◌, inl, inr, List, length, get_or, set, ◌∙◌, arith}
use Rattle.std.proofs.lemmas.Bool.{cases_eq}
use Rattle.std.proofs.lemmas.List.{get_or-set_same, get_or-set_other}
use Rattle.like_core.specs.views.Layout.{word_of}
use Rattle.like_core.proofs.views.Apart.{word_of-order, word_of-injective}

-- after one more page's count, all up to it stand at their places
pub counts_written : (words counts : List ℕ) (page : ℕ)
    → length words ≡ word_of (length counts)
    → page < length counts
    → ((k : ℕ) → k < page → get_or words (word_of k) 0 ≡ get_or counts k 0)
    → (k : ℕ)
    → k < page + 1
    → get_or (set words (word_of page) (get_or counts page 0)) (word_of k) 0 ≡ get_or counts k 0
counts_written words counts page wide on before k below =
    let count : ℕ = get_or counts page 0 in
    let inside = word_of-order page (length counts) on in
    elim (cases_eq k page) [
      | inl same ↦ rw same (get_or-set_same words (word_of page) count 0 (omega arith))
      | inr other ↦
          get_or-set_other words (word_of page) (word_of k) count 0 (λ eq. other (word_of-injective k page eq)) ∙
          before k (omega arith)
    ]
