-- Lists that are cut after 64 pages.
use Rattle.std.proofs.Common.{◌≡◌, ℕ, inl, inr, List, ◌++◌, length, take, ap, sym, ◌∙◌, arith}
use Rattle.std.proofs.lemmas.Bool.{cases_lt}
use Rattle.std.proofs.lemmas.List.{length-take-le, take_all, take_at, take-append-le}

-- what is cut and goes on is cut there again
pub cut-append : (n : ℕ) (xs ys : List ℕ) → take n (take n xs ++ ys) ≡ take n (xs ++ ys)
cut-append n xs ys = elim (cases_lt (length xs) n) [
  | inl short ↦ ap (λ zs. take n (zs ++ ys)) (take_all n xs (omega arith))
  | inr long ↦ take_at (take n xs) ys n (length-take-le n xs long) ∙ sym (take-append-le n xs ys long)
]
