-- The mask of pages that got enough likes, as the coordinator makes it.
use Rattle.std.proofs.Common.{◌≡◌, ℕ, zero, suc, ◌+◌, ◌*◌, ◌%◌, ◌^◌, ◌==◌, Bool, true, false, cond, leb, min, [], ◌∷◌, refl, sym, ap, ◌∙◌, arith, one-mul, zero-add, zero-mul}
use Rattle.std.proofs.lemmas.List.Sums.{sum_by-append}
use Rattle.std.specs.List.{range_with_len, sum_by}
use Rattle.like_limits.specs.Limits.{hot_pages}
use Rattle.like_core.specs.Functions.{mask, weight}
use Rattle.like_promises.specs.HotPages.{liked_pages}
use Rattle.like_promises.proofs.Blocks.{range_more}

-- the sum of the bits that pass a test is the mask of the test
pub mask-sum : (test : ℕ → Bool) (n : ℕ) → sum_by (λ i. cond (test i) (2 ^ i) 0) (range_with_len 0 n) ≡ mask test n
mask-sum test zero = refl
mask-sum test (suc n) =
    let bit : ℕ → ℕ = λ i. cond (test i) (2 ^ i) 0 in
    let one : sum_by bit (n ∷ []) ≡ bit n = omega arith in
    ap (sum_by bit) (range_more 0 n) ∙ sum_by-append bit (range_with_len 0 n) ((0 + n) ∷ [])
    ∙ ap (λ k. sum_by bit (range_with_len 0 n) + sum_by bit (k ∷ [])) (zero-add n)
    ∙ ap (λ m. sum_by bit (range_with_len 0 n) + m) (one ∙ last (test n))
    ∙ ap (λ m. m + weight (test n) * 2 ^ n) (mask-sum test n) where
      last : (b : Bool) → cond b (2 ^ n) 0 ≡ weight b * 2 ^ n
      last true = sym (one-mul (2 ^ n))
      last false = sym (zero-mul (2 ^ n))

-- so are the pages that got enough likes
pub liked_pages-is : (least pages : ℕ) (got : ℕ → ℕ → ℕ) (phase : ℕ)
    → liked_pages least pages got phase
    ≡ cond (phase % 2 == 1) (mask (λ page. leb least (got phase page)) (min hot_pages pages)) 0
liked_pages-is least pages got phase =
    ap (λ m. cond (phase % 2 == 1) m 0) (mask-sum (λ page. leb least (got phase page)) (min hot_pages pages))
