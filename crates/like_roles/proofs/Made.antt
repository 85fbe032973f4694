-- Lists that a worker is made with.
use Rattle.std.proofs.Common.{◌≡◌, ℕ, ◌+◌, ◌*◌, ◌<◌, ◌≤◌, List, [], ◌∷◌, ◌++◌, length, get_or, Some, ap, sym, ◌∙◌, inl, inr, arith, subst}
use Rattle.std.proofs.Math.Nat.{mul-add, mul-le-mul_left, mul-one}
use Rattle.std.proofs.Math.Seq.{get_or-append_seam}
use Rattle.std.proofs.lemmas.Bool.{cases_lt}
use Rattle.std.proofs.lemmas.List.{get_or_append_left, length-append}
use Rattle.std.proofs.lemmas.Option.{slice_get-get_or, slice_get_past}
use Rattle.std.specs.List.{slice_get}
use Rattle.like_tables.specs.Share.{dealt}
use Rattle.like_tables.proofs.Dealt.{is-dealt}

-- one more of the worker's submitters
pub own-each : (sizes own : List ℕ) (workers worker submitter : ℕ) → submitter ≡ worker + workers * length own
    → ((rank : ℕ) → rank < length own → get_or own rank 0 ≡ get_or sizes (worker + workers * rank) 0)
    → (rank : ℕ)
    → rank < length (own ++ get_or sizes submitter 0 ∷ [])
    → get_or (own ++ get_or sizes submitter 0 ∷ []) rank 0 ≡ get_or sizes (worker + workers * rank) 0
own-each sizes own workers worker submitter at each rank h =
    let n : rank < length own + 1 = simp length-append at h in
    elim (cases_lt rank (length own)) [
      | inl earlier ↦ get_or_append_left own (get_or sizes submitter 0 ∷ []) 0 rank earlier ∙ each rank earlier
      | inr at_end ↦
          let same : length own ≡ rank = omega arith in
          subst (λ k. get_or (own ++ get_or sizes submitter 0 ∷ []) k 0 ≡ get_or sizes (worker + workers * k) 0) same
          (get_or-append_seam own (get_or sizes submitter 0) [] 0 ∙ ap (λ s. get_or sizes s 0) at)
    ]

pub own-there : (sizes own : List ℕ) (workers worker submitter x : ℕ)
    → submitter ≡ worker + workers * length own
    → submitter < length sizes
    → ((rank : ℕ) → rank < length own → worker + workers * rank < length sizes)
    → (rank : ℕ) → rank < length (own ++ x ∷ []) → worker + workers * rank < length sizes
own-there sizes own workers worker submitter x at inside there rank h =
    let n : rank < length own + 1 = simp length-append at h in
    elim (cases_lt rank (length own)) [
      | inl earlier ↦ there rank earlier
      | inr at_end ↦
          let same : length own ≡ rank = omega arith in
          subst (λ k. worker + workers * k < length sizes) same (omega arith)
    ]

pub own-at : (workers worker submitter n : ℕ)
    → submitter ≡ worker + workers * n
    → submitter + workers ≡ worker + workers * (n + 1)
own-at workers worker submitter n at = rw (mul-add, mul-one) (omega arith)

-- where no more are there, they are what was dealt
pub own-dealt : (sizes own : List ℕ) (workers worker : ℕ) → 1 ≤ workers
    → ((rank : ℕ) → rank < length own → get_or own rank 0 ≡ get_or sizes (worker + workers * rank) 0)
    → ((rank : ℕ) → rank < length own → worker + workers * rank < length sizes)
    → length sizes ≤ worker + workers * length own → own ≡ dealt workers worker sizes
own-dealt sizes own workers worker some each there past = is-dealt workers worker sizes own some at_place where
  at_place : (rank : ℕ) → slice_get own rank ≡ slice_get sizes (worker + workers * rank)
  at_place rank =
      elim (cases_lt rank (length own)) [
        | inl inside ↦
            slice_get-get_or own rank 0 inside ∙ ap Some (each rank inside)
            ∙ sym (slice_get-get_or sizes (worker + workers * rank) 0 (there rank inside))
        | inr outside ↦
            let more = mul-le-mul_left workers outside in
            slice_get_past own rank outside
            ∙ sym (slice_get_past sizes (worker + workers * rank) (omega (arith, past, more)))
      ]
