-- Run order has each request that was taken once.
use Rattle.std.proofs.Common.{◌≡◌, ℕ, zero, suc, ◌+◌, ◌<◌, ◌≤◌, Bool, true, false, not, ◌&&◌, cond, eqb, ltb, List, [], ◌∷◌, map, filter, refl, sym, ap, ◌∙◌, arith, inl, inr, zero-add, add-zero, add-one}
use Rattle.std.specs.List.{sum_by}
use Rattle.std.proofs.Math.Nat.{le-max_left, le-max_right}
use Rattle.std.proofs.lemmas.Bool.{cases_eq, cases_lt, eq-eqb, ne_eqb, le-ltb, lt-ltb}
use Rattle.std.proofs.lemmas.List.Sums.{sum_by-append, sum_by-cons}
use Rattle.like_promises.specs.declared.log.Took.{Took}
use Rattle.like_promises.specs.Order.{Entry, block, entry_in, is_due, order, phases_of, waited}
use Rattle.like_promises.specs.Workload.{Workload}
use Rattle.like_promises.proofs.Blocks.{is_prompt, order_below, order_below-more}

-- h is what a request weighs, by its submitter and its number
module _ (h : ℕ → ℕ → ℕ) where
  abbrev pub weight_run : Entry → ℕ
  weight_run e = h e.submitter e.number

  abbrev pub weight_taken : Took → ℕ
  weight_taken t = h t.submitter t.number

  -- what passes a test weighs the same as it runs
  sum-passed : (p : Took → Bool) (k : ℕ) (stashed : Bool) (taken : List Took)
      → sum_by weight_run (map (entry_in k stashed) (filter p taken))
      ≡ sum_by (λ t. cond (p t) (weight_taken t) 0) taken
  sum-passed p k stashed [] = refl
  sum-passed p k stashed (t ∷ taken) =
      by_test (p t) (sum-passed p k stashed taken)
      ∙ sym (sum_by-cons (λ (u : Took). cond (p u) (weight_taken u) 0) t taken) where
        by_test : (b : Bool)
            → sum_by weight_run (map (entry_in k stashed) (filter p taken))
            ≡ sum_by (λ u. cond (p u) (weight_taken u) 0) taken
            → sum_by weight_run (map (entry_in k stashed) (cond b (t ∷ filter p taken) (filter p taken)))
            ≡ cond b (weight_taken t) 0 + sum_by (λ u. cond (p u) (weight_taken u) 0) taken
        by_test true rest =
            sum_by-cons weight_run (entry_in k stashed t) (map (entry_in k stashed) (filter p taken))
            ∙ ap (λ n. weight_taken t + n) rest
        by_test false rest = rest ∙ sym (zero-add _)

  -- a block
  sum-block : (workload : Workload) (taken : List Took) (k : ℕ)
      → sum_by weight_run (block workload taken k)
      ≡ sum_by (λ t. cond (is_due workload k t) (weight_taken t) 0) taken
      + sum_by (λ t. cond (is_prompt workload k t) (weight_taken t) 0) taken
  sum-block workload taken k =
      sum_by-append weight_run (map (entry_in k true) (filter (is_due workload k) taken))
      (map (entry_in k false) (filter (is_prompt workload k) taken))
      ∙ ap (λ n. n + sum_by weight_run (map (entry_in k false) (filter (is_prompt workload k) taken)))
      (sum-passed (is_due workload k) k true taken)
      ∙ ap (λ n. sum_by (λ t. cond (is_due workload k t) (weight_taken t) 0) taken + n)
      (sum-passed (is_prompt workload k) k false taken)

  -- sums of three tests at once
  sum-three : (a b c d : Took → ℕ) → ((t : Took) → a t + (b t + c t) ≡ d t) → (taken : List Took)
      → sum_by a taken + (sum_by b taken + sum_by c taken) ≡ sum_by d taken
  sum-three a b c d e [] = refl
  sum-three a b c d e (t ∷ taken) =
      omega (
        arith,
        sum_by-cons a t taken,
        sum_by-cons b t taken,
        sum_by-cons c t taken,
        sum_by-cons d t taken,
        e t,
        sum-three a b c d e taken,
      )

  -- the block in which a request runs
  abbrev runs_in : Workload → Took → ℕ
  runs_in workload t = cond (waited workload t) (t.phase + 1) t.phase

  step : (n k v : ℕ) → cond (ltb n k) v 0 + cond (eqb n k) v 0 ≡ cond (ltb n (k + 1)) v 0
  step n k v =
      elim (cases_lt n k) [
        | inl below ↦
            rw (
              lt-ltb n k below,
              ne_eqb n k (λ e. absurd (omega (arith, below, e))),
              lt-ltb n (k + 1) (omega (arith, below)),
            ) (add-zero v)
        | inr above ↦
            elim (cases_eq n k) [
              | inl same ↦
                  rw (le-ltb n k above, eq-eqb n k same, lt-ltb n (k + 1) (omega (arith, same))) (zero-add v)
              | inr other ↦
                  rw (le-ltb n k above, ne_eqb n k other, le-ltb n (k + 1) (omega (arith, above, other))) refl
            ]
      ]

  -- it runs in that block alone
  runs-once : (workload : Workload) (k : ℕ) (t : Took)
      → cond (ltb (runs_in workload t) k) (weight_taken t) 0
      + (cond (is_due workload k t) (weight_taken t) 0 + cond (is_prompt workload k t) (weight_taken t) 0)
      ≡ cond (ltb (runs_in workload t) (k + 1)) (weight_taken t) 0
  runs-once workload k t = by_wait (waited workload t) where
    and-true : (b : Bool) → (b && true) ≡ b
    and-true true = refl
    and-true false = refl

    and-false : (b : Bool) → (b && false) ≡ false
    and-false true = refl
    and-false false = refl

    by_wait : (w : Bool) → cond (ltb (cond w (t.phase + 1) t.phase) k) (weight_taken t) 0
        + (cond (eqb (t.phase + 1) k && w) (weight_taken t) 0 + cond (eqb t.phase k && not w) (weight_taken t) 0)
        ≡ cond (ltb (cond w (t.phase + 1) t.phase) (k + 1)) (weight_taken t) 0
    by_wait true = rw (
      and-true (eqb (t.phase + 1) k),
      and-false (eqb t.phase k),
      add-zero (cond (eqb (t.phase + 1) k) (weight_taken t) 0),
    ) (step (t.phase + 1) k (weight_taken t))
    by_wait false =
        rw (
          and-false (eqb (t.phase + 1) k),
          and-true (eqb t.phase k),
          zero-add (cond (eqb t.phase k) (weight_taken t) 0),
        ) (step t.phase k (weight_taken t))

  -- the first blocks
  none-below : (n : Took → ℕ) (taken : List Took) → sum_by (λ t. cond (ltb (n t) 0) (weight_taken t) 0) taken ≡ 0
  none-below n [] = refl
  none-below n (t ∷ taken) =
      sum_by-cons (λ (u : Took). cond (ltb (n u) 0) (weight_taken u) 0) t taken
      ∙ rw (le-ltb (n t) 0 (omega arith), none-below n taken) refl

  sum-below : (workload : Workload) (taken : List Took) (k : ℕ)
      → sum_by weight_run (order_below workload taken k)
      ≡ sum_by (λ t. cond (ltb (runs_in workload t) k) (weight_taken t) 0) taken
  sum-below workload taken zero = sym (none-below (runs_in workload) taken)
  sum-below workload taken (suc k) =
      ap (λ n. sum_by weight_run (order_below workload taken n)) (sym (add-one k))
      ∙ ap (sum_by weight_run) (order_below-more workload taken k)
      ∙ sum_by-append weight_run (order_below workload taken k) (block workload taken k)
      ∙ ap (λ n. n + sum_by weight_run (block workload taken k)) (sum-below workload taken k)
      ∙ ap (λ n. sum_by (λ t. cond (ltb (runs_in workload t) k) (weight_taken t) 0) taken + n)
      (sum-block workload taken k)
      ∙ sum-three (λ t. cond (ltb (runs_in workload t) k) (weight_taken t) 0)
      (λ t. cond (is_due workload k t) (weight_taken t) 0) (λ t. cond (is_prompt workload k t) (weight_taken t) 0)
      (λ t. cond (ltb (runs_in workload t) (k + 1)) (weight_taken t) 0) (runs-once workload k) taken
      ∙ ap (λ n. sum_by (λ t. cond (ltb (runs_in workload t) n) (weight_taken t) 0) taken) (add-one k)

  -- all blocks
  all-below : (workload : Workload) (taken : List Took) (k : ℕ) → phases_of taken ≤ k
      → sum_by (λ t. cond (ltb (runs_in workload t) (k + 1)) (weight_taken t) 0) taken ≡ sum_by weight_taken taken
  all-below workload [] k h = refl
  all-below workload (t ∷ taken) k h =
      let first : t.phase + 1 ≤ k = omega (arith, le-max_left (t.phase + 1) (phases_of taken), h) in
      let others : phases_of taken ≤ k = omega (arith, le-max_right (t.phase + 1) (phases_of taken), h) in
      sum_by-cons (λ (u : Took). cond (ltb (runs_in workload u) (k + 1)) (weight_taken u) 0) t taken
      ∙ ap (λ b. cond b (weight_taken t) 0
      + sum_by (λ u. cond (ltb (runs_in workload u) (k + 1)) (weight_taken u) 0) taken)
      (lt-ltb (runs_in workload t) (k + 1) (early (waited workload t) first))
      ∙ ap (λ n. weight_taken t + n) (all-below workload taken k others)
      ∙ sym (sum_by-cons weight_taken t taken) where
        early : (w : Bool) → t.phase + 1 ≤ k → cond w (t.phase + 1) t.phase < k + 1
        early true e = omega (arith, e)
        early false e = omega (arith, e)

  -- run order weighs what was taken
  pub order-weighs : (workload : Workload) (taken : List Took)
      → sum_by weight_run (order workload taken) ≡ sum_by weight_taken taken
  order-weighs workload taken =
      ap (λ n. sum_by weight_run (order_below workload taken n)) refl
      ∙ sum-below workload taken (phases_of taken + 1)
      ∙ all-below workload taken (phases_of taken) (omega arith)
