-- The numbers of what a worker took, beside those that its inboxes handed over.
use Rattle.std.proofs.Common.{◌≡◌, ◌≢◌, ℕ, ◌+◌, ◌*◌, ◌/◌, ◌%◌, ◌<◌, Bool, true, false, cond, eqb, List, [], ◌∷◌, ◌++◌, length, map, set, slice_get, Some, refl, sym, ap, ◌∙◌, arith, inl, inr, append-nil}
use Rattle.std.specs.List.{count_by, filter, range_with_len}
use Rattle.std.specs.Option.{option_map_or}
use Rattle.std.proofs.Math.Nat.{mul_comm, div-add-mod}
use Rattle.std.proofs.lemmas.Bool.{cases_Bool, cases_eq, eqb-true, eq-eqb}
use Rattle.std.proofs.lemmas.Bool.Decides.{eqb_tells}
use Rattle.std.proofs.lemmas.List.{length-map, map-append, map-id}
use Rattle.std.proofs.lemmas.List.Elements.{filter-append}
use Rattle.std.proofs.lemmas.List.FromFn.{length-range_with_len, map-range_with_len_more}
use Rattle.std.proofs.lemmas.List.Sums.{length-filter}
use Rattle.std.proofs.lemmas.Nat.{div-mul-add, mod-mul-add}
use Rattle.like_queue.specs.Inbox.{InboxView}
use Rattle.like_tables.specs.Share.{Share, rank_of, serves}
use Rattle.like_promises.specs.declared.log.Took.{Took}
use Rattle.like_promises.specs.Log.{numbers_taken}
use Rattle.like_crew.proofs.lists.Stepped.{slice_get-set_other, slice_get-set_same}
use Rattle.like_crew.specs.Server.{numbers_given, requests_taken}

-- one number more
range-more : (a n j : ℕ) → a + n ≡ j → range_with_len a (n + 1) ≡ range_with_len a n ++ j ∷ []
range-more a n j e =
    sym (map-id _) ∙ map-range_with_len_more (λ (x : ℕ). x) a n j e ∙ ap (λ xs. xs ++ j ∷ []) (map-id _)

-- one request more was taken
numbers-push : (s : ℕ) (taken : List Took) (t : Took)
    → numbers_taken s (taken ++ t ∷ []) ≡ numbers_taken s taken ++ cond (eqb t.submitter s) (t.number ∷ []) []
numbers-push s taken t =
    ap (map (λ (u : Took). u.number)) (filter-append (λ (u : Took). eqb u.submitter s) taken (t ∷ []))
    ∙ map-append (λ (u : Took). u.number) (filter (λ (u : Took). eqb u.submitter s) taken)
    (filter (λ (u : Took). eqb u.submitter s) (t ∷ []))
    ∙ ap (λ xs. numbers_taken s taken ++ xs) (one (eqb t.submitter s)) where
      one : (b : Bool) → map (λ (u : Took). u.number) (cond b (t ∷ []) []) ≡ cond b (t.number ∷ []) []
      one true = refl
      one false = refl

-- how many were taken from a submitter
pub count-taken : (s : ℕ) (taken : List Took) (n : ℕ)
    → numbers_taken s taken ≡ range_with_len 1 n
    → count_by (λ t. eqb t.submitter s) taken ≡ n
count-taken s taken n h =
    sym (length-filter (λ (t : Took). eqb t.submitter s) taken)
    ∙ sym (length-map (filter (λ (t : Took). eqb t.submitter s) taken) (λ (t : Took). t.number))
    ∙ ap (λ (xs : List ℕ). length xs) h ∙ length-range_with_len 1 n

module _ (share : Share) (is_worker : share.worker < share.workers) where
  -- the submitter at a place
  abbrev own : ℕ → ℕ
  own place = share.worker + share.workers * place

  turned : (place : ℕ) → own place ≡ place * share.workers + share.worker
  turned place = omega (arith, mul_comm share.workers place)

  serves-own : (place : ℕ) → serves share (own place) ≡ true
  serves-own place =
      eq-eqb _ _ (ap (λ n. n % share.workers) (turned place) ∙ mod-mul-add place share.workers share.worker is_worker)

  pub place-own : (place : ℕ) → rank_of share.workers (share.worker + share.workers * place) ≡ place
  place-own place = ap (λ n. n / share.workers) (turned place) ∙ div-mul-add place share.workers share.worker is_worker

  pub own-place : (s : ℕ) → serves share s ≡ true → s ≡ share.worker + share.workers * rank_of share.workers s
  own-place s h =
      let m : s % share.workers ≡ share.worker = eqb-true _ _ h in
      let d : share.workers * (s / share.workers) + s % share.workers ≡ s = div-add-mod s share.workers in
      omega (arith, m, d)

  -- what the inbox at a place has handed over
  pub given-own : (inboxes : List InboxView) (place : ℕ) (i : InboxView) → slice_get inboxes place ≡ Some i
      → numbers_given share inboxes (share.worker + share.workers * place) ≡ range_with_len 1 (requests_taken i)
  given-own inboxes place i h =
      ap (λ b. cond b
      (range_with_len 1
      (option_map_or requests_taken (slice_get inboxes (rank_of share.workers (own place))) 0)) [])
      (serves-own place)
      ∙ ap (λ p. range_with_len 1 (option_map_or requests_taken (slice_get inboxes p) 0)) (place-own place)
      ∙ ap (λ o. range_with_len 1 (option_map_or requests_taken o 0)) h

  -- a take from one inbox is none from another
  given-else : (inboxes : List InboxView) (place s : ℕ) (j : InboxView) → s ≢ own place
      → numbers_given share (set inboxes place j) s ≡ numbers_given share inboxes s
  given-else inboxes place s j other =
      elim (cases_Bool (serves share s)) [
        | inl served ↦
            let else_where : rank_of share.workers s ≢ place = λ e. other (own-place s served ∙ ap own e) in
            ap (λ o. cond (serves share s) (range_with_len 1 (option_map_or requests_taken o 0)) [])
            (slice_get-set_other inboxes place (rank_of share.workers s) j else_where)
        | inr no_one ↦
            ap (λ b. cond b
            (range_with_len 1
            (option_map_or requests_taken (slice_get (set inboxes place j) (rank_of share.workers s)) 0)) [])
            no_one
            ∙ sym (ap (λ b. cond b
            (range_with_len 1 (option_map_or requests_taken (slice_get inboxes (rank_of share.workers s)) 0)) [])
            no_one)
      ]

  module _ (inboxes : List InboxView) (taken : List Took) (place : ℕ) (i j : InboxView) (there : place < length inboxes)
      (here : slice_get inboxes place ≡ Some i)
      (old : (s : ℕ) → numbers_taken s taken ≡ numbers_given share inboxes s) where
    -- the next request was taken from it
    pub numbers-next : (t : Took) → t.submitter ≡ own place → t.number ≡ requests_taken i + 1
        → requests_taken j ≡ requests_taken i + 1
        → (s : ℕ) → numbers_taken s (taken ++ t ∷ []) ≡ numbers_given share (set inboxes place j) s
    numbers-next t of_it number more s =
        elim (eqb_tells t.submitter s) [
          | inl it ↦
              let mine : s ≡ own place = sym it.1 ∙ of_it in
              numbers-push s taken t
              ∙ ap (λ b. numbers_taken s taken ++ cond b (t.number ∷ []) []) it.0
              ∙ ap (λ xs. xs ++ t.number ∷ [])
              (old s ∙ ap (numbers_given share inboxes) mine ∙ given-own inboxes place i here)
              ∙ sym (range-more 1 (requests_taken i) t.number (omega (arith, number)))
              ∙ ap (range_with_len 1) (sym more)
              ∙ sym (ap (numbers_given share (set inboxes place j)) mine
              ∙ given-own (set inboxes place j) place j (slice_get-set_same inboxes place j there))
          | inr not_it ↦
              numbers-push s taken t
              ∙ ap (λ b. numbers_taken s taken ++ cond b (t.number ∷ []) []) not_it.0
              ∙ append-nil (numbers_taken s taken)
              ∙ old s
              ∙ sym (given-else inboxes place s j (λ e. not_it.1 (of_it ∙ sym e)))
        ]

    -- no request was taken from it
    pub numbers-same : requests_taken j ≡ requests_taken i → (s : ℕ)
        → numbers_taken s taken ≡ numbers_given share (set inboxes place j) s
    numbers-same same s =
        elim (cases_eq s (own place)) [
          | inl mine ↦
              old s ∙ ap (numbers_given share inboxes) mine ∙ given-own inboxes place i here
              ∙ ap (range_with_len 1) (sym same)
              ∙ sym (ap (numbers_given share (set inboxes place j)) mine
              ∙ given-own (set inboxes place j) place j (slice_get-set_same inboxes place j there))
          | inr other ↦ old s ∙ sym (given-else inboxes place s j other)
        ]
