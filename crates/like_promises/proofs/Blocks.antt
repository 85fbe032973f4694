-- How the blocks of run order grow.
use Rattle.std.proofs.Common.{◌≡◌, ◌≢◌, ℕ, zero, suc, ◌+◌, ◌-◌, ◌<◌, ◌≤◌, ◌%◌, Bool, true, false, eqb, ◌==◌, ◌&&◌, not, List, [], ◌∷◌, ◌++◌, length, map, Option, Some, None, refl, ap, sym, ◌∙◌, subst, arith, add-one, append-nil, append_assoc}
use Rattle.std.proofs.lemmas.Bool.{eqb-true, ne_eqb, eq-eqb}
use Rattle.std.proofs.lemmas.Grind.{flat_map-append}
use Rattle.std.proofs.lemmas.List.{length-append, length-map, map-append}
use Rattle.std.proofs.lemmas.List.Elements.{All-append, All-map, All-nil, filter-append}
use Rattle.std.specs.List.{All, AllByRecursion, filter, flat_map, range_with_len}
use Rattle.std.specs.Option.{option_map_or}
use Rattle.like_promises.specs.declared.log.Took.{Took}
use Rattle.like_promises.specs.Asked.{asked}
use Rattle.like_promises.specs.Order.{Entry, block, entry_in, is_due, must_wait, order, phases_of, waited}
use Rattle.like_promises.specs.Store.{Ask, like, look, refuse}
use Rattle.like_promises.specs.Workload.{Workload, is_split_in}

-- taken in this phase, to run at once
abbrev pub is_prompt : Workload → ℕ → Took → Bool
is_prompt workload phase t = (t.phase == phase) && not (waited workload t)

-- how many of what was taken come out of the stash in a phase
abbrev pub stashed_in : Workload → ℕ → List Took → ℕ
stashed_in workload phase taken = length (filter (is_due workload phase) taken)

-- the blocks of the first phases, so many of them, joined end to end
abbrev pub order_below : Workload → List Took → ℕ → List Entry
order_below workload taken phases = flat_map (block workload taken) (range_with_len 0 phases)

-- what neither is due nor prompt in a phase changes no block of it
pub block-other : (workload : Workload) (xs : List Took) (t : Took) (k : ℕ)
    → is_due workload k t ≡ false
    → is_prompt workload k t ≡ false
    → block workload (xs ++ t ∷ []) k ≡ block workload xs k
block-other workload xs t k d p = simp (filter-append, d, p, append-nil)

-- what runs in the phase of taking comes last in its block
pub block-prompt : (workload : Workload) (xs : List Took) (t : Took) (k : ℕ)
    → is_due workload k t ≡ false
    → is_prompt workload k t ≡ true
    → block workload (xs ++ t ∷ []) k ≡ block workload xs k ++ entry_in k false t ∷ []
block-prompt workload xs t k d p = simp (filter-append, d, p, append-nil, map-append, append_assoc)

-- what has to wait comes last in the next block, as long as nothing was taken in that phase
pub block-due : (workload : Workload) (xs : List Took) (t : Took) (k : ℕ)
    → is_due workload k t ≡ true
    → is_prompt workload k t ≡ false
    → filter (is_prompt workload k) xs ≡ []
    → block workload (xs ++ t ∷ []) k ≡ block workload xs k ++ entry_in k true t ∷ []
block-due workload xs t k d p none = simp (filter-append, d, p, none, append-nil, map-append)

-- nothing waits in a joined phase
pub waited-joined : (workload : Workload) (t : Took) → t.phase % 2 ≡ 0 → waited workload t ≡ false
waited-joined workload t j = of_ask (asked workload t.submitter t.number) where
  even : eqb (t.phase % 2) 1 ≡ false
  even = rw j refl

  of_ask : (o : Option Ask) → option_map_or (must_wait (is_split_in workload t.phase)) o false ≡ false
  of_ask None = refl
  of_ask (Some (like user page)) = refl
  of_ask (Some (look user page)) = rw even refl
  of_ask (Some (refuse why)) = refl

-- what was taken before phase m runs in m at the latest
pub nothing_prompt : (workload : Workload) (xs : List Took) (m k : ℕ)
    → AllByRecursion (λ t. t.phase + 1 ≤ m) xs
    → m ≤ k
    → filter (is_prompt workload k) xs ≡ []
nothing_prompt workload [] m k all h = refl
nothing_prompt workload (t ∷ xs) m k all h =
    let other : eqb t.phase k ≡ false = ne_eqb t.phase k (λ e. absurd (omega (arith, all.0))) in
    rw other (nothing_prompt workload xs m k all.1 h)

pub nothing_due : (workload : Workload) (xs : List Took) (m k : ℕ)
    → AllByRecursion (λ t. t.phase + 1 ≤ m) xs
    → m < k
    → filter (is_due workload k) xs ≡ []
nothing_due workload [] m k all h = refl
nothing_due workload (t ∷ xs) m k all h =
    let other : eqb (t.phase + 1) k ≡ false = ne_eqb (t.phase + 1) k (λ e. absurd (omega (arith, all.0))) in
    rw other (nothing_due workload xs m k all.1 h)

-- nothing is due after a joined phase
pub nothing_due-joined : (workload : Workload) (xs : List Took) (p : ℕ)
    → p % 2 ≡ 0
    → filter (is_due workload (p + 1)) xs ≡ []
nothing_due-joined workload [] p j = refl
nothing_due-joined workload (t ∷ xs) p j =
    rw (not_due (eqb (t.phase + 1) (p + 1)) refl) (nothing_due-joined workload xs p j) where
      not_due : (b : Bool) → eqb (t.phase + 1) (p + 1) ≡ b → is_due workload (p + 1) t ≡ false
      not_due false e = rw e refl
      not_due true e =
          let same : t.phase ≡ p = omega (arith, eqb-true (t.phase + 1) (p + 1) e) in
          rw (e, waited-joined workload t (ap (λ x. x % 2) same ∙ j)) refl

-- the block after a joined phase is empty as long as nothing later was taken
pub block-after_joined : (workload : Workload) (xs : List Took) (p : ℕ)
    → AllByRecursion (λ t. t.phase + 1 ≤ p + 1) xs
    → p % 2 ≡ 0
    → block workload xs (p + 1) ≡ []
block-after_joined workload xs p all j =
    rw (nothing_due-joined workload xs p j, nothing_prompt workload xs (p + 1) (p + 1) all (omega arith)) refl

-- a block that is later still is empty
pub block-later : (workload : Workload) (xs : List Took) (m k : ℕ)
    → AllByRecursion (λ t. t.phase + 1 ≤ m) xs
    → m < k
    → block workload xs k ≡ []
block-later workload xs m k all h =
    rw (nothing_due workload xs m k all h, nothing_prompt workload xs m k all (omega arith)) refl

-- one more number of a range
pub range_more : (a n : ℕ) → range_with_len a (suc n) ≡ range_with_len a n ++ (a + n) ∷ []
range_more a zero = ap (λ x. x ∷ []) (omega arith)
range_more a (suc n) =
    let e : (a + 1) + n ≡ a + suc n = omega arith in
    ap (λ xs. a ∷ xs) (range_more (a + 1) n) ∙ ap (λ x. a ∷ (range_with_len (a + 1) n ++ x ∷ [])) e

-- one more block
pub order_below-suc : (workload : Workload) (xs : List Took) (n : ℕ)
    → order_below workload xs (suc n) ≡ order_below workload xs n ++ block workload xs n
order_below-suc workload xs n =
    ap (flat_map (block workload xs)) (range_more 0 n)
    ∙ flat_map-append (block workload xs) (range_with_len 0 n) ((0 + n) ∷ [])
    ∙ ap (λ k. order_below workload xs n ++ (block workload xs k ++ [])) (omega arith)
    ∙ ap (λ ys. order_below workload xs n ++ ys) (append-nil _)

pub order_below-more : (workload : Workload) (xs : List Took) (n : ℕ)
    → order_below workload xs (n + 1) ≡ order_below workload xs n ++ block workload xs n
order_below-more workload xs n = ap (λ k. order_below workload xs k) (add-one n) ∙ order_below-suc workload xs n

-- lists with the same first blocks have the same order up to them
pub order_below-alike : (workload : Workload) (xs ys : List Took) (n : ℕ)
    → ((k : ℕ) → k < n → block workload xs k ≡ block workload ys k)
    → order_below workload xs n ≡ order_below workload ys n
order_below-alike workload xs ys zero h = refl
order_below-alike workload xs ys (suc n) h =
    order_below-suc workload xs n
    ∙ ap (λ zs. zs ++ block workload xs n) (order_below-alike workload xs ys n (λ k l. h k (omega arith)))
    ∙ ap (λ zs. order_below workload ys n ++ zs) (h n (omega arith))
    ∙ sym (order_below-suc workload ys n)

-- a test that fails on one side
and-false : (b : Bool) → (b && false) ≡ false
and-false true = refl
and-false false = refl

-- what is taken in a phase is neither due nor prompt in an earlier one
not_due-before : (workload : Workload) (t : Took) (k : ℕ) → k < t.phase + 1 → is_due workload k t ≡ false
not_due-before workload t k h =
    let other : eqb (t.phase + 1) k ≡ false = ne_eqb (t.phase + 1) k (λ e. absurd (omega arith)) in rw other refl

not_prompt-other : (workload : Workload) (t : Took) (k : ℕ) → t.phase ≢ k → is_prompt workload k t ≡ false
not_prompt-other workload t k h = rw (ne_eqb t.phase k h) refl

not_prompt-waits : (workload : Workload) (t : Took) (k : ℕ)
    → waited workload t ≡ true
    → is_prompt workload k t ≡ false
not_prompt-waits workload t k w = rw w (and-false (eqb t.phase k))

-- what runs in the phase of taking is the last of the order up to that phase
pub order_below-prompt : (workload : Workload) (xs : List Took) (t : Took) → waited workload t ≡ false
    → order_below workload (xs ++ t ∷ []) (t.phase + 1)
    ≡ order_below workload xs (t.phase + 1) ++ entry_in t.phase false t ∷ []
order_below-prompt workload xs t w =
    let prompt : is_prompt workload t.phase t ≡ true = rw (eq-eqb t.phase t.phase refl, w) refl in
    order_below-more workload (xs ++ t ∷ []) t.phase
    ∙ ap (λ zs. zs ++ block workload (xs ++ t ∷ []) t.phase)
    (order_below-alike workload (xs ++ t ∷ []) xs t.phase
    (λ k h. block-other workload xs t k (not_due-before workload t k (omega arith))
    (not_prompt-other workload t k (λ e. absurd (omega arith)))))
    ∙ ap (λ zs. order_below workload xs t.phase ++ zs)
    (block-prompt workload xs t t.phase (not_due-before workload t t.phase (omega arith)) prompt)
    ∙ sym (append_assoc (order_below workload xs t.phase) (block workload xs t.phase) (entry_in t.phase false t ∷ []))
    ∙ ap (λ zs. zs ++ entry_in t.phase false t ∷ []) (sym (order_below-more workload xs t.phase))

-- and changes nothing of the next block
pub block-next-prompt : (workload : Workload) (xs : List Took) (t : Took)
    → waited workload t ≡ false
    → block workload (xs ++ t ∷ []) (t.phase + 1) ≡ block workload xs (t.phase + 1)
block-next-prompt workload xs t w =
    let due : is_due workload (t.phase + 1) t ≡ false = rw w (and-false (eqb (t.phase + 1) (t.phase + 1))) in
    block-other workload xs t (t.phase + 1) due (not_prompt-other workload t (t.phase + 1) (λ e. absurd (omega arith)))

-- what has to wait changes nothing of the order up to its phase
pub order_below-waits : (workload : Workload) (xs : List Took) (t : Took) → waited workload t ≡ true
    → order_below workload (xs ++ t ∷ []) (t.phase + 1) ≡ order_below workload xs (t.phase + 1)
order_below-waits workload xs t w =
    order_below-alike workload (xs ++ t ∷ []) xs (t.phase + 1)
    (λ k h. block-other workload xs t k (not_due-before workload t k h) (not_prompt-waits workload t k w))

-- and is the last of the next block, as long as nothing was taken in that phase
pub block-next-waits : (workload : Workload) (xs : List Took) (t : Took)
    → waited workload t ≡ true
    → AllByRecursion (λ s. s.phase + 1 ≤ t.phase + 1) xs
    → block workload (xs ++ t ∷ []) (t.phase + 1) ≡ block workload xs (t.phase + 1) ++ entry_in (t.phase + 1) true t ∷ []
block-next-waits workload xs t w all =
    let due : is_due workload (t.phase + 1) t ≡ true = rw (eq-eqb (t.phase + 1) (t.phase + 1) refl, w) refl in
    block-due workload xs t (t.phase + 1) due (not_prompt-waits workload t (t.phase + 1) w)
    (nothing_prompt workload xs (t.phase + 1) (t.phase + 1) all (omega arith))

-- what runs in the phase of taking adds nothing to what comes out of the stash
pub stashed-prompt : (workload : Workload) (xs : List Took) (t : Took) (k : ℕ)
    → waited workload t ≡ false
    → stashed_in workload k (xs ++ t ∷ []) ≡ stashed_in workload k xs
stashed-prompt workload xs t k w = let due : is_due workload k t ≡ false = rw w (and-false (eqb (t.phase + 1) k)) in
    simp (filter-append, due, append-nil)

-- and what was taken in a phase adds to the next one alone
pub stashed-other : (workload : Workload) (xs : List Took) (t : Took) (k : ℕ)
    → t.phase + 1 ≢ k
    → stashed_in workload k (xs ++ t ∷ []) ≡ stashed_in workload k xs
stashed-other workload xs t k h = let due : is_due workload k t ≡ false = rw (ne_eqb (t.phase + 1) k h) refl in
    simp (filter-append, due, append-nil)

-- what comes out of the stash in a phase is in its block
pub stashed-block : (workload : Workload) (xs : List Took) (k : ℕ) → stashed_in workload k xs ≤ length (block workload xs k)
stashed-block workload xs k = simp (length-append, length-map) (omega arith)

-- each phase of taking is below the number of phases
phases_of-bounds : (xs : List Took) (n : ℕ) → phases_of xs ≤ n → AllByRecursion (λ t. t.phase + 1 ≤ n) xs
phases_of-bounds [] n h = tt
phases_of-bounds (t ∷ xs) n h = (omega arith, phases_of-bounds xs n (omega arith))

pub phases_of-within : (xs : List Took) (n : ℕ) → AllByRecursion (λ t. t.phase + 1 ≤ n) xs → phases_of xs ≤ n
phases_of-within [] n all = omega arith
phases_of-within (t ∷ xs) n all = omega (arith, all.0, phases_of-within xs n all.1)

-- more blocks than the run order has add nothing
order-more : (workload : Workload) (xs : List Took) (d : ℕ)
    → order_below workload xs ((phases_of xs + 1) + d) ≡ order workload xs
order-more workload xs zero = let e : (phases_of xs + 1) + 0 ≡ phases_of xs + 1 = omega arith in
    ap (λ n. order_below workload xs n) e
order-more workload xs (suc d) =
    let m = (phases_of xs + 1) + d in
    let e : (phases_of xs + 1) + suc d ≡ suc m = omega arith in
    ap (λ n. order_below workload xs n) e
    ∙ order_below-suc workload xs m
    ∙ ap (λ zs. order_below workload xs m ++ zs)
    (block-later workload xs (phases_of xs) m (phases_of-bounds xs (phases_of xs) (omega arith)) (omega arith))
    ∙ append-nil _
    ∙ order-more workload xs d

pub order-enough : (workload : Workload) (xs : List Took) (n : ℕ)
    → phases_of xs + 1 ≤ n
    → order_below workload xs n ≡ order workload xs
order-enough workload xs n h =
    let e : n ≡ (phases_of xs + 1) + (n - (phases_of xs + 1)) = omega arith in
    ap (λ k. order_below workload xs k) e ∙ order-more workload xs (n - (phases_of xs + 1))

-- where nothing was taken after a phase, the last block that run order has is the next phase's
pub order-parts : (workload : Workload) (xs : List Took) (p : ℕ)
    → AllByRecursion (λ t. t.phase + 1 ≤ p + 1) xs
    → order workload xs ≡ order_below workload xs (p + 1) ++ block workload xs (p + 1)
order-parts workload xs p all =
    sym (order-enough workload xs ((p + 1) + 1) (omega (arith, phases_of-within xs (p + 1) all)))
    ∙ order_below-more workload xs (p + 1)

-- the entries of a block are of its phase
pub block-phase : (workload : Workload) (xs : List Took) (k : ℕ) → All (λ e. e.phase ≡ k) (block workload xs k)
block-phase workload xs k =
    let P : Entry → Type 0 = λ e. e.phase ≡ k in
    let due : List Took = filter (is_due workload k) xs in
    let prompt : List Took = filter (is_prompt workload k) xs in
    All-append P (map (entry_in k true) due) (map (entry_in k false) prompt)
    (All-map P (entry_in k true) due (λ i d inside. refl)) (All-map P (entry_in k false) prompt (λ i d inside. refl))

-- and those of the first blocks of earlier ones
pub order_below-phases : (workload : Workload) (xs : List Took) (n : ℕ)
    → All (λ e. e.phase < n) (order_below workload xs n)
order_below-phases workload xs zero = All-nil (λ (e : Entry). e.phase < 0)
order_below-phases workload xs (suc n) =
    let P : Entry → Type 0 = λ e. e.phase < suc n in
    subst (All P) (sym (order_below-suc workload xs n))
    (All-append P (order_below workload xs n) (block workload xs n)
    (λ i d inside. let low = order_below-phases workload xs n i d inside in omega arith)
    (λ i d inside. let is = block-phase workload xs n i d inside in omega arith))
