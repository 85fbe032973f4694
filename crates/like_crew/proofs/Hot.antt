-- The hot pages that the coordinator chose by its counts are those that the run lists tell.
use Rattle.std.proofs.Common.{◌≡◌, ℕ, zero, suc, ◌+◌, ◌-◌, ◌%◌, ◌≤◌, ◌&&◌, Bool, true, false, cond, not, eqb, eqb-true, ltb, leb, min, List, [], ◌∷◌, ◌++◌, length, map, get_or, Option, Some, None, refl, sym, ap, ◌∙◌, arith}
use Rattle.std.specs.List.{All, filter, flat_map, range_with_len}
use Rattle.std.proofs.lemmas.Bool.{le-ltb}
use Rattle.std.proofs.lemmas.List.Elements.{filter-append}
use Rattle.std.proofs.lemmas.List.Sums.{sum_by-cons}
use Rattle.like_limits.specs.Limits.{hot_pages}
use Rattle.like_core.specs.Functions.{mask}
use Rattle.like_core.proofs.word.Masks.{mask_same}
use Rattle.like_promises.proofs.Blocks.{is_prompt, stashed_in}
use Rattle.like_promises.specs.declared.log.Ran.{Ran}
use Rattle.like_promises.specs.declared.log.Took.{Took}
use Rattle.like_roles.specs.coordinator.Choice.{likes_counted, total_before}
use Rattle.like_promises.specs.HotPages.{chosen_below, hot_by, liked_pages, max_chosen}
use Rattle.like_promises.specs.declared.log.WorkerLog.{WorkerLog}
use Rattle.like_promises.specs.Collected.{entries_in}
use Rattle.like_promises.specs.EndToEnd.{runs_of}
use Rattle.like_promises.specs.Likes.{initial_count, likes_among}
use Rattle.like_promises.specs.Report.{grew}
use Rattle.like_promises.specs.RunStore.{count_at}
use Rattle.like_promises.proofs.LikesBelow.{likes_below}
use Rattle.like_promises.proofs.LikedPages.{liked_pages-is}
use Rattle.like_promises.specs.Order.{Entry, block, entry_in, is_due, order, phases_of, waited}
use Rattle.like_promises.specs.Workload.{Workload}
use Rattle.like_roles.proofs.choice.Totals.{total_before-next}
use Rattle.like_roles.proofs.counts.Tallied.{likes_among-append}
use Rattle.like_serial.proofs.OneThread.{count_is}

-- the likes of a page before a phase, in the entries of all logs and by run list
entries-below : (workload : Workload) (page phase : ℕ) (logs : List WorkerLog)
    → likes_among workload page (filter (λ e. ltb e.phase phase) (entries_in logs))
    ≡ likes_below workload page (runs_of logs) phase
entries-below workload page phase [] = refl
entries-below workload page phase (log ∷ logs) =
    let early : List Ran → List Ran = filter (λ (e : Ran). ltb e.phase phase) in
    let rest = entries-below workload page phase logs in
    let first = sum_by-cons (λ (ran : List Ran). likes_among workload page (early ran)) log.ran.items (runs_of logs) in
    ap (likes_among workload page) (filter-append (λ (e : Ran). ltb e.phase phase) log.ran.items (entries_in logs))
    ∙ (likes_among-append workload page (early log.ran.items) (early (entries_in logs)) ∙ omega arith)

-- a page's count before a phase, by the run lists
pub count-before : (workload : Workload) (logs : List WorkerLog) (page phase : ℕ)
    → count_at workload (entries_in logs) page phase
    ≡ initial_count workload.pages page + likes_below workload page (runs_of logs) phase
count-before workload logs page phase =
    count_is workload (filter (λ (e : Ran). ltb e.phase phase) (entries_in logs)) page
    ∙ ap (λ n. initial_count workload.pages page + n) (entries-below workload page phase logs)

module _ (workload : Workload) (page : ℕ) where
  -- no like is before phase 0
  below-none : (runs : List (List Ran)) → likes_below workload page runs 0 ≡ 0
  below-none [] = refl
  below-none (ran ∷ runs) =
      let rest = below-none runs in
      let here : likes_among workload page (filter (λ e. ltb e.phase 0) ran) ≡ 0 =
      ap (likes_among workload page) (none ran) in
      omega (arith, sum_by-cons (λ (xs : List Ran). likes_among workload page (filter (λ e. ltb e.phase 0) xs)) ran runs)
    where
      none : (xs : List Ran) → filter (λ e. ltb e.phase 0) xs ≡ []
      none [] = refl
      none (x ∷ xs) =
          ap (λ (b : Bool). cond b (x ∷ filter (λ e. ltb e.phase 0) xs) (filter (λ e. ltb e.phase 0) xs))
          (le-ltb x.phase 0 (omega arith)) ∙ none xs

module _ (workload : Workload) (logs : List WorkerLog) (counts : List ℕ) where
  abbrev runs : List (List Ran)
  runs = runs_of logs

  -- a page's total at the end of a phase, by the run lists
  abbrev pub total : ℕ → ℕ → ℕ
  total phase page = get_or counts page 0 + likes_below workload page runs (phase + 1)

  -- what is counted between two choices is the growth in the two phases before the split one
  counted-growth : (k page : ℕ) → k % 2 ≡ 1 → likes_counted counts total k page ≡ grew workload (entries_in logs) k page
  counted-growth k page odd =
      let back : k - 1 ≡ k - 1 = refl in
      by_phase (k - 1) (omega (arith, odd)) where
        by_phase : (m : ℕ) → k ≡ suc m → likes_counted counts total k page ≡ grew workload (entries_in logs) k page
        by_phase m is = ap (λ n. total n page - total_before counts total n page) pred ∙ at m is
          where
            pred : k - 1 ≡ m
            pred = omega (arith, is)

            at : (m : ℕ) → k ≡ suc m
                → total m page - total_before counts total m page ≡ grew workload (entries_in logs) k page
            at zero first =
                let now = count-before workload logs page k in
                let before = count-before workload logs page (k - 2) in
                let none = below-none workload page runs in
                let up : likes_below workload page runs (0 + 1) ≡ likes_below workload page runs k =
                ap (likes_below workload page runs) (omega (arith, first)) in
                let low : likes_below workload page runs (k - 2) ≡ likes_below workload page runs 0 =
                ap (likes_below workload page runs) (omega (arith, first)) in
                omega (arith, now, before, none, up, low)
            at (suc j) later =
                let now = count-before workload logs page k in
                let before = count-before workload logs page (k - 2) in
                let up : likes_below workload page runs (suc j + 1) ≡ likes_below workload page runs k =
                ap (likes_below workload page runs) (omega (arith, later)) in
                let low : likes_below workload page runs (j - j % 2 + 1) ≡ likes_below workload page runs (k - 2) =
                ap (likes_below workload page runs) (omega (arith, later, odd)) in
                let next : suc j ≡ j + 1 = omega arith in
                let was : total_before counts total (suc j) page ≡ total (j - j % 2) page =
                ap (λ n. total_before counts total n page) next ∙ total_before-next counts total j page in
                ap (λ (n : ℕ). total (suc j) page - n) was ∙ omega (arith, now, before, up, low)

  -- so the hot pages are the same
  pub hot-same : (hot : Option ℕ) (pages k : ℕ)
      → hot_by hot pages (likes_counted counts total) k ≡ hot_by hot pages (grew workload (entries_in logs)) k
  hot-same None pages k = refl
  hot-same (Some least) pages k =
      ap (λ (f : ℕ → ℕ). cond (ltb (length (chosen_below f k)) max_chosen) (f k) 0) (λ i n. liked n i)
    where
      by_test : (b : Bool) (n : ℕ)
          → (b ≡ true → mask (λ page. leb least (likes_counted counts total n page)) (min hot_pages pages)
          ≡ mask (λ page. leb least (grew workload (entries_in logs) n page)) (min hot_pages pages))
          → cond b (mask (λ page. leb least (likes_counted counts total n page)) (min hot_pages pages)) 0
          ≡ cond b (mask (λ page. leb least (grew workload (entries_in logs) n page)) (min hot_pages pages)) 0
      by_test true n same = same refl
      by_test false n same = refl

      liked : (n : ℕ)
          → liked_pages least pages (likes_counted counts total) n
          ≡ liked_pages least pages (grew workload (entries_in logs)) n
      liked n = liked_pages-is least pages (likes_counted counts total) n
          ∙ by_test (eqb (n % 2) 1) n
          (λ yes_. mask_same _ _ (min hot_pages pages)
          (λ page below. ap (leb least) (counted-growth n page (eqb-true (n % 2) 1 yes_))))
          ∙ sym (liked_pages-is least pages (grew workload (entries_in logs)) n)

-- tests that agree on a list take the same of it
filter-same : {X : Type 0} (p q : X → Bool) (xs : List X) → All (λ x. p x ≡ q x) xs → filter p xs ≡ filter q xs
filter-same p q [] all = refl
filter-same p q (x ∷ xs) all =
    ap (λ b. cond b (x ∷ filter p xs) (filter p xs)) (all 0 x (omega arith))
    ∙ ap (λ ys. cond (q x) (x ∷ ys) ys) (filter-same p q xs (λ k d h. all (suc k) d (omega (arith, h))))

module _ (workload : Workload) (hot other : ℕ → ℕ) (phases : ℕ) (taken : List Took)
    (same : (k : ℕ) → k ≤ phases → hot k ≡ other k) (all : All (λ t. t.phase ≤ phases) taken) where
  waits-same : All
      (λ t. waited (record workload { hot = hot }) t ≡ waited (record workload { hot = other }) t) taken
  waits-same k d h =
      ap (λ (m : ℕ). waited (record workload { hot = λ _. m }) (get_or taken k d))
      (same (get_or taken k d).phase (all k d h))

  due-same : (k : ℕ)
      → filter (is_due (record workload { hot = hot }) k) taken
      ≡ filter (is_due (record workload { hot = other }) k) taken
  due-same k = filter-same (is_due (record workload { hot = hot }) k) (is_due (record workload { hot = other }) k) taken
      (λ i d h. ap (λ b. eqb ((get_or taken i d).phase + 1) k && b) (waits-same i d h))

  blocks : (k : ℕ) → block (record workload { hot = hot }) taken k ≡ block (record workload { hot = other }) taken k
  blocks k =
      ap (λ xs. map (entry_in k true) xs
      ++ map (entry_in k false) (filter (is_prompt (record workload { hot = hot }) k) taken)) (due-same k)
      ∙ ap (λ xs. map (entry_in k true) (filter (is_due (record workload { hot = other }) k) taken)
      ++ map (entry_in k false) xs)
      (filter-same (is_prompt (record workload { hot = hot }) k) (is_prompt (record workload { hot = other }) k) taken
      (λ i d h. ap (λ b. eqb (get_or taken i d).phase k && not b) (waits-same i d h)))

  -- the run order goes by the hot pages of the phases of taking alone
  pub order-same : order (record workload { hot = hot }) taken ≡ order (record workload { hot = other }) taken
  order-same = ap (λ (f : ℕ → List Entry). flat_map f (range_with_len 0 (phases_of taken + 1))) (λ i k. blocks k i)

  -- and so does what comes out of the stash
  pub stashed-same : (k : ℕ)
      → stashed_in (record workload { hot = hot }) k taken ≡ stashed_in (record workload { hot = other }) k taken
  stashed-same k = ap length (due-same k)
