-- The limits of a run, by the numbers of its settings and by its lists.
use Rattle.std.proofs.Common.{◌≡◌, ℕ, zero, suc, ◌+◌, ◌<◌, ◌≤◌, List, [], ◌∷◌, ◌++◌, length, map, get_or, sym, ap, subst, refl, inl, inr, arith}
use Rattle.std.specs.List.{All, AllByRecursion, range_with_len}
use Rattle.std.proofs.lemmas.Bool.{cases_eq}
use Rattle.std.proofs.lemmas.List.{length-map}
use Rattle.std.proofs.lemmas.List.Elements.{All-map}
use Rattle.like_records.specs.First.{FailsFirst}
use Rattle.like_limits.specs.Limits.{max_requests, max_submitters}
use Rattle.like_requests.specs.Setup.{AreNumbersWithin, Holds, IsFirstBroken, IsHotLimit, IsPlan, IsThere, IsWithin, IsWithinLimits, number_limits}
use Rattle.like_requests.specs.Pages.{Page}
use Rattle.like_requests.specs.declared.request.Request.{Request}
use Rattle.like_requests.specs.declared.setup.Setup.{Setup}
use Rattle.like_requests.specs.declared.setup.SettingsFault.{SettingsFault}
use Rattle.like_requests.specs.declared.setup.SettingsFault.TheVariants.{Hot, Plan}

-- each page that the requests know exists
abbrev pub AreThere : List Page → List Request → Type 0
AreThere pages plan = All (λ r. IsThere (length pages) r.page) plan

module _ {X : Type 0} (Good : X → Type 0) where
  -- the first test that fails is behind those that hold
  fails-behind : (xs ys : List X) (x : X) → AllByRecursion Good xs → FailsFirst Good ys x → FailsFirst Good (xs ++ ys) x
  fails-behind [] ys x all fails = fails
  fails-behind (y ∷ xs) ys x all fails = inr (all.0, fails-behind xs ys x all.1 fails)

  -- what holds of two lists holds of both together
  all-both : (xs ys : List X) → AllByRecursion Good xs → AllByRecursion Good ys → AllByRecursion Good (xs ++ ys)
  all-both [] ys first rest = rest
  all-both (x ∷ xs) ys first rest = (first.0, all-both xs ys first.1 rest)

  all-first : (xs ys : List X) → AllByRecursion Good (xs ++ ys) → AllByRecursion Good xs
  all-first [] ys all = tt
  all-first (x ∷ xs) ys all = (all.0, all-first xs ys all.1)

module _ (s : Setup) (plans : List (List Request)) where
  -- the first list that is not good, behind those that are
  plan-fails : (a n i : ℕ) (rest : List SettingsFault) → a ≤ i → i < a + n → ((k : ℕ) → k < i → Holds s plans (Plan k))
      → ¬ Holds s plans (Plan i)
      → FailsFirst (Holds s plans) (map Plan (range_with_len a n) ++ rest) (Plan i)
  plan-fails a zero i rest low high good bad = absurd (omega arith)
  plan-fails a (suc n) i rest low high good bad = elim (cases_eq a i) [
    | inl same ↦ inl (ap Plan (sym same), subst (λ (k : ℕ). ¬ Holds s plans (Plan k)) (sym same) bad)
    | inr other ↦ inr (good a (omega arith), plan-fails (a + 1) n i rest (omega arith) (omega arith) good bad)
  ]

  -- all lists are good
  plans-hold : (a n : ℕ) → ((k : ℕ) → k < a + n → Holds s plans (Plan k))
      → AllByRecursion (Holds s plans) (map Plan (range_with_len a n))
  plans-hold a zero good = tt
  plans-hold a (suc n) good = (good a (omega arith), plans-hold (a + 1) n (λ k below. good k (omega arith)))

  -- where the numbers are within the limits, the first list that is not breaks the first limit
  pub first-plan : (i : ℕ) → AreNumbersWithin s plans → i < length plans
      → ((k : ℕ) → k < i → IsPlan s.pages (get_or plans k [])) → ¬ IsPlan s.pages (get_or plans i [])
      → IsFirstBroken s plans (Plan i)
  first-plan i numbers there good bad =
      fails-behind (Holds s plans) number_limits (map Plan (range_with_len 0 (length plans)) ++ Hot ∷ [])
      (Plan i) numbers
      (plan-fails 0 (length plans) i (Hot ∷ []) (omega arith) (omega arith) good bad)

  -- and where all lists are, too, a wrong number of likes does
  pub first-hot : AreNumbersWithin s plans → ((k : ℕ) → k < length plans → IsPlan s.pages (get_or plans k []))
      → ¬ IsHotLimit s.hot → IsFirstBroken s plans Hot
  first-hot numbers good bad =
      fails-behind (Holds s plans) number_limits (map Plan (range_with_len 0 (length plans)) ++ Hot ∷ []) Hot numbers
      (fails-behind (Holds s plans) (map Plan (range_with_len 0 (length plans))) (Hot ∷ []) Hot
      (plans-hold 0 (length plans) (λ k below. good k (omega arith))) (inl (refl, bad)))

  -- where the numbers and the lists are within the limits, every limit holds
  pub limits-hold : AreNumbersWithin s plans → ((k : ℕ) → k < length plans → IsPlan s.pages (get_or plans k []))
      → IsHotLimit s.hot → IsWithinLimits s plans
  limits-hold numbers good hot =
      all-both (Holds s plans) number_limits (map Plan (range_with_len 0 (length plans)) ++ Hot ∷ []) numbers
      (all-both (Holds s plans) (map Plan (range_with_len 0 (length plans))) (Hot ∷ [])
      (plans-hold 0 (length plans) (λ k below. good k (omega arith))) (hot, tt))

  plan-holds : (a n k : ℕ) → AllByRecursion (Holds s plans) (map Plan (range_with_len a n)) → a ≤ k → k < a + n
      → Holds s plans (Plan k)
  plan-holds a zero k all low high = absurd (omega arith)
  plan-holds a (suc n) k all low high = elim (cases_eq a k) [
    | inl same ↦ subst (λ (j : ℕ). Holds s plans (Plan j)) same all.0
    | inr other ↦ plan-holds (a + 1) n k all.1 (omega arith) (omega arith)
  ]

  -- where all limits hold, each list is within them
  pub plans-within : IsWithinLimits s plans → All (IsPlan s.pages) plans
  plans-within w k d h = subst (IsPlan s.pages) (any plans k d h)
      (plan-holds 0 (length plans) k (all-first (Holds s plans) lists (Hot ∷ []) w.1.1.1.1.1) (omega arith)
      (omega arith)) where
        lists : List SettingsFault
        lists = map Plan (range_with_len 0 (length plans))

        any : (xs : List (List Request)) (k : ℕ) (d : List Request) → k < length xs → get_or xs k [] ≡ get_or xs k d
        any [] k d h = absurd (omega arith)
        any (x ∷ xs) zero d h = refl
        any (x ∷ xs) (suc k) d h = any xs k d (omega arith)

  -- each page that the lists know exists
  pub plans-there : IsWithinLimits s plans → All (AreThere s.pages) plans
  plans-there w k d h = (plans-within w k d h).there

  -- and the limits that a worker needs hold
  pub worker-within : IsWithinLimits s plans → IsWithin s (map length plans)
  worker-within w = record {
    workers = w.0;
    submitters = subst (λ k. (1 ≤ k) × (k ≤ max_submitters)) (sym (length-map plans length)) w.1.0;
    stash = w.1.1.1.0;
    small = All-map (λ k. k ≤ max_requests) length plans (λ k d h. (plans-within w k d h).few);
  }
