-- The calls of a worker, as entries run and additions are noted.
use Rattle.std.proofs.Common.{◌≡◌, ℕ, zero, suc, ◌+◌, ◌<◌, ◌≤◌, ◌==◌, Bool, true, false, cond, List, [], ◌∷◌, ◌++◌, All, length, get_or, map, Option, None, refl, ap, sym, ◌∙◌, eq-eqb, arith, append-nil, append_assoc, zero-add}
use Rattle.std.proofs.lemmas.Bool.{ne_eqb}
use Rattle.std.proofs.lemmas.List.{length-append, map-append}
use Rattle.std.proofs.lemmas.List.Elements.{All-head, All-tail, filter-append}
use Rattle.std.proofs.lemmas.Option.{slice_get_past}
use Rattle.std.specs.List.{filter, flat_map, range_with_len, slice_get}
use Rattle.std.specs.Option.{option_to_list}
use Rattle.std.specs.Prelude.{option_and_then}
use Rattle.like_core.specs.declared.view.Addition.{Addition}
use Rattle.like_promises.specs.declared.log.Added.{Added}
use Rattle.like_promises.specs.declared.log.Ran.{Ran}
use Rattle.like_promises.specs.places.Adds.{addition_of}
use Rattle.like_promises.specs.places.Calls.{calls_of, stretch_seen}
use Rattle.like_promises.specs.Workload.{Workload}
use Rattle.like_promises.proofs.Lists.{slice_get-at_end, slice_get-before}

module _ {Y : Type 0} where
  -- what functions that agree on numbers make of them
  flat-same : (f g : ℕ → List Y) (a n : ℕ) → ((i : ℕ) → a ≤ i → i < a + n → f i ≡ g i)
      → flat_map f (range_with_len a n) ≡ flat_map g (range_with_len a n)
  flat-same f g a zero same = refl
  flat-same f g a (suc n) same =
      let here = same a (omega arith) (omega arith) in
      let rest = flat-same f g (a + 1) n (λ i low high. same i (omega arith) (omega arith)) in
      λ m. here m ++ rest m

  -- what is made of one number more
  flat-more : (f : ℕ → List Y) (a n : ℕ)
      → flat_map f (range_with_len a (n + 1)) ≡ flat_map f (range_with_len a n) ++ f (a + n)
  flat-more f a zero = append-nil (f a) ∙ ap f (omega arith)
  flat-more f a (suc n) =
      let same : (a + 1) + n ≡ a + suc n = omega arith in
      let sized : suc (n + 1) ≡ suc n + 1 = omega arith in
      let rest = flat-more f (a + 1) n ∙ ap (λ (k : ℕ). flat_map f (range_with_len (a + 1) n) ++ f k) same in
      ap (λ (k : ℕ). flat_map f (range_with_len a k)) (sym sized)
      ∙ ap (λ xs. f a ++ xs) rest
      ∙ sym (append_assoc (f a) (flat_map f (range_with_len (a + 1) n)) (f (a + suc n)))

  -- a test that no element passes keeps none
  filter-none : (p : Y → Bool) (xs : List Y) → All (λ x. p x ≡ false) xs → filter p xs ≡ []
  filter-none p [] none = refl
  filter-none p (x ∷ xs) none =
      ap (λ (b : Bool). cond b (x ∷ filter p xs) (filter p xs)) (All-head (λ y. p y ≡ false) x xs none)
      ∙ filter-none p xs (All-tail (λ y. p y ≡ false) x xs none)

  -- and one that each passes keeps all
  filter-every : (p : Y → Bool) (xs : List Y) → All (λ x. p x ≡ true) xs → filter p xs ≡ xs
  filter-every p [] all = refl
  filter-every p (x ∷ xs) all =
      ap (λ (b : Bool). cond b (x ∷ filter p xs) (filter p xs)) (All-head (λ y. p y ≡ true) x xs all)
      ∙ ap (λ ys. x ∷ ys) (filter-every p xs (All-tail (λ y. p y ≡ true) x xs all))

-- the calls at a place of a run list: the additions that were made when this many entries had run, and then the look that
-- the next one ran
abbrev calls_at : Workload → List Added → List Ran → ℕ → List Addition
calls_at workload adds ran at =
    map addition_of (filter (λ a. a.at == at) adds)
    ++ option_to_list (option_and_then (stretch_seen workload) (slice_get ran at))

module _ (workload : Workload) where
  -- the calls at a place, by the entry there
  calls-at : (adds : List Added) (ran : List Ran) (at : ℕ) (o : Option Ran)
      → slice_get ran at ≡ o
      → calls_at workload adds ran at
      ≡ map addition_of (filter (λ a. a.at == at) adds) ++ option_to_list (option_and_then (stretch_seen workload) o)
  calls-at adds ran at o is =
      ap (λ (x : Option Ran). map addition_of (filter (λ a. a.at == at) adds)
      ++ option_to_list (option_and_then (stretch_seen workload) x)) is

  -- all calls, with those after the last entry apart
  calls-all : (adds : List Added) (ran : List Ran)
      → calls_of workload adds ran
      ≡ flat_map (calls_at workload adds ran) (range_with_len 0 (length ran))
      ++ map addition_of (filter (λ a. a.at == length ran) adds)
  calls-all adds ran =
      let n : ℕ = length ran in
      let before : List Addition = flat_map (calls_at workload adds ran) (range_with_len 0 n) in
      flat-more (calls_at workload adds ran) 0 n
      ∙ ap (λ (k : ℕ). before ++ calls_at workload adds ran k) (zero-add n)
      ∙ ap (λ xs. before ++ xs)
      (calls-at adds ran n None (slice_get_past ran n (omega arith))
      ∙ append-nil (map addition_of (filter (λ a. a.at == n) adds)))

  -- one entry more: its look is the last call, if it ran one
  pub calls-entry : (adds : List Added) (ran : List Ran) (e : Ran)
      → All (λ a. a.at ≤ length ran) adds
      → calls_of workload adds (ran ++ e ∷ [])
      ≡ calls_of workload adds ran ++ option_to_list (stretch_seen workload e)
  calls-entry adds ran e within =
      let n : ℕ = length ran in
      let now : List Ran = ran ++ e ∷ [] in
      let long : length now ≡ n + 1 = length-append ran (e ∷ []) in
      let f : ℕ → List Addition = calls_at workload adds now in
      let g : ℕ → List Addition = calls_at workload adds ran in
      let before : List Addition = flat_map g (range_with_len 0 n) in
      let here : List Addition = map addition_of (filter (λ a. a.at == n) adds) in
      let last : List Addition = option_to_list (stretch_seen workload e) in
      let none : filter (λ a. a.at == length now) adds ≡ [] =
      filter-none (λ a. a.at == length now) adds
      (λ i d inside. let low = within i d inside in
      ne_eqb (get_or adds i d).at (length now) (λ same. absurd (omega arith))) in
      let same : flat_map f (range_with_len 0 n) ≡ before =
      flat-same f g 0 n (λ i low high.
      calls-at adds now i (slice_get ran i) (slice_get-before ran (e ∷ []) i (omega arith))) in
      calls-all adds now
      ∙ (λ m. flat_map f (range_with_len 0 (long m)) ++ map addition_of (none m))
      ∙ append-nil (flat_map f (range_with_len 0 (n + 1)))
      ∙ flat-more f 0 n
      ∙ (λ m. same m ++ f (zero-add n m))
      ∙ ap (λ xs. before ++ xs) (calls-at adds now n _ (slice_get-at_end ran e))
      ∙ sym (append_assoc before here last)
      ∙ ap (λ xs. xs ++ last) (sym (calls-all adds ran))

  -- additions after the last entry are the last calls
  pub calls-adds : (adds more : List Added) (ran : List Ran)
      → All (λ a. a.at ≡ length ran) more
      → calls_of workload (adds ++ more) ran ≡ calls_of workload adds ran ++ map addition_of more
  calls-adds adds more ran at_end =
      let n : ℕ = length ran in
      let f : ℕ → List Addition = calls_at workload (adds ++ more) ran in
      let g : ℕ → List Addition = calls_at workload adds ran in
      let before : List Addition = flat_map g (range_with_len 0 n) in
      let here : List Added = filter (λ a. a.at == n) adds in
      let same : flat_map f (range_with_len 0 n) ≡ before =
      flat-same f g 0 n (λ i low high.
      (let none : filter (λ a. a.at == i) more ≡ [] =
      filter-none (λ a. a.at == i) more
      (λ j d inside. let late = at_end j d inside in
      ne_eqb (get_or more j d).at i (λ is. absurd (omega arith))) in
      ap (λ xs. map addition_of xs ++ option_to_list (option_and_then (stretch_seen workload) (slice_get ran i)))
      (filter-append (λ a. a.at == i) adds more
      ∙ ap (λ xs. filter (λ a. a.at == i) adds ++ xs) none
      ∙ append-nil (filter (λ a. a.at == i) adds)))) in
      let every : filter (λ a. a.at == n) more ≡ more =
      filter-every (λ a. a.at == n) more (λ j d inside. eq-eqb (get_or more j d).at n (at_end j d inside)) in
      calls-all (adds ++ more) ran
      ∙ (λ m. same m ++ map addition_of (filter-append (λ a. a.at == n) adds more m))
      ∙ ap (λ xs. before ++ map addition_of (here ++ xs)) every
      ∙ ap (λ xs. before ++ xs) (map-append addition_of here more)
      ∙ sym (append_assoc before (map addition_of here) (map addition_of more))
      ∙ ap (λ xs. xs ++ map addition_of more) (sym (calls-all adds ran))
