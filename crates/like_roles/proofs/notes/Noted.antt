-- What stands of the additions that a worker notes, as it goes on.
use Rattle.std.proofs.Common.{◌≡◌, ◌≢◌, ℕ, ◌+◌, ◌<◌, ◌≤◌, ◌==◌, nat_le, Bool, true, false, ◌&&◌, cond, inl, inr, List, [], ◌∷◌, ◌++◌, All, length, get_or, map, drop, count_by, Option, subst, refl, ap, sym, ◌∙◌, eq-eqb, arith}
use Rattle.std.proofs.lemmas.Bool.{cases_eq, cases_lt, and_parts, eqb-true, ne_eqb, lt-leb, cond-true}
use Rattle.std.proofs.lemmas.List.{length-append, drop-append-le}
use Rattle.std.proofs.lemmas.List.Elements.{All-append, All-head, All-tail}
use Rattle.std.proofs.lemmas.List.Sums.{sum_by-append, sum_by-cons, sum_by_push}
use Rattle.std.proofs.lemmas.Option.{slice_get_past}
use Rattle.std.specs.List.{slice_get}
use Rattle.std.specs.Option.{option_to_list}
use Rattle.like_core.specs.declared.view.Addition.{Addition}
use Rattle.like_core.specs.declared.page_step.PageStep.{PageStep}
use Rattle.like_core.specs.PageSteps.{additions_among, stretches_of}
use Rattle.like_core.proofs.Tiled.{counts_one}
use Rattle.like_promises.specs.declared.log.Added.{Added}
use Rattle.like_promises.specs.declared.log.Ran.{Ran}
use Rattle.like_promises.specs.places.Adds.{IsOfLikes, addition_of, is_add_to}
use Rattle.like_promises.specs.places.Calls.{calls_of}
use Rattle.like_roles.specs.worker.Follows.{adds_to, adds_at, likes_at, IsNoted}
use Rattle.like_promises.specs.Likes.{likes_within}
use Rattle.like_roles.specs.worker.Serve.{noted, noted_at}
use Rattle.like_promises.specs.Workload.{Workload, is_split_in}
use Rattle.like_roles.specs.worker.WorkerView.{WorkerView}
use Rattle.like_promises.proofs.Lists.{pairs-append, slice_get-at_end, slice_get-before}
use Rattle.like_roles.proofs.notes.Calls.{calls-adds}

module _ {A : Type 0} where
  -- elements of which tests say the same count the same
  pub count-same : (p q : A → Bool) (xs : List A) → All (λ x. p x ≡ q x) xs → count_by p xs ≡ count_by q xs
  count-same p q [] same = refl
  count-same p q (x ∷ xs) same =
      let here = ap (λ (b : Bool). cond {A = ℕ} b 1 0) (All-head (λ y. p y ≡ q y) x xs same) in
      let rest = count-same p q xs (All-tail (λ y. p y ≡ q y) x xs same) in
      omega (arith, sum_by-cons (λ y. cond {A = ℕ} (p y) 1 0) x xs, sum_by-cons (λ y. cond {A = ℕ} (q y) 1 0) x xs)

  -- where no element passes a test, none counts
  pub count-none : (p : A → Bool) (xs : List A) → All (λ x. p x ≡ false) xs → count_by p xs ≡ 0
  count-none p [] none = refl
  count-none p (x ∷ xs) none =
      let here = ap (λ (b : Bool). cond {A = ℕ} b 1 0) (All-head (λ y. p y ≡ false) x xs none) in
      let rest = count-none p xs (All-tail (λ y. p y ≡ false) x xs none) in
      omega (arith, sum_by-cons (λ y. cond {A = ℕ} (p y) 1 0) x xs)

  -- where none counts, no element passes the test
  pub none-passes : (p : A → Bool) (xs : List A) → count_by p xs ≡ 0 → All (λ x. p x ≡ false) xs
  none-passes p xs none i d inside = by_test (p (get_or xs i d)) refl
    where
      by_test : (b : Bool) → p (get_or xs i d) ≡ b → p (get_or xs i d) ≡ false
      by_test true passes = absurd (let one = counts_one p xs i d inside passes in omega arith)
      by_test false fails = fails

  -- where every element passes a test, all count
  pub count-all : (p : A → Bool) (xs : List A) → All (λ x. p x ≡ true) xs → count_by p xs ≡ length xs
  count-all p [] all = refl
  count-all p (x ∷ xs) all =
      let here = ap (λ (b : Bool). cond {A = ℕ} b 1 0) (All-head (λ y. p y ≡ true) x xs all) in
      let rest = count-all p xs (All-tail (λ y. p y ≡ true) x xs all) in
      omega (arith, sum_by-cons (λ y. cond {A = ℕ} (p y) 1 0) x xs)

-- where additions are noted, each is
pub noted-each : (v : WorkerView) (adds : List Addition)
    → v.notes ≡ true
    → noted v adds ≡ map (noted_at (length v.ran)) adds
noted-each v adds notes = cond-true v.notes (map (noted_at (length v.ran)) adds) [] notes

-- of two pages in phases one of which is split and the other is not, one is not the other
pub apart : (workload : Workload) (k p phase page : ℕ) (s t : Bool)
    → is_split_in workload k p ≡ s
    → is_split_in workload phase page ≡ t
    → s ≢ t
    → ((k == phase) && (p == page)) ≡ false
apart workload k p phase page s t is other differ = by_test ((k == phase) && (p == page)) refl
  where
    by_test : (b : Bool) → ((k == phase) && (p == page)) ≡ b → ((k == phase) && (p == page)) ≡ false
    by_test false e = e
    by_test true e =
        let both = and_parts (k == phase) (p == page) e in
        let same : is_split_in workload k p ≡ is_split_in workload phase page =
        λ m. is_split_in workload (eqb-true k phase both.0 m) (eqb-true p page both.1 m) in
        absurd (differ (sym is ∙ (same ∙ other)))

-- how many likes an entry that runs now is, by phase and page
abbrev pub AddsLikes : Workload → Ran → (ℕ → ℕ → ℕ) → Type 0
AddsLikes workload e likes =
    (xs : List Ran) (phase page : ℕ)
    → likes_within workload page (xs ++ e ∷ []) phase ≡ likes_within workload page xs phase + likes phase page

-- the likes at a place after one entry more
likes_at-push : (workload : Workload) (ran : List Ran) (e : Ran) (likes : ℕ → ℕ → ℕ) (phase page at : ℕ)
    → AddsLikes workload e likes
    → likes_at workload phase page at (ran ++ e ∷ [])
    ≡ likes_at workload phase page at ran + cond (at == length ran) (likes phase page) 0
likes_at-push workload ran e likes phase page at adds =
    let of : Option Ran → ℕ = λ o. likes_within workload page (option_to_list o) phase in
    elim (cases_lt at (length ran)) [
      | inl before ↦
          let no : cond {A = ℕ} (at == length ran) (likes phase page) 0 ≡ 0 =
          ap (λ (b : Bool). cond {A = ℕ} b (likes phase page) 0)
          (ne_eqb at (length ran) (λ same. absurd (omega arith))) in
          let same = ap of (slice_get-before ran (e ∷ []) at before) in
          omega arith
      | inr past ↦ elim (cases_eq at (length ran)) [
        | inl end ↦
            let yes : cond {A = ℕ} (at == length ran) (likes phase page) 0 ≡ likes phase page =
            cond-true (at == length ran) (likes phase page) 0 (eq-eqb at (length ran) end) in
            let none = ap of (slice_get_past ran at (omega arith)) in
            let one : likes_at workload phase page at (ran ++ e ∷ []) ≡ likes_within workload page (e ∷ []) phase =
            ap (λ (i : ℕ). of (slice_get (ran ++ e ∷ []) i)) end ∙ ap of (slice_get-at_end ran e)
            in
            let all = adds [] phase page in
            omega arith
        | inr other ↦
            let no : cond {A = ℕ} (at == length ran) (likes phase page) 0 ≡ 0 =
            ap (λ (b : Bool). cond {A = ℕ} b (likes phase page) 0) (ne_eqb at (length ran) other) in
            let long = length-append ran (e ∷ []) in
            let none = ap of (slice_get_past ran at (omega arith)) in
            let none_now = ap of (slice_get_past (ran ++ e ∷ []) at (omega arith)) in
            omega arith
      ]
    ]

-- additions that were all made at one place
adds_at-all : (more : List Added) (n phase page at : ℕ)
    → All (λ a. a.at ≡ n) more
    → adds_at phase page at more ≡ cond (at == n) (adds_to phase page more) 0
adds_at-all more n phase page at all = elim (cases_eq at n) [
  | inl here ↦
      let yes : cond {A = ℕ} (at == n) (adds_to phase page more) 0 ≡ adds_to phase page more =
      cond-true (at == n) (adds_to phase page more) 0 (eq-eqb at n here) in
      count-same (λ a. is_add_to phase page a && (a.at == at)) (is_add_to phase page) more
      (λ i d inside. let a : Added = get_or more i d in
      and_true (is_add_to phase page a) (a.at == at) (eq-eqb a.at at (all i d inside ∙ sym here)))
      ∙ sym yes
  | inr other ↦
      let no : cond {A = ℕ} (at == n) (adds_to phase page more) 0 ≡ 0 =
      ap (λ (b : Bool). cond {A = ℕ} b (adds_to phase page more) 0) (ne_eqb at n other) in
      count-none (λ a. is_add_to phase page a && (a.at == at)) more
      (λ i d inside. let a : Added = get_or more i d in
      and_false (is_add_to phase page a) (a.at == at) (ne_eqb a.at at (λ same. other (sym same ∙ all i d inside))))
      ∙ sym no
]
  where
    and_true : (b c : Bool) → c ≡ true → (b && c) ≡ b
    and_true true c is = is
    and_true false c is = refl

    and_false : (b c : Bool) → c ≡ false → (b && c) ≡ false
    and_false true c is = is
    and_false false c is = refl

-- what is known of additions that are noted after these
pub record AreMore (workload : Workload) (ran : List Ran) (adds more : List Added) (at : ℕ)
    (likes : ℕ → ℕ → ℕ) : Type 0 where
  pub at_end : All (λ a. a.at ≡ at) more
  pub each : All (IsOfLikes workload ran) more
  pub plain : (phase page : ℕ) → is_split_in workload phase page ≡ false → adds_to phase page more ≡ likes phase page
  pub split : (phase page : ℕ) → is_split_in workload phase page ≡ true
      → adds_to phase page adds + adds_to phase page more ≤ 1

-- none
pub no-more : (workload : Workload) (ran : List Ran) (adds : List Added) (at : ℕ) (likes : ℕ → ℕ → ℕ)
    → ((phase page : ℕ) → is_split_in workload phase page ≡ false → likes phase page ≡ 0)
    → ((phase page : ℕ) → is_split_in workload phase page ≡ true → adds_to phase page adds ≤ 1)
    → AreMore workload ran adds [] at likes
no-more workload ran adds at likes none once = record {
  at_end = λ i d inside. absurd (omega arith);
  each = λ i d inside. absurd (omega arith);
  plain = λ phase page is. sym (none phase page is);
  split = λ phase page is. let few = once phase page is in
      let nothing : adds_to phase page [] ≡ 0 = refl in omega arith;
}

-- an entry runs, and these additions are noted before
pub noted-push : (workload : Workload) (did later_did : List PageStep)
    (adds more all : List Added) (ran : List Ran) (e : Ran) (likes : ℕ → ℕ → ℕ)
    → IsNoted workload did adds ran
    → AddsLikes workload e likes
    → all ≡ adds ++ more
    → AreMore workload (ran ++ e ∷ []) adds more (length ran) likes
    → All (λ a. is_split_in workload a.phase a.page ≡ true → (likes a.phase a.page ≡ 0) × (a.phase < e.phase)) adds
    → additions_among later_did ≡ map addition_of all
    → calls_of workload all (ran ++ e ∷ []) ≡ stretches_of later_did
    → IsNoted workload later_did all (ran ++ e ∷ [])
noted-push workload did later_did adds more all ran e likes old by all_is new kept are calls =
    let now : List Ran = ran ++ e ∷ [] in
    let long = length-append ran (e ∷ []) in
    let noted : IsNoted workload later_did (adds ++ more) now =
    record {
      additions_are = are ∙ ap (map addition_of) all_is;
      at = All-append (λ a. a.at ≤ length now) adds more
          (λ i d inside. let low = old.at i d inside in omega arith)
          (λ i d inside. let here = new.at_end i d inside in omega arith);
      rising = pairs-append (λ a b. a.at ≤ b.at) adds more old.rising
          (λ i j d lt inside. let one = new.at_end i d (omega arith) in let other = new.at_end j d inside in omega arith)
          (λ i d inside j b there. let low = old.at i d inside in let last = new.at_end j b there in omega arith);
      each = All-append (IsOfLikes workload now) adds more
          (λ i d inside.
          let a : Added = get_or adds i d in
          let o : IsOfLikes workload ran a = old.each i d inside in
          record {
            some = o.some;
            plain = o.plain;
            split = λ is.
                let none = (kept i d inside is).0 in
                let later_phase = lt-leb e.phase a.phase (kept i d inside is).1 in
                let uncounted : cond {A = ℕ} (nat_le e.phase a.phase) 1 0 ≡ 0 =
                ap (λ (b : Bool). cond {A = ℕ} b 1 0) later_phase in
                let counted = sum_by_push (λ (x : Ran). cond {A = ℕ} (nat_le x.phase a.phase) 1 0) ran e in
                let at_is = (o.split is).2 in
                let all_likes = by ran a.phase a.page in
                let later = by (drop a.at ran) a.phase a.page in
                let behind : likes_within workload a.page (drop a.at now) a.phase
                ≡ likes_within workload a.page (drop a.at ran ++ e ∷ []) a.phase =
                ap (λ (xs : List Ran). likes_within workload a.page xs a.phase)
                (drop-append-le a.at ran (e ∷ []) (old.at i d inside))
                in
                let n_is = (o.split is).0 in
                let none_behind = (o.split is).1 in
                (omega arith, omega arith, omega arith);
          })
          new.each;
      plain = λ phase page at is.
          let both = sum_by-append
          (λ (a : Added). cond {A = ℕ} (is_add_to phase page a && (a.at == at)) 1 0) adds more in
          let here = old.plain phase page at is in
          let last = adds_at-all more (length ran) phase page at new.at_end in
          let count = ap (λ (k : ℕ). cond {A = ℕ} (at == length ran) k 0) (new.plain phase page is) in
          let push = likes_at-push workload ran e likes phase page at by in
          omega arith;
      split = λ phase page is.
          let both = sum_by-append (λ (a : Added). cond {A = ℕ} (is_add_to phase page a) 1 0) adds more in
          let few = new.split phase page is in
          omega arith;
      calls = ap (λ (xs : List Added). calls_of workload xs now) (sym all_is) ∙ calls;
    }
    in
    subst (λ (xs : List Added). IsNoted workload later_did xs now) (sym all_is) noted

-- additions are noted while no entry runs
pub noted-merged : (workload : Workload) (did later_did : List PageStep)
    (adds more : List Added) (ran : List Ran)
    → IsNoted workload did adds ran
    → AreMore workload ran adds more (length ran) (λ _ _. 0)
    → additions_among later_did ≡ map addition_of (adds ++ more)
    → stretches_of later_did ≡ stretches_of did ++ map addition_of more
    → IsNoted workload later_did (adds ++ more) ran
noted-merged workload did later_did adds more ran old new are stretches = record {
  additions_are = are;
  at = All-append (λ a. a.at ≤ length ran) adds more old.at
      (λ i d inside. let here = new.at_end i d inside in omega arith);
  rising = pairs-append (λ a b. a.at ≤ b.at) adds more old.rising
      (λ i j d lt inside. let one = new.at_end i d (omega arith) in let other = new.at_end j d inside in omega arith)
      (λ i d inside j b there. let low = old.at i d inside in let last = new.at_end j b there in omega arith);
  each = All-append (IsOfLikes workload ran) adds more old.each new.each;
  plain = λ phase page at is.
      let both = sum_by-append (λ (a : Added). cond {A = ℕ} (is_add_to phase page a && (a.at == at)) 1 0) adds more in
      let here = old.plain phase page at is in
      let last = adds_at-all more (length ran) phase page at new.at_end in
      let count = ap (λ (k : ℕ). cond {A = ℕ} (at == length ran) k 0) (new.plain phase page is) in
      let none = zero_same (at == length ran) in
      omega arith;
  split = λ phase page is.
      let both = sum_by-append (λ (a : Added). cond {A = ℕ} (is_add_to phase page a) 1 0) adds more in
      let few = new.split phase page is in
      omega arith;
  calls = calls-adds workload adds more ran new.at_end
      ∙ (ap (λ xs. xs ++ map addition_of more) old.calls ∙ sym stretches);
}
  where
    zero_same : (b : Bool) → cond {A = ℕ} b 0 0 ≡ 0
    zero_same true = refl
    zero_same false = refl
