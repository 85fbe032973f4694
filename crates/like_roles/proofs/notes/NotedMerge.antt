-- What a merge does to the additions that are noted, and what stands of them at the start and at the end.
use Rattle.std.proofs.Common.{◌≡◌, ◌≢◌, ℕ, zero, suc, ◌+◌, ◌≤◌, ◌==◌, nat_le, nat_lt, Bool, true, false, not, ◌&&◌, cond, inl, inr, List, [], ◌∷◌, ◌++◌, All, length, get_or, map, drop, count_by, subst, refl, ap, sym, ◌∙◌, eq-eqb, arith}
use Rattle.std.proofs.lemmas.Bool.{and_parts, cases_eq, eqb-true, le-leb, ne_eqb, cond-true}
use Rattle.std.proofs.lemmas.List.{drop_all, map-append}
use Rattle.std.proofs.lemmas.List.Elements.{All-nil, All-cons, All-append, All-head, All-tail, filter_passes}
use Rattle.std.proofs.lemmas.List.Sums.{sum_by-append, sum_by-cons, sum_by-le-sum_by}
use Rattle.std.proofs.lemmas.Option.{slice_get_past}
use Rattle.std.specs.List.{range_with_len}
use Rattle.std.specs.Option.{option_to_list}
use Rattle.like_core.specs.declared.view.Addition.{Addition}
use Rattle.like_core.specs.declared.page_step.PageStep.{PageStep}
use Rattle.like_core.specs.declared.worker_state.WorkerState.TheVariants as state
use Rattle.like_core.specs.Additions.{added_in}
use Rattle.like_core.specs.Post.{additions_in, is_split_at, pages_of}
use Rattle.like_core.proofs.core.Labels.{one_before-next}
use Rattle.like_core.specs.PageSteps.{additions_among, step_adding, stretches_of, then_steps}
use Rattle.like_core.proofs.Steps.{then-additions, then-stretches}
use Rattle.like_promises.specs.declared.log.Added.{Added}
use Rattle.like_promises.specs.declared.log.Ran.{Ran}
use Rattle.like_promises.specs.places.Adds.{IsOfLikes, addition_of, is_add_to}
use Rattle.like_roles.specs.worker.Follows.{adds_to, IsNoted, IsTallied, IsUnmerged}
use Rattle.like_promises.specs.Likes.{likes_within}
use Rattle.like_roles.specs.worker.Serve.{noted, noted_at}
use Rattle.like_promises.specs.Workload.{Workload, is_split_in}
use Rattle.like_roles.specs.worker.Merges.{Merges, liked_below}
use Rattle.like_roles.specs.worker.WorkerView.{WorkerView, phase_at}
use Rattle.like_seat.specs.StationView.{IsSliceInSplit}
use Rattle.like_roles.proofs.PageOrder.{liked-next}
use Rattle.like_roles.proofs.notes.Noted.{AreMore, apart, count-all, count-none, none-passes, noted-each, noted-merged}

module _ {A B : Type 0} (f : A → B) where
  -- what holds of all images, and of all elements by their images
  All-of_map : (P : B → Type 0) (xs : List A) → All P (map f xs) → All (λ x. P (f x)) xs
  All-of_map P [] all = All-nil (λ x. P (f x))
  All-of_map P (x ∷ xs) all =
      All-cons (λ y. P (f y)) x xs (All-head P (f x) (map f xs) all) (All-of_map P xs (All-tail P (f x) (map f xs) all))

  All-map : (P : B → Type 0) (xs : List A) → All (λ x. P (f x)) xs → All P (map f xs)
  All-map P [] all = All-nil P
  All-map P (x ∷ xs) all =
      All-cons P (f x) (map f xs) (All-head (λ y. P (f y)) x xs all) (All-map P xs (All-tail (λ y. P (f y)) x xs all))

  -- how many images pass a test
  count-map : (p : B → Bool) (xs : List A) → count_by p (map f xs) ≡ count_by (λ x. p (f x)) xs
  count-map p [] = refl
  count-map p (x ∷ xs) =
      let rest = count-map p xs in
      omega (
        arith,
        sum_by-cons (λ y. cond {A = ℕ} (p y) 1 0) (f x) (map f xs),
        sum_by-cons (λ y. cond {A = ℕ} (p (f y)) 1 0) x xs,
      )

-- what an addition of a merge is
abbrev IsOfSlice : ℕ → List ℕ → Addition → Type 0
IsOfSlice k slice b = (b.phase ≡ k) × (b.likes ≡ get_or slice b.page 0) × (b.likes ≢ 0)

-- the pages that a slice has likes of have some
liked-each : (slice : List ℕ) (n : ℕ) → All (λ page. get_or slice page 0 ≢ 0) (liked_below slice n)
liked-each slice n k d inside none =
    let page : ℕ = get_or (liked_below slice n) k d in
    let passes : not (get_or slice page 0 == 0) ≡ true =
    filter_passes (λ (p : ℕ). not (get_or slice p 0 == 0)) (range_with_len 0 n) k d inside in
    let no : true ≡ false = sym passes ∙ ap not (eq-eqb (get_or slice page 0) 0 none) in
    cc no

-- each page is one of them at most once
liked-once : (slice : List ℕ) (page n : ℕ)
    → count_by (λ p. p == page) (liked_below slice n) ≤ cond (nat_lt page n && true) 1 0
liked-once slice page zero = omega arith
liked-once slice page (suc n) =
    let e : suc n ≡ n + 1 = omega arith in
    let here : ℕ → Bool = λ p. p == page in
    let none : Bool = get_or slice n 0 == 0 in
    let last : List ℕ = cond (not none) (n ∷ []) [] in
    let more : count_by here (liked_below slice (n + 1)) ≡ count_by here (liked_below slice n ++ last) =
    ap (count_by here) (liked-next slice n) in
    let both = sum_by-append (λ p. cond {A = ℕ} (here p) 1 0) (liked_below slice n) last in
    let before = liked-once slice page n in
    let one : count_by here last ≤ cond ((page == n) && true) 1 0 = at_most (not none) in
    let next = one_before-next page n 1 true in
    subst (λ (m : ℕ). count_by here (liked_below slice m) ≤ cond (nat_lt page m && true) 1 0) (sym e) (omega arith)
  where
    few : (b : Bool) → cond {A = ℕ} b 1 0 ≤ 1
    few true = omega arith
    few false = omega arith

    at_most : (b : Bool)
        → count_by (λ (p : ℕ). p == page) (cond b (n ∷ []) []) ≤ cond ((page == n) && true) 1 0
    at_most false = omega arith
    at_most true =
        let single = sum_by-cons (λ (p : ℕ). cond {A = ℕ} (p == page) 1 0) n [] in
        elim (cases_eq n page) [
          | inl same ↦
              let yes : cond {A = ℕ} ((page == n) && true) 1 0 ≡ 1 =
              ap (λ (b : Bool). cond {A = ℕ} (b && true) 1 0) (eq-eqb page n (sym same)) in
              let low = few (n == page) in
              omega arith
          | inr other ↦
              let nothing : cond {A = ℕ} (n == page) 1 0 ≡ 0 =
              ap (λ (b : Bool). cond {A = ℕ} b 1 0) (ne_eqb n page other) in
              omega arith
        ]

-- both tests pass no more often than the second
both-le : (b c : Bool) → cond {A = ℕ} (b && c) 1 0 ≤ cond {A = ℕ} c 1 0
both-le true c = omega arith
both-le false c = omega arith

-- where nothing was added to a page in a phase, nothing is its sum
added-none : (phase page : ℕ) (adds : List Added)
    → All (λ a. is_add_to phase page a ≡ false) adds
    → added_in phase page (map addition_of adds) ≡ 0
added-none phase page [] none = refl
added-none phase page (a ∷ adds) none =
    let here = ap (λ (b : Bool). cond {A = ℕ} b a.n 0) (All-head (λ b. is_add_to phase page b ≡ false) a adds none) in
    let rest = added-none phase page adds (All-tail (λ b. is_add_to phase page b ≡ false) a adds none) in
    omega (
      arith,
      sum_by-cons (λ (x : Addition). cond {A = ℕ} ((x.phase == phase) && (x.page == page)) x.likes 0)
          (addition_of a) (map addition_of adds),
    )

pub nothing-added : (phase page : ℕ) (adds : List Added)
    → adds_to phase page adds ≡ 0
    → added_in phase page (map addition_of adds) ≡ 0
nothing-added phase page adds none = added-none phase page adds (none-passes (is_add_to phase page) adds none)

-- what is noted are the additions
noted-are : (n : ℕ) (adds : List Addition) → map addition_of (map (noted_at n) adds) ≡ adds
noted-are n [] = refl
noted-are n (b ∷ adds) = ap (λ (xs : List Addition). b ∷ xs) (noted-are n adds)

-- each addition of a merge is of a slice
merges-each : (v : WorkerView) (adds : List Addition)
    → Merges (phase_at v) v.slice (pages_of v.post) adds
    → All (IsOfSlice (phase_at v) v.slice) adds
merges-each v adds merges =
    let liked : All (λ (b : Addition). get_or v.slice b.page 0 ≢ 0) adds =
    All-of_map (λ (b : Addition). b.page) (λ (page : ℕ). get_or v.slice page 0 ≢ 0) adds
    (subst (All (λ (page : ℕ). get_or v.slice page 0 ≢ 0)) (sym merges.pages_are)
    (liked-each v.slice (pages_of v.post))) in
    λ i d inside.
    (let likes = merges.likes_are i d inside in
    (merges.phase_is i d inside, likes, λ none. liked i d inside (sym likes ∙ none)))

-- of some likes
pub merges-some : (v : WorkerView) (adds : List Addition)
    → Merges (phase_at v) v.slice (pages_of v.post) adds
    → All (λ a. a.likes ≢ 0) adds
merges-some v adds merges i d inside = (merges-each v adds merges i d inside).2

-- and to a page that is split in its phase
pub merges-split : (workload : Workload) (v : WorkerView) (adds : List Addition)
    → Merges (phase_at v) v.slice (pages_of v.post) adds
    → IsSliceInSplit v.post v.slice
    → ((page : ℕ) → is_split_in workload (phase_at v) page ≡ is_split_at v.post page)
    → All (λ a. is_split_in workload a.phase a.page ≡ true) adds
merges-split workload v adds merges kept alike =
    λ i d inside.
    (let b : Addition = get_or adds i d in
    let q = merges-each v adds merges i d inside in
    ap (λ (phase : ℕ). is_split_in workload phase b.page) q.0
    ∙ (alike b.page ∙ (kept b.page (λ none. q.2 (q.1 ∙ none))).1))

-- the additions of a merge are noted, by a worker that notes them
pub merge-noted : (workload : Workload) (v : WorkerView) (adds : List Addition)
    → Merges (phase_at v) v.slice (pages_of v.post) adds
    → IsTallied workload v
    → v.notes ≡ true
    → IsNoted workload v.post.did v.adds v.ran
    → IsUnmerged workload v.adds (state.Runs (phase_at v))
    → All (λ e. e.phase ≤ phase_at v) v.ran
    → IsSliceInSplit v.post v.slice
    → ((page : ℕ) → is_split_in workload (phase_at v) page ≡ is_split_at v.post page)
    → IsNoted workload (then_steps v.post.did (map (step_adding v.post.worker) adds)) (v.adds ++ noted v adds) v.ran
    × IsUnmerged workload (v.adds ++ noted v adds) (state.Answered (phase_at v))
merge-noted workload v adds merges t notes was un within kept alike =
    let k = phase_at v in
    let note : Addition → Added = noted_at (length v.ran) in
    let more : List Added = map note adds in
    let each = merges-each v adds merges in
    let is_split = merges-split workload v adds merges kept alike in
    let count : (phase page : ℕ)
    → adds_to phase page more ≡ count_by (λ b. (b.phase == phase) && (b.page == page)) adds =
    λ phase page. count-map note (is_add_to phase page) adds in
    let once : (phase page : ℕ) → adds_to phase page more ≤ 1 =
    λ phase page.
    (let p : Addition → Bool = λ b. (b.phase == phase) && (b.page == page) in
    let here : ℕ → Bool = λ n. n == page in
    let less : count_by p adds ≤ count_by (λ (b : Addition). here b.page) adds =
    sum_by-le-sum_by (λ b. cond {A = ℕ} (p b) 1 0) (λ b. cond {A = ℕ} (here b.page) 1 0) adds
    (λ b. both-le (b.phase == phase) (b.page == page)) in
    let same : count_by here (map (λ (b : Addition). b.page) adds) ≡ count_by (λ (b : Addition). here b.page) adds =
    count-map (λ (b : Addition). b.page) here adds in
    let is = ap (count_by here) merges.pages_are in
    let few = liked-once v.slice page (pages_of v.post) in
    let low = at_most_one (nat_lt page (pages_of v.post) && true) in
    let all = count phase page in
    omega arith)
    in
    let none_in : (phase page : ℕ) → phase ≢ k → adds_to phase page more ≡ 0 =
    λ phase page other.
    count phase page ∙ count-none (λ (b : Addition). (b.phase == phase) && (b.page == page)) adds
    (λ i d inside. let b : Addition = get_or adds i d in
    ap (λ (x : Bool). x && (b.page == page))
    (ne_eqb b.phase phase (λ same. other (sym same ∙ (each i d inside).0))))
    in
    let new : AreMore workload v.ran v.adds more (length v.ran) (λ _ _. 0) =
    record {
      at_end = All-map note (λ a. a.at ≡ length v.ran) adds (λ i d inside. refl);
      each = All-map note (IsOfLikes workload v.ran) adds (λ i d inside.
          let b : Addition = get_or adds i d in
          let q = each i d inside in
          let split_here = is_split i d inside in
          record {
            some = (let more_than = q.2 in positive b.likes more_than);
            plain = λ plain. (let m : false ≡ true = sym plain ∙ split_here in cc m);
            split = λ _.
                let all : likes_within workload b.page v.ran b.phase ≡ likes_within workload b.page v.ran k =
                ap (likes_within workload b.page v.ran) q.0 in
                let by = t.by_phase k b.page in
                let none : additions_in v.post k b.page ≡ 0 =
                ap (added_in k b.page) was.additions_are
                ∙ nothing-added k b.page v.adds
                (un.1 b.page (ap (λ (phase : ℕ). is_split_in workload phase b.page) (sym q.0) ∙ split_here))
                in
                let here : cond {A = ℕ} (k == k) (get_or v.slice b.page 0) 0 ≡ get_or v.slice b.page 0 =
                cond-true (k == k) (get_or v.slice b.page 0) 0 (eq-eqb k k refl) in
                let likes = q.1 in
                let behind : likes_within workload b.page (drop (length v.ran) v.ran) b.phase ≡ 0 =
                ap (λ (xs : List Ran). likes_within workload b.page xs b.phase)
                (drop_all (length v.ran) v.ran (omega arith))
                in
                let all_before : length v.ran ≡ count_by (λ (e : Ran). nat_le e.phase b.phase) v.ran =
                sym (count-all (λ (e : Ran). nat_le e.phase b.phase) v.ran
                (λ j x inside. let e : Ran = get_or v.ran j x in
                let low = within j x inside in let same = q.0 in le-leb e.phase b.phase (omega arith)))
                in
                (omega arith, behind, all_before);
          });
      plain = λ phase page is.
          count phase page ∙ count-none (λ (b : Addition). (b.phase == phase) && (b.page == page)) adds
          (λ i d inside. let b : Addition = get_or adds i d in
          apart workload b.phase b.page phase page true false (is_split i d inside) is (λ m. cc m));
      split = λ phase page is. elim (cases_eq phase k) [
        | inl same ↦
            let none = ap (λ (j : ℕ). adds_to j page v.adds) same
            ∙ un.1 page (ap (λ (j : ℕ). is_split_in workload j page) (sym same) ∙ is) in
            let few = once phase page in
            omega arith
        | inr other ↦
            let none = none_in phase page other in
            let few = was.split phase page is in
            omega arith
      ];
    }
    in
    let did : List PageStep = then_steps v.post.did (map (step_adding v.post.worker) adds) in
    subst (λ (xs : List Added). IsNoted workload did (v.adds ++ xs) v.ran
    × IsUnmerged workload (v.adds ++ xs) (state.Answered (phase_at v))) (sym (noted-each v adds notes)) (
      noted-merged workload v.post.did did v.adds more v.ran was new
          (then-additions v.post.worker v.post.did adds
          ∙ (λ m. was.additions_are m ++ sym (noted-are (length v.ran) adds) m)
          ∙ sym (map-append addition_of v.adds more))
          (then-stretches v.post.worker v.post.did adds
          ∙ ap (λ xs. stretches_of v.post.did ++ xs) (sym (noted-are (length v.ran) adds))),
      All-append (λ a. a.phase ≤ k) v.adds more un.0
          (All-map note (λ a. a.phase ≤ k) adds (λ i d inside. let q = (each i d inside).0 in omega arith)),
    )
  where
    positive : (n : ℕ) → n ≢ 0 → 1 ≤ n
    positive zero some = absurd (some refl)
    positive (suc n) some = omega arith

    at_most_one : (b : Bool) → cond {A = ℕ} b 1 0 ≤ 1
    at_most_one true = omega arith
    at_most_one false = omega arith

-- at the start nothing is noted
pub noted-nothing : (workload : Workload) → IsNoted workload [] [] []
noted-nothing workload = record {
  additions_are = refl;
  at = λ i d inside. absurd (omega arith);
  rising = λ i j d lt inside. absurd (omega arith);
  each = λ i d inside. absurd (omega arith);
  plain = λ phase page at
      is. sym (ap (λ o. likes_within workload page (option_to_list o) phase) (slice_get_past [] at (omega arith)));
  split = λ phase page is. omega arith;
  calls = refl;
}

-- where all likes were added, there is one addition to a page that is split in the phase, if it has any
pub one-of_likes : (workload : Workload) (did : List PageStep) (adds : List Added) (ran : List Ran) (phase page : ℕ)
    → IsNoted workload did adds ran
    → is_split_in workload phase page ≡ true
    → likes_within workload page ran phase ≡ added_in phase page (additions_among did)
    → adds_to phase page adds ≡ cond (likes_within workload page ran phase == 0) 0 1
one-of_likes workload did adds ran phase page noted is sums =
    let likes : ℕ = likes_within workload page ran phase in
    elim (cases_eq likes 0) [
      | inl none ↦
          let zero_is : cond {A = ℕ} (likes == 0) 0 1 ≡ 0 =
          ap (λ (b : Bool). cond {A = ℕ} b 0 1) (eq-eqb likes 0 none) in
          count-none (is_add_to phase page) adds (λ i d inside. no_add (get_or adds i d) (noted.each i d inside) none)
          ∙ sym zero_is
      | inr some ↦
          let one_is : cond {A = ℕ} (likes == 0) 0 1 ≡ 1 =
          ap (λ (b : Bool). cond {A = ℕ} b 0 1) (ne_eqb likes 0 some) in
          let few = noted.split phase page is in
          elim (cases_eq (adds_to phase page adds) 0) [
            | inl nothing ↦
                let none = sums
                ∙ (ap (added_in phase page) noted.additions_are ∙ nothing-added phase page adds nothing) in
                absurd (some none)
            | inr one ↦ omega arith
          ]
    ]
  where
    no_add : (a : Added) → IsOfLikes workload ran a → likes_within workload page ran phase ≡ 0
        → is_add_to phase page a ≡ false
    no_add a o none = by_test (is_add_to phase page a) refl
      where
        by_test : (b : Bool) → is_add_to phase page a ≡ b → is_add_to phase page a ≡ false
        by_test false e = e
        by_test true e =
            let both = and_parts (a.phase == phase) (a.page == page) e in
            let in_phase = eqb-true a.phase phase both.0 in
            let of_page = eqb-true a.page page both.1 in
            let here : is_split_in workload a.phase a.page ≡ true =
            (λ m. is_split_in workload (in_phase m) (of_page m)) ∙ is in
            let all : likes_within workload a.page ran a.phase ≡ likes_within workload page ran phase =
            λ m. likes_within workload (of_page m) ran (in_phase m) in
            let n_is = (o.split here).0 in
            let likes = o.some in
            absurd (omega arith)
