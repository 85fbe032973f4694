-- What a merge in the order of the pages makes of the likes of a page: none more, and none less.
use Rattle.std.proofs.Common.{◌≡◌, ℕ, zero, suc, ◌+◌, ◌==◌, ◌&&◌, nat_lt, Bool, true, false, not, cond, List, [], ◌∷◌, length, get_or, map, refl, ap, sym, ◌∙◌, inl, inr, arith, subst}
use Rattle.std.specs.List.{All, sum_by}
use Rattle.std.proofs.lemmas.Bool.{cases_eq, cases_lt, eqb-true, eq-eqb, ne_eqb, lt-ltb, le-ltb}
use Rattle.std.proofs.lemmas.List.{get_or_past}
use Rattle.std.proofs.lemmas.List.Elements.{All-head, All-tail}
use Rattle.std.proofs.lemmas.List.Sums.{sum_by-append, sum_by-cons}
use Rattle.like_core.proofs.Steps.{then-additions}
use Rattle.like_core.specs.declared.log.Logged.{Logged}
use Rattle.like_core.specs.declared.view.Addition.{Addition}
use Rattle.like_core.specs.Post.{additions_in, pages_of}
use Rattle.like_core.proofs.core.Labels.{one_before-next}
use Rattle.like_core.specs.PageSteps.{additions_among}
use Rattle.like_seat.specs.Merge.{merged}
use Rattle.like_seat.specs.StationView.{StationView, phase_at, tally_of}
use Rattle.like_seat.proofs.MergedLikes.{cond_same, same_everywhere}
use Rattle.like_roles.specs.worker.Merges.{Merges, liked_below}
use Rattle.like_roles.proofs.PageOrder.{liked-next}

module _ (test : ℕ → Bool) (phase : ℕ) (slice : List ℕ) (page : ℕ) where
  -- how much an addition counts, where its phase passes a test and it is of the page
  abbrev counts : Addition → ℕ
  counts a = cond (test a.phase && (a.page == page)) a.likes 0

  -- how much the merge of a page counts so
  abbrev counts_at : ℕ → ℕ
  counts_at n = cond (test phase && (n == page)) (get_or slice n 0) 0

  -- additions that merge pages count what these do
  counts_pages : (adds : List Addition)
      → All (λ a. a.likes ≡ get_or slice a.page 0) adds
      → All (λ a. a.phase ≡ phase) adds
      → sum_by counts adds ≡ sum_by counts_at (map (λ a. a.page) adds)
  counts_pages [] likes phases = refl
  counts_pages (a ∷ adds) likes phases =
      let likes_is = All-head (λ (b : Addition). b.likes ≡ get_or slice b.page 0) a adds likes in
      let phase_is = All-head (λ (b : Addition). b.phase ≡ phase) a adds phases in
      let here : counts a ≡ counts_at a.page = λ m. cond (test (phase_is m) && (a.page == page)) (likes_is m) 0 in
      let rest = counts_pages adds (All-tail (λ (b : Addition). b.likes ≡ get_or slice b.page 0) a adds likes)
      (All-tail (λ (b : Addition). b.phase ≡ phase) a adds phases) in
      omega (arith, sum_by-cons counts a adds, sum_by-cons counts_at a.page (map (λ (b : Addition). b.page) adds))

  -- a page without likes may be left out
  counts_some : (n : ℕ) (none : Bool) → (get_or slice n 0 == 0) ≡ none
      → sum_by counts_at (cond (not none) (n ∷ []) []) ≡ counts_at n
  counts_some n true is =
      let zero_is : get_or slice n 0 ≡ 0 = eqb-true (get_or slice n 0) 0 is in
      sym (ap (λ (k : ℕ). cond (test phase && (n == page)) k 0) zero_is ∙ cond_same (test phase && (n == page)) 0)
  counts_some n false is = sum_by-cons counts_at n [] ∙ omega arith

  -- the number of the page itself, where n is that page
  counts_here : (n : ℕ) → counts_at n ≡ cond ((page == n) && test phase) (get_or slice page 0) 0
  counts_here n =
      elim (cases_eq n page) [
        | inl same ↦
            let P : Bool → Type 0 =
            λ t. cond (t && (n == page)) (get_or slice n 0) 0 ≡ cond ((page == n) && t) (get_or slice page 0) 0 in
            let yes : P true =
            (λ m. cond (eq-eqb n page same m) (get_or slice (same m) 0) 0)
            ∙ sym (λ m. cond (eq-eqb page n (sym same) m && true) (get_or slice page 0) 0) in
            let nay : P false = sym (λ m. cond (eq-eqb page n (sym same) m && false) (get_or slice page 0) 0) in
            elim (test phase) as P [ true ↦ yes | false ↦ nay ]
        | inr other ↦
            let P : Bool → Type 0 =
            λ t. cond (t && (n == page)) (get_or slice n 0) 0 ≡ cond ((page == n) && t) (get_or slice page 0) 0 in
            let away : (t : Bool) → cond ((page == n) && t) (get_or slice page 0) 0 ≡ 0 =
            λ t. ap (λ (b : Bool). cond (b && t) (get_or slice page 0) 0) (ne_eqb page n (λ e. other (sym e))) in
            let yes : P true = ap (λ (b : Bool). cond b (get_or slice n 0) 0) (ne_eqb n page other) ∙ sym (away true) in
            let nay : P false = sym (away false) in
            elim (test phase) as P [ true ↦ yes | false ↦ nay ]
      ]

  -- the first pages count for the page, where it is one of them
  liked-counts : (n : ℕ)
      → sum_by counts_at (liked_below slice n) ≡ cond (nat_lt page n && test phase) (get_or slice page 0) 0
  liked-counts zero =
      sym (ap (λ (b : Bool). cond (b && test phase) (get_or slice page 0) 0) (le-ltb page 0 (omega arith)))
  liked-counts (suc n) =
      let e : suc n ≡ n + 1 = omega arith in
      let more = liked-next slice n in
      let both = sum_by-append counts_at (liked_below slice n) (cond (not (get_or slice n 0 == 0)) (n ∷ []) []) in
      let last = counts_some n (get_or slice n 0 == 0) refl ∙ counts_here n in
      let before = liked-counts n in
      let next = one_before-next page n (get_or slice page 0) (test phase) in
      let goes : sum_by counts_at (liked_below slice (n + 1))
      ≡ cond (nat_lt page (n + 1) && test phase) (get_or slice page 0) 0 = ap (sum_by counts_at) more ∙ omega arith in
      subst (λ (k : ℕ). sum_by counts_at (liked_below slice k)
      ≡ cond (nat_lt page k && test phase) (get_or slice page 0) 0) (sym e) goes

  -- the additions that merge a slice count what it has of the page
  pub merging-all : (n : ℕ) (adds : List Addition) → Merges phase slice n adds → length slice ≡ n
      → sum_by counts adds ≡ cond (test phase) (get_or slice page 0) 0
  merging-all n adds merges sized =
      counts_pages adds merges.likes_are merges.phase_is ∙ ap (sum_by counts_at) merges.pages_are ∙ liked-counts n ∙
      elim (cases_lt page n) [
        | inl inside ↦ ap (λ (b : Bool). cond (b && test phase) (get_or slice page 0) 0) (lt-ltb page n inside)
        | inr outside ↦
            let none : get_or slice page 0 ≡ 0 = get_or_past slice page 0 (omega arith) in
            ap (λ (k : ℕ). cond (nat_lt page n && test phase) k 0) none ∙ (cond_same (nat_lt page n && test phase) 0
            ∙ sym (ap (λ (k : ℕ). cond (test phase) k 0) none ∙ cond_same (test phase) 0))
      ]

module _ {W : Type 0} (s : StationView W) (adds : List Addition) (logged : List Logged)
    (merges : Merges (phase_at s) s.slice (pages_of s.post) adds) (sized : length s.slice ≡ pages_of s.post) where
  -- a page has as many likes after a merge as before, added and in the slice
  pub merged-tally : (page : ℕ) → tally_of (merged s adds logged) page ≡ tally_of s page
  merged-tally page =
      let f : Addition → ℕ = λ a. cond (a.page == page) a.likes 0 in
      let none : get_or (merged s adds logged).slice page 0 ≡ 0 = same_everywhere (pages_of s.post) page 0 in
      let new : sum_by f adds ≡ get_or s.slice page 0 =
      merging-all (λ _. true) (phase_at s) s.slice page (pages_of s.post) adds merges sized in
      let now = ap (sum_by f) (then-additions s.post.worker s.post.did adds) in
      let more = sum_by-append f (additions_among s.post.did) adds in
      omega arith

  -- and in each phase
  pub merged-in : (phase page : ℕ)
      → additions_in (merged s adds logged).post phase page
      + cond (phase_at s == phase) (get_or (merged s adds logged).slice page 0) 0
      ≡ additions_in s.post phase page + cond (phase_at s == phase) (get_or s.slice page 0) 0
  merged-in phase page =
      let f : Addition → ℕ = λ a. cond ((a.phase == phase) && (a.page == page)) a.likes 0 in
      let none : cond (phase_at s == phase) (get_or (merged s adds logged).slice page 0) 0 ≡ 0 =
      ap (λ (k : ℕ). cond (phase_at s == phase) k 0) (same_everywhere (pages_of s.post) page 0)
      ∙ cond_same (phase_at s == phase) 0
      in
      let new : sum_by f adds ≡ cond (phase_at s == phase) (get_or s.slice page 0) 0 =
      merging-all (λ k. k == phase) (phase_at s) s.slice page (pages_of s.post) adds merges sized in
      let now = ap (sum_by f) (then-additions s.post.worker s.post.did adds) in
      let more = sum_by-append f (additions_among s.post.did) adds in
      omega arith
