-- What a merge makes of the likes of a page: none more, and none less.
use Rattle.std.proofs.Common.{◌≡◌, ℕ, ◌+◌, ◌<◌, ◌==◌, ◌&&◌, Bool, true, false, cond, List, [], ◌∷◌, ◌++◌, length, get_or, replicate, sum, refl, ap, sym, ◌∙◌, inl, inr, arith}
use Rattle.std.specs.List.{All}
use Rattle.std.proofs.lemmas.Bool.{cases_lt}
use Rattle.std.proofs.lemmas.List.{get_or_past, get_or-replicate, length-replicate}
use Rattle.std.proofs.lemmas.List.Elements.{All-head, All-tail}
use Rattle.std.proofs.lemmas.List.Sums.{sum_by-append, sum_by-cons, sum_by-set}
use Rattle.like_core.specs.declared.log.Logged.{Logged}
use Rattle.like_core.specs.declared.view.Addition.{Addition}
use Rattle.like_core.specs.Additions.{added_in, added_to, all_added}
use Rattle.like_core.specs.Post.{pages_of}
use Rattle.like_core.specs.PageSteps.{additions_among}
use Rattle.like_core.proofs.Steps.{then-additions}
use Rattle.like_seat.specs.Merge.{IsMerged, MergesAll, merged}
use Rattle.like_seat.specs.StationView.{StationView, likes_of, phase_at, tally_of}
use Rattle.like_seat.specs.Steps.{merged_page}

-- one addition more
pub all_added-push : (xs : List Addition) (a : Addition) → all_added (xs ++ a ∷ []) ≡ all_added xs + a.likes
all_added-push xs a = sum_by-append (λ (b : Addition). b.likes) xs (a ∷ []) ∙ omega arith

-- the merge of a page leaves the number of likes
pub merged_page-likes : {W : Type 0} (s : StationView W) (page old number : ℕ)
    → page < length s.slice
    → likes_of (merged_page s page old number) ≡ likes_of s
merged_page-likes s page old number there =
    let likes : ℕ = get_or s.slice page 0 in
    let less : sum (merged_page s page old number).slice + likes ≡ sum s.slice =
    omega (arith, sum_by-set (λ x. x) s.slice page 0 0 there) in
    let more = all_added-push (additions_among s.post.did) (record { phase = phase_at s; page = page; old = old; likes = likes }) in
    omega (arith, less, more)

-- a choice between the same
pub cond_same : (b : Bool) (n : ℕ) → cond b n n ≡ n
cond_same true n = refl
cond_same false n = refl

-- a list of one element holds nothing else, whatever the place
pub same_everywhere : {X : Type 0} (n i : ℕ) (x : X) → get_or (replicate n x) i x ≡ x
same_everywhere {X} n i x =
    elim (cases_lt i n) [
      | inl inside ↦ get_or-replicate n i x x inside
      | inr outside ↦ get_or_past (replicate n x) i x (omega (arith, length-replicate {A = X} n x))
    ]

-- additions of one phase count so in each phase
pub added_in-phase : (phase page : ℕ) (k : ℕ) (adds : List Addition) → All (λ a. a.phase ≡ phase) adds
    → added_in k page adds ≡ cond (phase == k) (added_to page adds) 0
added_in-phase phase page k [] phases = sym (cond_same (phase == k) 0)
added_in-phase phase page k (a ∷ adds) phases =
    let f : Addition → ℕ = λ b. cond ((b.phase == k) && (b.page == page)) b.likes 0 in
    let g : Addition → ℕ = λ b. cond (b.page == page) b.likes 0 in
    let here : a.phase ≡ phase = All-head (λ (b : Addition). b.phase ≡ phase) a adds phases in
    let rest = added_in-phase phase page k adds (All-tail (λ (b : Addition). b.phase ≡ phase) a adds phases) in
    let same : f a ≡ cond ((phase == k) && (a.page == page)) a.likes 0 =
    ap (λ (n : ℕ). cond ((n == k) && (a.page == page)) a.likes 0) here in
    sum_by-cons f a adds ∙ omega (arith, same, rest) ∙ by_phase (phase == k)
    ∙ ap (λ (n : ℕ). cond (phase == k) n 0) (sym (sum_by-cons g a adds))
  where
    by_phase : (b : Bool)
        → cond (b && (a.page == page)) a.likes 0 + cond b (added_to page adds) 0
        ≡ cond b (cond (a.page == page) a.likes 0 + added_to page adds) 0
    by_phase true = refl
    by_phase false = refl

-- a page has as many likes after a merge as before, added and in the slice
pub merged-tally : {W : Type 0} (s : StationView W) (adds : List Addition) (logged : List Logged)
    → MergesAll s.post.opening.factor (phase_at s) s.slice adds
    → (page : ℕ)
    → tally_of (merged s adds logged) page ≡ tally_of s page
merged-tally s adds logged merges page =
    let f : Addition → ℕ = λ a. cond (a.page == page) a.likes 0 in
    let none : get_or (merged s adds logged).slice page 0 ≡ 0 = same_everywhere (pages_of s.post) page 0 in
    let more = ap (added_to page) (then-additions s.post.worker s.post.did adds) in
    omega (arith, none, more, merges.sums page, sum_by-append f (additions_among s.post.did) adds)

-- so it is of each page where a slice is merged
pub IsMerged-tally : {W : Type 0} (s t : StationView W)
    → IsMerged s t
    → (page : ℕ)
    → tally_of t page ≡ tally_of s page
IsMerged-tally {W} s t m page =
    ap (λ (u : StationView W). tally_of u page) m.1.1 ∙ merged-tally s m.0 t.post.logged m.1.0 page
