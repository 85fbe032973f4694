-- The stretches of what steps in turn add tile each page's counts.
use Rattle.std.proofs.Common.{◌≡◌, ◌≢◌, ℕ, zero, suc, ◌+◌, ◌<◌, ◌≤◌, ◌==◌, nat_le, nat_lt, Bool, true, ◌&&◌, cond, ◌⊎◌, inl, inr, List, [], ◌∷◌, ◌++◌, All, filter, length, map, get_or, count_by, subst, ap, sym, ◌∙◌, refl, eq-eqb, arith}
use Rattle.std.specs.List.{AllPairs}
use Rattle.std.proofs.lemmas.Bool.{cases_eq, cases_lt, ne_eqb, lt-ltb, le-ltb, le-leb, lt-leb, cond-true}
use Rattle.std.proofs.lemmas.List.{get_or-map, length-map}
use Rattle.std.proofs.lemmas.List.Elements.{All-filter, All-map, All-nil, All-push}
use Rattle.std.proofs.lemmas.List.Kept.{AllPairs-filter}
use Rattle.std.proofs.lemmas.List.Quantifiers.{all_pairs_push}
use Rattle.std.proofs.lemmas.List.Sums.{sum_by-cons, sum_by_push}
use Rattle.like_core.specs.declared.page_step.PageCall.{PageCall}
use Rattle.like_core.specs.declared.page_step.PageCall.TheVariants.{Add, Read, Glance}
use Rattle.like_core.specs.declared.page_step.PageStep.{PageStep}
use Rattle.like_core.specs.declared.view.Addition.{Addition}
use Rattle.like_core.specs.Additions.{addition}
use Rattle.like_core.specs.PageSteps.{AddsSome, AreInTurn, additions_among, adds_to, and_addition, earliest_first, likes_in, likes_of, steps_by, stretch_of, stretches_of}
use Rattle.like_core.specs.views.Places.{end_of, covers, ends_at, is_empty, Counting, AreTiles, IsEnd, ArePlaced}
use Rattle.like_core.proofs.Steps.{earliest-filter}
use Rattle.like_core.proofs.Totals.{cond_none, one_more}

module _ {A : Type 0} where
  -- an element that passes a test counts
  pub counts_one : (p : A → Bool) (xs : List A) (i : ℕ) (d : A) → i < length xs → p (get_or xs i d) ≡ true
      → 1 ≤ count_by p xs
  counts_one p [] i d inside passes = absurd (omega arith)
  counts_one p (x ∷ xs) zero d inside passes =
      let here : cond {A = ℕ} (p x) 1 0 ≡ 1 = cond-true (p x) 1 0 passes in
      omega (arith, sum_by-cons (λ y. cond {A = ℕ} (p y) 1 0) x xs)
  counts_one p (x ∷ xs) (suc i) d inside passes =
      let rest = counts_one p xs i d (omega arith) passes in
      omega (arith, sum_by-cons (λ y. cond {A = ℕ} (p y) 1 0) x xs)

-- what is true of each two elements, by what a function makes of them, is true of each two that it makes
all_pairs_mapped : {A B : Type 0} (R : B → B → Type 0) (f : A → B) (xs : List A)
    → AllPairs (λ a b. R (f a) (f b)) xs → AllPairs R (map f xs)
all_pairs_mapped R f [] each = λ i j d below inside. absurd (omega arith)
all_pairs_mapped R f (x ∷ xs) each = λ i j d below inside.
    let long = length-map (x ∷ xs) f in
    subst (λ b. R b (get_or (map f (x ∷ xs)) j d)) (sym (get_or-map f (x ∷ xs) i x d (omega arith)))
    (subst (R (f (get_or (x ∷ xs) i x))) (sym (get_or-map f (x ∷ xs) j x d (omega arith)))
    (each i j x below (omega arith)))

-- whether a number is from the first count on and below the last
abbrev from_to : ℕ → ℕ → ℕ → ℕ
from_to first last n = cond (nat_le first n && nat_lt n last) 1 0

-- a stretch more at the end
from_to-more : (first last more n : ℕ)
    → first ≤ last
    → from_to first (last + more) n ≡ from_to first last n + from_to last (last + more) n
from_to-more first last more n up = elim (cases_lt n first) [
  | inl low ↦
      let a : from_to first (last + more) n ≡ 0 =
      ap (λ (b : Bool). cond {A = ℕ} (b && nat_lt n (last + more)) 1 0) (lt-leb first n low) in
      let b : from_to first last n ≡ 0 =
      ap (λ (b : Bool). cond {A = ℕ} (b && nat_lt n last) 1 0) (lt-leb first n low) in
      let c : from_to last (last + more) n ≡ 0 =
      ap (λ (b : Bool). cond {A = ℕ} (b && nat_lt n (last + more)) 1 0) (lt-leb last n (omega arith)) in
      omega arith
  | inr up_from ↦ elim (cases_lt n last) [
    | inl inside ↦
        let a : from_to first (last + more) n ≡ 1 =
        λ m. cond {A = ℕ} (le-leb first n up_from m && lt-ltb n (last + more) (omega arith) m) 1 0 in
        let b : from_to first last n ≡ 1 = λ m. cond {A = ℕ} (le-leb first n up_from m && lt-ltb n last inside m) 1 0 in
        let c : from_to last (last + more) n ≡ 0 =
        ap (λ (b : Bool). cond {A = ℕ} (b && nat_lt n (last + more)) 1 0) (lt-leb last n inside) in
        omega arith
    | inr past ↦
        let a : from_to first (last + more) n ≡ cond (true && nat_lt n (last + more)) 1 0 =
        ap (λ (b : Bool). cond {A = ℕ} (b && nat_lt n (last + more)) 1 0) (le-leb first n up_from) in
        let b : from_to first last n ≡ 0 = λ m. cond {A = ℕ} (le-leb first n up_from m && le-ltb n last past m) 1 0 in
        let c : from_to last (last + more) n ≡ cond (true && nat_lt n (last + more)) 1 0 =
        ap (λ (b : Bool). cond {A = ℕ} (b && nat_lt n (last + more)) 1 0) (le-leb last n past) in
        omega arith
  ]
]

-- how many additions of a list pass a test
abbrev pub counting_in : List Addition → Counting
counting_in adds test = count_by test adds

-- a count stays the first or the end of a stretch, where there are more stretches
end_on : (first : ℕ → ℕ) (f g : Counting) (page count : ℕ)
    → ((test : Addition → Bool) → f test ≤ g test)
    → IsEnd first f page count
    → IsEnd first g page count
end_on first f g page count more (inl is_first) = inl is_first
end_on first f g page count more (inr ends) = inr (let e = more (ends_at page count) in omega arith)

-- tiles are those that they were, where all counts are
pub tiles_on : (first f_last g_last : ℕ → ℕ) (f g : Counting)
    → ((page : ℕ) → g_last page ≡ f_last page)
    → ((test : Addition → Bool) → g test ≡ f test)
    → AreTiles first f_last f
    → AreTiles first g_last g
tiles_on first f_last g_last f g same_last same t = record {
  tiled = λ page n. same (covers page n)
      ∙ (t.tiled page n ∙ sym (ap (λ (last : ℕ). from_to (first page) last n) (same_last page)));
  some = same is_empty ∙ t.some;
}

-- no number is from a count on and below it
from_to-none : (first last n : ℕ) → last ≡ first → from_to first last n ≡ 0
from_to-none first last n same = elim (cases_lt n first) [
  | inl low ↦ ap (λ (b : Bool). cond {A = ℕ} (b && nat_lt n last) 1 0) (lt-leb first n low)
  | inr up ↦ λ m. cond {A = ℕ} (le-leb first n up m && le-ltb n last (omega arith) m) 1 0
]

-- all that is said of the additions of all workers, and of the calls of each, where these are the first and last counts
pub record Tiled (first last : ℕ → ℕ) (steps : List PageStep) : Type 0 where
  pub up : (page : ℕ) → first page ≤ last page
  pub tiles : AreTiles first last (counting_in (additions_among steps))
  pub end : (page : ℕ) → IsEnd first (counting_in (additions_among steps)) page (last page)

module _ (first f_last g_last : ℕ → ℕ) (before : List PageStep) (s : PageStep) (old : Tiled first f_last before)
    (finds : s.found ≡ f_last s.page) (some_likes : AddsSome s.call)
    (more_last : (q : ℕ) → g_last q ≡ f_last q + cond (s.page == q) (likes_of s.call) 0) where
  abbrev adds : List Addition
  adds = additions_among before

  -- a page's last count then
  same_or : (q : ℕ)
      → ((s.page ≡ q) × (g_last q ≡ s.found + likes_of s.call)) ⊎ ((s.page ≢ q) × (g_last q ≡ f_last q))
  same_or q =
      let here = more_last q in
      elim (cases_eq s.page q) [
        | inl same ↦
            let count = ap f_last same in
            let one : cond {A = ℕ} (s.page == q) (likes_of s.call) 0 ≡ likes_of s.call =
            cond-true (s.page == q) (likes_of s.call) 0 (eq-eqb s.page q same) in
            inl (same, omega arith)
        | inr other ↦
            let none : cond {A = ℕ} (s.page == q) (likes_of s.call) 0 ≡ 0 =
            ap (λ (b : Bool). cond {A = ℕ} b (likes_of s.call) 0) (ne_eqb s.page q other) in
            inr (other, omega arith)
      ]

  -- a step that adds nothing leaves the tiles
  tiled_still : (now : List Addition) → now ≡ adds → likes_of s.call ≡ 0
      → AreTiles first g_last (counting_in now) × ((q : ℕ) → IsEnd first (counting_in now) q (g_last q))
  tiled_still now same none =
      let last : (q : ℕ) → g_last q ≡ f_last q =
      λ q. (let here = more_last q in
      let nothing : cond {A = ℕ} (s.page == q) (likes_of s.call) 0 ≡ 0 =
      ap (λ n. cond {A = ℕ} (s.page == q) n 0) none ∙ cond_none (s.page == q) in omega arith) in
      subst (λ xs. AreTiles first g_last (counting_in xs) × ((q : ℕ) → IsEnd first (counting_in xs) q (g_last q))) (sym same) (
        tiles_on first f_last g_last (counting_in adds) (counting_in adds) last (λ test. refl) old.tiles,
        λ q. subst (IsEnd first (counting_in adds) q) (sym (last q)) (old.end q),
      )

  -- an addition's stretch begins at the page's last count
  tiled_more : (n : ℕ) → likes_of s.call ≡ n → 1 ≤ n
      → AreTiles first g_last (counting_in (adds ++ addition s.phase s.page s.found n ∷ []))
      × ((q : ℕ) → IsEnd first (counting_in (adds ++ addition s.phase s.page s.found n ∷ [])) q (g_last q))
  tiled_more n likes some_are =
      let page : ℕ = s.page in
      let begin : ℕ = s.found in
      let new : Addition = addition s.phase page begin n in
      let f : Counting = counting_in adds in
      let g : Counting = counting_in (adds ++ new ∷ []) in
      let more : (test : Addition → Bool) → g test ≡ f test + cond (test new) 1 0 =
      λ test. sum_by_push (λ (a : Addition). cond {A = ℕ} (test a) 1 0) adds new in
      let no_less : (test : Addition → Bool) → f test ≤ g test = λ test. (let e = more test in omega arith) in
      let tiled_now : (q m : ℕ) → g (covers q m) ≡ from_to (first q) (g_last q) m =
      λ q m.
      elim (same_or q) [
        | inl here ↦
            let e = more (covers q m) in
            let t = old.tiles.tiled q m in
            let count = finds ∙ ap f_last here.0 in
            let low = old.up q in
            let before_it : from_to (first q) (f_last q) m ≡ from_to (first q) begin m =
            ap (λ (last : ℕ). from_to (first q) last m) (sym count) in
            let own : cond {A = ℕ} (covers q m new) 1 0 ≡ from_to begin (begin + n) m =
            ap (λ (b : Bool). cond {A = ℕ} (b && nat_le begin m && nat_lt m (begin + n)) 1 0) (eq-eqb page q here.0) in
            let next = from_to-more (first q) begin n m (omega arith) in
            let all : g (covers q m) ≡ from_to (first q) (begin + n) m = omega arith in
            all ∙ ap (λ (last : ℕ). from_to (first q) last m) (ap (λ k. begin + k) (sym likes) ∙ sym here.1)
        | inr else ↦
            let e = more (covers q m) in
            let t = old.tiles.tiled q m in
            let none : cond {A = ℕ} (covers q m new) 1 0 ≡ 0 =
            ap (λ (b : Bool). cond {A = ℕ} (b && nat_le begin m && nat_lt m (begin + n)) 1 0) (ne_eqb page q else.0) in
            let all : g (covers q m) ≡ from_to (first q) (f_last q) m = omega arith in
            all ∙ ap (λ (last : ℕ). from_to (first q) last m) (sym else.1)
      ]
      in
      let full : cond {A = ℕ} (is_empty new) 1 0 ≡ 0 =
      ap (λ (b : Bool). cond {A = ℕ} b 1 0) (ne_eqb n 0 (λ none. absurd (omega arith))) in
      let last_now : (q : ℕ) → IsEnd first g q (g_last q) =
      λ q.
      elim (same_or q) [
        | inl here ↦
            let ends : ends_at q (begin + n) new ≡ true =
            λ m. eq-eqb page q here.0 m && eq-eqb (begin + n) (begin + n) refl m in
            let one : cond {A = ℕ} (ends_at q (begin + n) new) 1 0 ≡ 1 =
            cond-true (ends_at q (begin + n) new) 1 0 ends in
            let e = more (ends_at q (begin + n)) in
            let P : ℕ → Type 0 = IsEnd first g q in
            let new_end : P (begin + n) = inr (omega arith) in
            subst P (ap (λ k. begin + k) (sym likes) ∙ sym here.1) new_end
        | inr else ↦ subst (IsEnd first g q) (sym else.1) (end_on first f g q (f_last q) no_less (old.end q))
      ]
      in (
        record { tiled = tiled_now; some = (let e = more is_empty in let t = old.tiles.some in omega arith) },
        last_now,
      )

  tiled_both : (call : PageCall) → call ≡ s.call
      → AreTiles first g_last (counting_in (and_addition adds s.phase s.page s.found call))
      × ((q : ℕ) → IsEnd first (counting_in (and_addition adds s.phase s.page s.found call)) q (g_last q))
  tiled_both Read is = tiled_still adds refl (sym (ap likes_of is))
  tiled_both Glance is = tiled_still adds refl (sym (ap likes_of is))
  tiled_both (Add n) is = tiled_more n (sym (ap likes_of is)) (subst AddsSome (sym is) some_likes)

  pub tiled_step : Tiled first g_last (s ∷ before)
  tiled_step =
      let both = tiled_both s.call refl in
      record {
        up = λ q. (let low = old.up q in let more = more_last q in omega arith);
        tiles = both.0;
        end = both.1;
      }

-- steps in turn tile each page's counts up to the last
pub tiled : (first : ℕ → ℕ) (last : ℕ) (steps : List PageStep)
    → AreInTurn first last steps
    → Tiled first (λ page. first page + likes_in page steps) steps
tiled first last [] turn = record {
  up = λ page. omega arith;
  tiles = record { tiled = λ page n. sym (from_to-none (first page) (first page + 0) n (omega arith)); some = refl };
  end = λ page. inl (omega arith);
}
tiled first last (s ∷ before) turn =
    tiled_step first (λ page. first page + likes_in page before) (λ page. first page + likes_in page (s ∷ before)) before s
    (tiled first s.phase before turn.3) turn.0 turn.2
    (λ q. (let more = sum_by-cons (adds_to q) s before in omega arith))

-- there are no fewer additions after a step
no_fewer : (adds : List Addition) (k p found : ℕ) (call : PageCall) (test : Addition → Bool)
    → counting_in adds test ≤ counting_in (and_addition adds k p found call) test
no_fewer adds k p found call test =
    let more = one_more (λ a. cond (test a) 1 0) adds k p found call in omega arith

-- each step found the first count or the end of a stretch
found-ends : (first : ℕ → ℕ) (last : ℕ) (steps : List PageStep)
    → AreInTurn first last steps
    → All (λ s. IsEnd first (counting_in (additions_among steps)) s.page s.found) (earliest_first steps)
found-ends first last [] turn = All-nil (λ (s : PageStep). IsEnd first (counting_in []) s.page s.found)
found-ends first last (s ∷ before) turn =
    let f : Counting = counting_in (additions_among before) in
    let g : Counting = counting_in (additions_among (s ∷ before)) in
    let more : (test : Addition → Bool) → f test ≤ g test =
    no_fewer (additions_among before) s.phase s.page s.found s.call in
    let rest = found-ends first s.phase before turn.3 in
    let here = subst (IsEnd first f s.page) (sym turn.0) ((tiled first s.phase before turn.3).end s.page) in
    All-push (λ (t : PageStep). IsEnd first g t.page t.found) (earliest_first before) s
    (λ k d inside. let t : PageStep = get_or (earliest_first before) k d in end_on first f g t.page t.found more (rest k d inside))
    (end_on first f g s.page s.found more here)

-- what each step left of a page is at most the page's count
left-within : (first : ℕ → ℕ) (last page : ℕ) (steps : List PageStep)
    → AreInTurn first last steps
    → All (λ s. page ≡ s.page → s.found + likes_of s.call ≤ first page + likes_in page steps) (earliest_first steps)
left-within first last page [] turn =
    All-nil (λ (s : PageStep). page ≡ s.page → s.found + likes_of s.call ≤ first page + 0)
left-within first last page (s ∷ before) turn =
    let rest = left-within first s.phase page before turn.3 in
    let more = sum_by-cons (adds_to page) s before in
    All-push (λ (t : PageStep). page ≡ t.page → t.found + likes_of t.call ≤ first page + likes_in page (s ∷ before))
    (earliest_first before) s
    (λ k d inside same. let old = rest k d inside same in omega arith)
    (λ same.
    let found = turn.0 in
    let count = ap (λ p. first p + likes_in p before) same in
    let here : adds_to page s ≡ likes_of s.call = cond-true (s.page == page) (likes_of s.call) 0 (eq-eqb s.page page (sym same)) in
    omega arith)

-- so steps find counts in order
in-order : (first : ℕ → ℕ) (last : ℕ) (steps : List PageStep)
    → AreInTurn first last steps
    → AllPairs (λ s t. t.page ≡ s.page → s.found + likes_of s.call ≤ t.found) (earliest_first steps)
in-order first last [] turn = λ i j d below inside. absurd (omega arith)
in-order first last (s ∷ before) turn =
    let left = left-within first s.phase s.page before turn.3 in
    let found = turn.0 in
    all_pairs_push (λ (t u : PageStep). u.page ≡ t.page → t.found + likes_of t.call ≤ u.found) (earliest_first before) s
    (in-order first s.phase before turn.3) (λ k d inside same. let one = left k d inside same in omega arith)

-- the calls of each worker have their places
pub own_placed : (first : ℕ → ℕ) (last i : ℕ) (steps : List PageStep)
    → AreInTurn first last steps
    → ArePlaced first (counting_in (additions_among steps)) (stretches_of (steps_by i steps))
own_placed first last i steps turn =
    let f : Counting = counting_in (additions_among steps) in
    let test : PageStep → Bool = λ s. s.worker == i in
    let all : List PageStep = earliest_first steps in
    subst (λ xs. ArePlaced first f (map stretch_of xs)) (sym (earliest-filter test steps)) (record {
      ends = All-map (λ (c : Addition). IsEnd first f c.page c.old) stretch_of (filter test all)
          (All-filter test (λ (s : PageStep). IsEnd first f s.page s.found) all (found-ends first last steps turn));
      order = all_pairs_mapped (λ (b c : Addition). c.page ≡ b.page → end_of b ≤ c.old) stretch_of (filter test all)
          (AllPairs-filter (λ (s t : PageStep). t.page ≡ s.page → s.found + likes_of s.call ≤ t.found) test all
          (in-order first last steps turn));
    })
