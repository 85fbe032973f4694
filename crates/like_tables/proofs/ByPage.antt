-- The likes of a slice of split pages, page by page.
use Rattle.std.proofs.Common.{◌≡◌, ◌≢◌, ℕ, ◌<◌, ◌⊎◌, Bool, true, false, cond, length, get_or, set, replicate, Option, None, Some, inl, inr, refl, sym, ap, ◌∙◌, arith, length-set, get_or-set_same, get_or-set_other}
use Rattle.std.proofs.lemmas.Bool.{cases_eq, eq-eqb, eqb-true}
use Rattle.std.proofs.lemmas.List.{get_or-replicate, length-replicate, same_lists}
use Rattle.std.proofs.lemmas.List.FromFn.{get_or-map-range_with_len, length-map-range_with_len}
use Rattle.like_limits.specs.Buckets.{bucket}
use Rattle.like_tables.specs.SplitPages.{AreSplitPages, MayPut, SplitPages, beside, is_page, is_split, page_in, with_page}
use Rattle.like_tables.specs.SplitSlice.{IsSplitSlice, SplitSlice, bucket_in, by_page, has_split, likes_in, with_likes}

pub length-by_page : (s : SplitSlice) (n : ℕ) → length (by_page s n) ≡ n
length-by_page s n = length-map-range_with_len (likes_in s) 0 n

pub get_or-by_page : (s : SplitSlice) (n page d : ℕ) → page < n → get_or (by_page s n) page d ≡ likes_in s page
get_or-by_page s n page d there = get_or-map-range_with_len (likes_in s) 0 n page page d there (omega arith)

pub likes_in-split : (s : SplitSlice) (page : ℕ) → has_split s page ≡ true
    → likes_in s page ≡ get_or s.counts (bucket_in s page) 0
likes_in-split s page split = ap (λ (t : Bool). cond t (get_or s.counts (bucket_in s page) 0) 0) split

pub likes_in-other : (s : SplitSlice) (page : ℕ) → has_split s page ≡ false → likes_in s page ≡ 0
likes_in-other s page other = ap (λ (t : Bool). cond t (get_or s.counts (bucket_in s page) 0) 0) other

-- a page that has likes is split
pub liked-split : (s : SplitSlice) (page : ℕ) → likes_in s page ≢ 0 → has_split s page ≡ true
liked-split s page liked = go (has_split s page) refl
  where
    go : (t : Bool) → has_split s page ≡ t → has_split s page ≡ true
    go true e = e
    go false e = absurd (liked (likes_in-other s page e))

-- a bucket holds one page
is_page-one : (held : Option ℕ) (p q : ℕ) → is_page p held ≡ true → is_page q held ≡ true → p ≡ q
is_page-one None p q e f = absurd (cc (e))
is_page-one (Some page) p q e f = sym (eqb-true page p e) ∙ eqb-true page q f

pub is_split-one : (s : SplitPages) (p q : ℕ) → is_split s p ≡ true → is_split s q ≡ true
    → bucket s.factor p ≡ bucket s.factor q → p ≡ q
is_split-one s p q e f same = is_page-one (beside s p) p q e (ap (λ b. is_page q (page_in s b)) same ∙ f)

-- a page that is split is in its bucket
pub held-page : (s : SplitPages) (page : ℕ) → is_split s page ≡ true → beside s page ≡ Some page
held-page s page split = go (beside s page) refl
  where
    go : (held : Option ℕ) → beside s page ≡ held → beside s page ≡ Some page
    go None e = absurd (cc (split, ap (is_page page) e))
    go (Some other) e = e ∙ ap (λ n. Some n) (eqb-true other page (sym (ap (is_page page) e) ∙ split))

-- where no page is split, each may be put
pub MayPut-none : (s : SplitPages) (page : ℕ) → AreSplitPages s
    → ((other : ℕ) → is_split s other ≡ true → bucket s.factor other ≢ bucket s.factor page) → MayPut s page
MayPut-none s page are apart other holds =
    let own = are.own (bucket s.factor page) other holds in
    let split : is_split s other ≡ true =
    ap (λ b. is_page other (page_in s b)) own ∙ ap (is_page other) holds ∙ eq-eqb other other refl in
    absurd (apart other split own)

-- of two pages that are split only one has likes written
likes_in-written : (s : SplitSlice) (page other likes : ℕ) → IsSplitSlice s → has_split s page ≡ true → other ≢ page
    → likes_in (with_likes s page likes) other ≡ likes_in s other
likes_in-written s page other likes is split apart = go (has_split s other) refl
  where
    go : (t : Bool) → has_split s other ≡ t → likes_in (with_likes s page likes) other ≡ likes_in s other
    go true e =
        likes_in-split (with_likes s page likes) other e
        ∙ get_or-set_other s.counts (bucket_in s page) (bucket_in s other) likes 0
        (λ same. apart (is_split-one s.splits other page e split same))
        ∙ sym (likes_in-split s other e)
    go false e = likes_in-other (with_likes s page likes) other e ∙ sym (likes_in-other s other e)

likes_in-here : (s : SplitSlice) (page likes : ℕ) → IsSplitSlice s → has_split s page ≡ true
    → likes_in (with_likes s page likes) page ≡ likes
likes_in-here s page likes is split =
    likes_in-split (with_likes s page likes) page split
    ∙ get_or-set_same s.counts (bucket_in s page) likes 0 (is.there (bucket_in s page) page (held-page s.splits page split))

-- after a page's likes are written
pub by_page-with_likes : (s : SplitSlice) (n page likes : ℕ) → IsSplitSlice s → has_split s page ≡ true → page < n
    → by_page (with_likes s page likes) n ≡ set (by_page s n) page likes
by_page-with_likes s n page likes is split there =
    same_lists (by_page (with_likes s page likes) n) (set (by_page s n) page likes)
    (length-by_page (with_likes s page likes) n ∙ sym (length-by_page s n) ∙ sym (length-set (by_page s n) page likes))
    (λ k d less. each k d (omega (arith, length-by_page (with_likes s page likes) n)))
  where
    each : (k d : ℕ) → k < n → get_or (by_page (with_likes s page likes) n) k d ≡ get_or (set (by_page s n) page likes) k d
    each k d less =
        get_or-by_page (with_likes s page likes) n k d less ∙ elim (cases_eq k page) [
          | inl e ↦
              ap (likes_in (with_likes s page likes)) e ∙ likes_in-here s page likes is split
              ∙ sym (get_or-set_same (by_page s n) page likes d (omega (arith, length-by_page s n)))
              ∙ ap (λ j. get_or (set (by_page s n) page likes) j d) (sym e)
          | inr apart ↦
              likes_in-written s page k likes is split apart ∙ sym (get_or-by_page s n k d less)
              ∙ sym (get_or-set_other (by_page s n) page k likes d apart)
        ]

-- where no page has a like
pub by_page-none : (s : SplitSlice) (n : ℕ) → ((page : ℕ) → likes_in s page ≡ 0) → by_page s n ≡ replicate n 0
by_page-none s n none =
    same_lists (by_page s n) (replicate n 0) (length-by_page s n ∙ sym (length-replicate {A = ℕ} n 0))
    (λ k d less. let within : k < n = omega (arith, length-by_page s n) in
    get_or-by_page s n k d within ∙ none k ∙ sym (get_or-replicate n k 0 d within))

-- where each number is 0
pub likes_in-none : (s : SplitSlice) → ((b : ℕ) → get_or s.counts b 0 ≡ 0) → (page : ℕ) → likes_in s page ≡ 0
likes_in-none s none page = go (has_split s page) refl
  where
    go : (t : Bool) → has_split s page ≡ t → likes_in s page ≡ 0
    go true e = likes_in-split s page e ∙ none (bucket_in s page)
    go false e = likes_in-other s page e

-- after one more page was put
pub is_split-with_page : (s : SplitPages) (page other : ℕ) → AreSplitPages s
    → MayPut s page → is_split (with_page s page) other ≡ true → (other ≡ page) ⊎ (is_split s other ≡ true)
is_split-with_page s page other are may split =
    elim (cases_eq (bucket s.factor other) (bucket s.factor page)) [
      | inl same ↦
          let there : bucket s.factor page < length s.pages = omega (arith, are.all) in
          let held : beside (with_page s page) other ≡ Some page =
          ap (λ b. page_in (with_page s page) b) same
          ∙ get_or-set_same s.pages (bucket s.factor page) (Some page) None there in
          inl (sym (eqb-true page other (sym (ap (is_page other) held) ∙ split)))
      | inr apart ↦
          let kept : beside (with_page s page) other ≡ beside s other =
          get_or-set_other s.pages (bucket s.factor page) (bucket s.factor other) (Some page) None apart in
          inr (sym (ap (is_page other) kept) ∙ split)
    ]

-- the page that was put is split, and those before it still are
pub is_split-put : (s : SplitPages) (page : ℕ) → AreSplitPages s → is_split (with_page s page) page ≡ true
is_split-put s page are =
    let there : bucket s.factor page < length s.pages = omega (arith, are.all) in
    ap (is_page page) (get_or-set_same s.pages (bucket s.factor page) (Some page) None there) ∙ eq-eqb page page refl

pub is_split-kept : (s : SplitPages) (page other : ℕ) → AreSplitPages s → MayPut s page → is_split s other ≡ true
    → is_split (with_page s page) other ≡ true
is_split-kept s page other are may split =
    elim (cases_eq (bucket s.factor other) (bucket s.factor page)) [
      | inl same ↦
          let held : beside s page ≡ Some other = ap (page_in s) (sym same) ∙ held-page s other split in
          let one : other ≡ page = may other held in
          ap (is_split (with_page s page)) one ∙ is_split-put s page are
      | inr apart ↦
          ap (is_page other)
          (get_or-set_other s.pages (bucket s.factor page) (bucket s.factor other) (Some page) None apart)
          ∙ split
    ]
