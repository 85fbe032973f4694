-- What a slice of split pages has of each page.
use Rattle.std.proofs.Common.{◌≡◌, ℕ, ◌<◌, ◌^◌, Bool, false, true, cond, length, get_or, replicate, Option, None, Some, inl, inr, refl, sym, ap, ◌∙◌, arith}
use Rattle.std.proofs.lemmas.Bool.{cases_lt, eq-eqb}
use Rattle.std.proofs.lemmas.List.{get_or_default, get_or_past, get_or-replicate, length-replicate, same_lists}
use Rattle.like_limits.specs.Buckets.{bucket, buckets}
use Rattle.like_tables.specs.SplitPages.{is_page, none_split, page_in}
use Rattle.like_tables.specs.SplitSlice.{IsSplitSlice, SplitSlice, bucket_in, has_split, likes_in, no_slice}

-- no bucket holds a page at first
page_in-none : (factor b : ℕ) → ◌≡◌ {A = Option ℕ} (page_in (none_split factor) b) None
page_in-none factor b =
    elim (cases_lt b buckets) [
      | inl within ↦ get_or-replicate buckets b None None within
      | inr past ↦
          get_or_past (replicate buckets None) b None (omega (arith, length-replicate {A = Option ℕ} buckets None))
    ]

-- the slice that has no split page
pub IsSplitSlice-none : (factor many : ℕ) → factor < 2 ^ 32 → IsSplitSlice (no_slice factor many)
IsSplitSlice-none factor many below = record {
  pages = record {
    factor = below;
    all = length-replicate {A = Option ℕ} buckets None;
    own = λ b page is. absurd (cc (page_in-none factor b, is));
  };
  there = λ b page is. absurd (cc (page_in-none factor b, is));
  empty = λ b none. elim (cases_lt b many) [
    | inl within ↦ get_or-replicate many b 0 0 within
    | inr past ↦ get_or_past (replicate many 0) b 0 (omega (arith, length-replicate {A = ℕ} many 0))
  ];
}

pub has_split-none : (factor many page : ℕ) → has_split (no_slice factor many) page ≡ false
has_split-none factor many page = ap (is_page page) (page_in-none factor (bucket factor page))

-- a page that a bucket holds is split
held-split : (s : SplitSlice) (b page : ℕ) → IsSplitSlice s → page_in s.splits b ≡ Some page → has_split s page ≡ true
held-split s b page is holds =
    ap (λ k. is_page page (page_in s.splits k)) (is.pages.own b page holds) ∙ ap (is_page page) holds
    ∙ eq-eqb page page refl

-- where no page has a like, each number is 0
pub counts-none : (s : SplitSlice) → IsSplitSlice s → ((page : ℕ) → likes_in s page ≡ 0) → (b : ℕ) → get_or s.counts b 0 ≡ 0
counts-none s is none b = by_page_in (page_in s.splits b) refl
  where
    by_page_in : (held : Option ℕ) → page_in s.splits b ≡ held → get_or s.counts b 0 ≡ 0
    by_page_in None e = is.empty b e
    by_page_in (Some page) e =
        ap (λ k. get_or s.counts k 0) (sym (is.pages.own b page e))
        ∙ sym (ap (λ (t : Bool). cond t (get_or s.counts (bucket_in s page) 0) 0) (held-split s b page is e))
        ∙ none page

-- so it has no like
pub counts-replicate : (s : SplitSlice) → IsSplitSlice s → ((page : ℕ) → likes_in s page ≡ 0)
    → s.counts ≡ replicate (length s.counts) 0
counts-replicate s is none =
    same_lists s.counts (replicate (length s.counts) 0) (sym (length-replicate {A = ℕ} (length s.counts) 0))
    (λ k d less. at_each k d less ∙ sym (get_or-replicate (length s.counts) k 0 d less))
  where
    at_each : (k d : ℕ) → k < length s.counts → get_or s.counts k d ≡ 0
    at_each k d less = get_or_default s.counts k d 0 less ∙ counts-none s is none k
