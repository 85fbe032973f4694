-- The next page of a slice that has a like, by the split pages.
use Rattle.std.proofs.Common.{◌≡◌, ◌≢◌, ℕ, ◌+◌, ◌≤◌, Bool, true, false, get_or, inl, inr, refl, sym, ap, ◌∙◌, arith}
use Rattle.std.proofs.lemmas.Bool.{cases_eq, cases_lt}
use Rattle.like_tables.specs.SplitPages.{HoldNone, IsNextSplit, is_page}
use Rattle.like_tables.specs.SplitSlice.{HaveNoLikes, IsNextLiked, SplitSlice, bucket_in, has_split, likes_in}
use Rattle.like_tables.proofs.ByPage.{likes_in-other, likes_in-split}

-- what has no like up to a bucket has none up to a later one, where no bucket between holds a page
pub HaveNoLikes-on : (s : SplitSlice) (from place end : ℕ) → HaveNoLikes s from place → HoldNone s.splits place end
    → HaveNoLikes s from end
HaveNoLikes-on s from place end none hold page after before =
    elim (cases_lt (bucket_in s page) place) [
      | inl within ↦ none page after within
      | inr past ↦ likes_in-other s page (ap (is_page page) (hold (bucket_in s page) past before))
    ]

-- nor with the next split page, where its number is 0
pub HaveNoLikes-next : (s : SplitSlice) (from place page : ℕ) → HaveNoLikes s from place
    → IsNextSplit s.splits place page → get_or s.counts (bucket_in s page) 0 ≡ 0
    → HaveNoLikes s from (bucket_in s page + 1)
HaveNoLikes-next s from place page none next zero other after before =
    elim (cases_eq (bucket_in s other) (bucket_in s page)) [
      | inl same ↦ in_bucket (has_split s other) refl same
      | inr apart ↦
          HaveNoLikes-on s from place (bucket_in s page) none next.first other after (omega (arith, apart))
    ]
  where
    in_bucket : (t : Bool) → has_split s other ≡ t → bucket_in s other ≡ bucket_in s page → likes_in s other ≡ 0
    in_bucket true e same = likes_in-split s other e ∙ ap (λ b. get_or s.counts b 0) same ∙ zero
    in_bucket false e same = likes_in-other s other e

-- the next split page whose number is not 0 is the next that has a like
pub IsNextLiked-found : (s : SplitSlice) (from place page : ℕ) → from ≤ place → HaveNoLikes s from place
    → IsNextSplit s.splits place page → get_or s.counts (bucket_in s page) 0 ≢ 0 → IsNextLiked s from page
IsNextLiked-found s from place page later none next some = record {
  after = omega (arith, next.after);
  split = next.split;
  liked = λ e. some (sym (likes_in-split s page next.split) ∙ e);
  first = HaveNoLikes-on s from place (bucket_in s page) none next.first;
}
