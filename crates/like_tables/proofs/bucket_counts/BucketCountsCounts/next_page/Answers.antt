use Rattle.std.proofs.Common.{◌≡◌, ◌<◌, ◌≢◌, List, ℕ, get_or, ap, sym, subst, ◌∙◌, arith}
use Rattle.like_limits.specs.Buckets.{buckets}
use Rattle.like_tables.specs.SplitSlice.{HaveNoLikes, IsNextLiked, SplitSlice, bucket_in, slice_by}
use Rattle.like_tables.proofs.NextLiked.{HaveNoLikes-next, HaveNoLikes-on, IsNextLiked-found}
use Rattle.like_tables.proofs.Tagged.{bucket-lt}
use Rattle.like_tables.proofs.bucket_counts.BucketCountsCounts.next_page.Goals as goal

pub loop-page-init : goal.loop-page-init
loop-page-init c = record {
  after = omega arith;
  within = c.requires.within;
  none = λ page after before. absurd (omega (arith, after, before));
}

pub returns-then-self-bucket-ne0-clause-next : goal.returns-then-self-bucket-ne0-clause-next
returns-then-self-bucket-ne0-clause-next c =
    let s : SplitSlice = slice_by c.args.splits.now c.self.inside.counts in
    let some : get_or s.counts (bucket_in s c.in-Some.page) 0 ≢ 0 =
    λ e. c.if-self-bucket-ne0.true (ap (λ b. get_or s.counts b 0) c.bucket-bucket.ensures.bucket ∙ e) in
    subst (λ (xs : List ℕ). IsNextLiked (slice_by c.args.splits.now xs) c.args.from c.in-Some.page) c.self.view_is
    (IsNextLiked-found s c.args.from c.loop-page.place c.in-Some.page c.loop-page.invariant.after
    c.loop-page.invariant.none c.in-Some.ensures.next some)

pub loop-page-smaller : goal.loop-page-smaller
loop-page-smaller c =
    let s : SplitSlice = slice_by c.args.splits.now c.self.inside.counts in
    let below : bucket_in s c.in-Some.page < buckets = bucket-lt s.splits.factor c.in-Some.page in
    omega (arith, c.bucket-bucket.ensures.bucket, below, c.in-Some.ensures.next.after)

pub loop-page-preserved : goal.loop-page-preserved
loop-page-preserved c =
    let s : SplitSlice = slice_by c.args.splits.now c.self.inside.counts in
    let at : c.bucket-bucket.result ≡ bucket_in s c.in-Some.page = c.bucket-bucket.ensures.bucket in
    let below : bucket_in s c.in-Some.page < buckets = bucket-lt s.splits.factor c.in-Some.page in
    record {
      after = omega (arith, at, c.in-Some.ensures.next.after, c.loop-page.invariant.after);
      within = omega (arith, at, below);
      none = rw at
          (HaveNoLikes-next s c.args.from c.loop-page.place c.in-Some.page c.loop-page.invariant.none
          c.in-Some.ensures.next (ap (λ b. get_or s.counts b 0) (sym at) ∙ c.if-self-bucket-ne0.false));
    }

pub returns-clause-none : goal.returns-clause-none
returns-clause-none c =
    let s : SplitSlice = slice_by c.args.splits.now c.self.inside.counts in
    subst (λ (xs : List ℕ). HaveNoLikes (slice_by c.args.splits.now xs) c.args.from buckets) c.self.view_is
    (HaveNoLikes-on s c.args.from c.loop-page.place buckets c.loop-page.invariant.none c.in_default.ensures.none)
