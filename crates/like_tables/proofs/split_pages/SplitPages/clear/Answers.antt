use Rattle.std.proofs.Common.{◌+◌, ◌<◌, set, arith, sym, ap, subst, ◌∙◌}
use Rattle.like_limits.specs.Buckets.{buckets}
use Rattle.like_tables.specs.SplitPages.{SplitPages, none_split}
use Rattle.like_tables.specs.Tags.{AreTags}
use Rattle.like_tables.proofs.Tagged.{AreEmpty, AreEmpty-next, AreTags-emptied, inside-lt, table_by-cleared}
use Rattle.like_tables.proofs.split_pages.SplitPages.clear.Goals as goal

pub loop-bucket-preserved : goal.loop-bucket-preserved
loop-bucket-preserved c =
    let i = c.loop-bucket.invariant in
    let s = c.loop-bucket.self-inside in
    let b = c.in-Some.bucket in
    let next = c.in-Some.ensures.next in
    let there : b < buckets = omega (arith, inside-lt s.used b next.inside, i.tags.room) in
    let written = sym c.empty_tag.ensures in
    record {
      within = omega arith;
      factor = i.factor;
      tags = subst (λ v. AreTags s.factor (set s.tags b v) c.remove.new.self) written
          (AreTags-emptied s.factor s.tags s.used c.remove.new.self b i.tags there c.remove.ensures);
      empty = subst (λ v. AreEmpty s.factor (set s.tags b v) (b + 1)) written
          (AreEmpty-next s.factor s.tags s.used c.loop-bucket.from b i.tags i.empty next);
    }

pub returns : goal.returns
returns c =
    let i = c.loop-bucket.invariant in
    let s = c.loop-bucket.self-inside in
    table_by-cleared s.factor s.tags s.used c.loop-bucket.from i.tags i.empty c.in_default.ensures.none
    ∙ ap none_split i.factor

pub loop-bucket-init : goal.loop-bucket-init
loop-bucket-init c = record {
  within = omega arith;
  factor = ap (λ (s : SplitPages). s.factor) c.self.view_is;
  tags = c.self.invariant;
  empty = λ b below. absurd (omega (arith, below));
}

pub remove-requires : goal.remove-requires
remove-requires c = inside-lt c.loop-bucket.self-inside.used c.in-Some.bucket c.in-Some.ensures.next.inside

pub loop-bucket-smaller : goal.loop-bucket-smaller
loop-bucket-smaller c =
    let s = c.loop-bucket.self-inside in
    let next = c.in-Some.ensures.next in
    omega (arith, inside-lt s.used c.in-Some.bucket next.inside, c.loop-bucket.invariant.tags.room, next.after)
