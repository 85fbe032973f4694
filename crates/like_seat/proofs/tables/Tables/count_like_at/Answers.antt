use Rattle.std.proofs.Common.{◌≡◌, ℕ, ◌+◌, true, get_or, length, length-set, set, sum, refl, sym, ap, subst, ◌∙◌, arith}
use Rattle.like_core.specs.Additions.{addition}
use Rattle.like_core.specs.PageSteps.{additions_among}
use Rattle.like_core.specs.Post.{added, number_of, pages_of}
use Rattle.like_core.specs.WorkerState.{phase_of}
use Rattle.like_core.specs.declared.view.WorkerSeatView.{WorkerSeatView}
use Rattle.like_tables.specs.SplitSlice.{SplitSlice, bucket_in, by_page, has_split, likes_in}
use Rattle.like_tables.proofs.ByPage.{by_page-with_likes, get_or-by_page}
use Rattle.like_seat.specs.Kept.{IsKept, view_of}
use Rattle.like_seat.proofs.Keeping.{Kept-written, sum-written}
use Rattle.like_seat.proofs.MergedLikes.{all_added-push}
use Rattle.like_seat.proofs.tables.Tables.count_like_at.Goals as goal

pub returns-then-is_split-clause-kept : goal.returns-then-is_split-clause-kept
returns-then-is_split-clause-kept g c =
    let p = g.P.Post.view c.args.post.now in
    let t = c.args.self.now in
    let k = c.requires.kept in
    let n : ℕ = pages_of p in
    let page : ℕ = c.args.page in
    let split : has_split t.slice page ≡ true = sym c.is_split.ensures.split ∙ c.if-is_split.true in
    let sums : sum (by_page c.add.new.self n) ≡ sum c.add.new.self.counts =
    ap (λ (s : SplitSlice). sum (by_page s n)) c.add.ensures.counted
    ∙ sum-written t.slice n page (likes_in t.slice page + 1) (sum c.add.new.self.counts) k.slice split c.requires.there
    k.sums (omega (arith, c.add.ensures.total)) in
    Kept-written p p.did p.logged t _ k refl refl refl
    (ap (λ (s : SplitSlice). s.splits) c.add.ensures.counted)
    (ap (λ (s : SplitSlice). length s.counts) c.add.ensures.counted
    ∙ length-set t.slice.counts (bucket_in t.slice page) (likes_in t.slice page + 1)) c.add.ensures.slice sums
    (omega (arith, k.likes, k.sums, sums, c.add.ensures.total, c.count.ensures.likes))
    (omega (arith, k.likes, c.requires.fits, c.count.ensures.likes))

pub returns-then-is_split-clause-counts : goal.returns-then-is_split-clause-counts
returns-then-is_split-clause-counts g c =
    let p = g.P.Post.view c.args.post.now in
    let t = c.args.self.now in
    let k = c.requires.kept in
    let n : ℕ = pages_of p in
    let page : ℕ = c.args.page in
    let there = c.requires.there in
    let split : has_split t.slice page ≡ true = sym c.is_split.ensures.split ∙ c.if-is_split.true in
    let had = get_or-by_page t.slice n page 0 there in
    let likes : by_page c.add.new.self n ≡ set (by_page t.slice n) page (get_or (by_page t.slice n) page 0 + 1) =
    ap (λ (s : SplitSlice). by_page s n) c.add.ensures.counted
    ∙ by_page-with_likes t.slice n page (likes_in t.slice page + 1) k.slice split there
    ∙ ap (λ (x : ℕ). set (by_page t.slice n) page (x + 1)) (sym had) in (
      sym (c.is_split.ensures.at_post p k c.requires.running there) ∙ c.if-is_split.true,
      λ i. record (view_of (g.P.Post.board c.args.post.now) p t) {
        slice = likes i;
        sliced = c.then-self.ensures i;
        last = c.set_at.ensures.table i;
      },
    )

pub returns-clause-kept : goal.returns-clause-kept
returns-clause-kept g c =
    let p = g.P.Post.view c.args.post.now in
    let t = c.args.self.now in
    let k = c.requires.kept in
    let page : ℕ = c.args.page in
    let one = addition (phase_of p.state) page c.add-2.result 1 in
    let more = all_added-push (additions_among p.did) one in
    let after = record t { likes = c.count-2.new.self; last = c.set_at-2.new.self } in
    let now : WorkerSeatView = added p page c.add-2.result 1 (number_of (g.P.Post.view c.add-2.new.self)) in
    subst (λ (q : WorkerSeatView). IsKept q after) (sym c.add-2.ensures.view)
    (Kept-written p now.did now.logged t after k refl refl refl refl refl k.slice k.sums
    (omega (arith, k.likes, more, c.count-2.ensures.likes))
    (omega (arith, k.likes, c.requires.fits, c.count-2.ensures.likes)))

pub returns-clause-counts : goal.returns-clause-counts
returns-clause-counts g c =
    let p = g.P.Post.view c.args.post.now in (
      sym (c.is_split.ensures.at_post p c.requires.kept c.requires.running c.requires.there) ∙ c.if-is_split.false,
      λ m. view_of (c.add-2.ensures.board m) (c.add-2.ensures.view m)
          (record (c.args.self.now) { likes = c.count-2.new.self; last = c.set_at-2.ensures.table m }),
    )
