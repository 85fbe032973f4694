use Rattle.std.proofs.Common.{◌≡◌, ℕ, ◌+◌, ◌^◌, ◌<◌, ◌≤◌, true, get_or, length, length-set, set, sum, refl, sym, ap, subst, ◌∙◌, arith}
use Rattle.like_core.specs.Post.{is_split_at, pages_of}
use Rattle.like_core.specs.WorkerState.{IsRunning}
use Rattle.like_tables.specs.SplitSlice.{SplitSlice, bucket_in, by_page, has_split, likes_in}
use Rattle.like_tables.proofs.ByPage.{by_page-with_likes, get_or-by_page}
use Rattle.like_seat.specs.LikeCount.{LikeCountView}
use Rattle.like_seat.specs.Kept.{IsKept, view_of}
use Rattle.like_seat.specs.StationView.{StationView, likes_of}
use Rattle.like_tables.specs.Ranked.{IsRanked}
use Rattle.like_seat.specs.Steps.{liked_last, sliced}
use Rattle.like_seat.proofs.Keeping.{Kept-written, has_split-at_post, sum-written}
use Rattle.like_seat.proofs.station.Station.try_sliced_at.Goals as goal

pub invariant_of-self-2 : goal.invariant_of-self-2
invariant_of-self-2 g c =
    let p = g.P.Post.view c.self.inside.post in
    let t = c.self.inside.tables in
    let k = c.self.invariant in
    let n : ℕ = pages_of p in
    let page : ℕ = c.args.page in
    let there : page < n =
    subst (λ (v : StationView g.row.W.Denot). page < pages_of v.post) (sym c.self.view_is) c.requires.there in
    let most : 2 ^ 56 ≤ p.opening.limits.likes =
    subst (λ (v : StationView g.row.W.Denot). 2 ^ 56 ≤ v.post.opening.limits.likes) (sym c.self.view_is) c.requires.most in
    let few : t.likes.likes < 2 ^ 56 = c.try_count.ensures.room c.if-not-try_count.false in
    let one_more : c.try_count.new.self.likes ≡ t.likes.likes + 1 = c.try_count.ensures.added c.if-not-try_count.false in
    let runs : IsRunning p.state =
    subst (λ (v : StationView g.row.W.Denot). IsRunning v.post.state) (sym c.self.view_is) c.requires.running in
    let split : has_split t.slice page ≡ true =
    has_split-at_post p t.slice page k.splits runs there
    ∙ subst (λ (v : StationView g.row.W.Denot). is_split_at v.post page ≡ true) (sym c.self.view_is) c.requires.split in
    let sums : sum (by_page c.add.new.self n) ≡ sum c.add.new.self.counts =
    ap (λ (s : SplitSlice). sum (by_page s n)) c.add.ensures.counted
    ∙ sum-written t.slice n page (likes_in t.slice page + 1) (sum c.add.new.self.counts) k.slice split there k.sums
    (omega (arith, c.add.ensures.total)) in
    Kept-written p p.did p.logged t _ k refl refl refl
    (ap (λ (s : SplitSlice). s.splits) c.add.ensures.counted)
    (ap (λ (s : SplitSlice). length s.counts) c.add.ensures.counted
    ∙ length-set t.slice.counts (bucket_in t.slice page) (likes_in t.slice page + 1)) c.add.ensures.slice sums
    (omega (arith, k.likes, k.sums, sums, c.add.ensures.total, one_more)) (omega (arith, few, most, one_more))

pub returns-clause-counts : goal.returns-clause-counts
returns-clause-counts g c =
    let p = g.P.Post.view c.self.inside.post in
    let t = c.self.inside.tables in
    let k = c.self.invariant in
    let n : ℕ = pages_of p in
    let page : ℕ = c.args.page in
    let there : page < n =
    subst (λ (v : StationView g.row.W.Denot). page < pages_of v.post) (sym c.self.view_is) c.requires.there in
    let runs : IsRunning p.state =
    subst (λ (v : StationView g.row.W.Denot). IsRunning v.post.state) (sym c.self.view_is) c.requires.running in
    let split : has_split t.slice page ≡ true =
    has_split-at_post p t.slice page k.splits runs there
    ∙ subst (λ (v : StationView g.row.W.Denot). is_split_at v.post page ≡ true) (sym c.self.view_is) c.requires.split in
    let had = get_or-by_page t.slice n page 0 there in
    let likes : by_page c.add.new.self n ≡ set (by_page t.slice n) page (get_or (by_page t.slice n) page 0 + 1) =
    ap (λ (s : SplitSlice). by_page s n) c.add.ensures.counted
    ∙ by_page-with_likes t.slice n page (likes_in t.slice page + 1) k.slice split there
    ∙ ap (λ (x : ℕ). set (by_page t.slice n) page (x + 1)) (sym had) in
    let counted = λ (v : StationView g.row.W.Denot). liked_last (sliced v page) c.args.ranked.user page in λ _. (
      c.requires.split,
      ◌∙◌ {b = counted (view_of (g.P.Post.board c.self.inside.post) p t)}
          (λ i. record (view_of (g.P.Post.board c.self.inside.post) p t) {
            slice = likes i;
            sliced = c.then-self-inside.ensures i;
            last = c.set_at.ensures.table i;
          })
          (ap counted c.self.view_is),
    )

pub invariant_of-self : goal.invariant_of-self
invariant_of-self g c =
    let t = c.self.inside.tables in
    subst (λ (n : LikeCountView). IsKept (g.P.Post.view c.self.inside.post) (record t { likes = n }))
    (sym (c.try_count.ensures.none c.if-not-try_count.true).1) c.self.invariant

pub returns-clause-station : goal.returns-clause-station
returns-clause-station g c = (invariant_of-self-2 g c).station

pub returns-clause-few : goal.returns-clause-few
returns-clause-few g c = λ _.
    let few = c.try_count.ensures.room c.if-not-try_count.false in
    subst (λ (v : StationView g.row.W.Denot). likes_of v < 2 ^ 56) c.self.view_is
    (subst (λ (n : ℕ). n < 2 ^ 56) c.self.invariant.likes few)

pub returns-then-not-try_count-clause-full : goal.returns-then-not-try_count-clause-full
returns-then-not-try_count-clause-full g c = λ _. c.self.view_is

pub set_at-requires-clause-ranked : goal.set_at-requires-clause-ranked
set_at-requires-clause-ranked g c =
    subst (λ (v : StationView g.row.W.Denot). IsRanked v.last.share c.args.ranked) (sym c.self.view_is)
    c.requires.ranked

pub add-requires-clause-split : goal.add-requires-clause-split
add-requires-clause-split g c =
    let p = g.P.Post.view c.self.inside.post in
    let t = c.self.inside.tables in
    let k = c.self.invariant in
    let page : ℕ = c.args.page in
    let there : page < pages_of p =
    subst (λ (v : StationView g.row.W.Denot). page < pages_of v.post) (sym c.self.view_is) c.requires.there in
    let runs : IsRunning p.state =
    subst (λ (v : StationView g.row.W.Denot). IsRunning v.post.state) (sym c.self.view_is) c.requires.running in
    has_split-at_post p t.slice page k.splits runs there
    ∙ subst (λ (v : StationView g.row.W.Denot). is_split_at v.post page ≡ true) (sym c.self.view_is) c.requires.split
