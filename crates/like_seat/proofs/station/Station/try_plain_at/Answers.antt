use Rattle.std.proofs.Common.{◌≡◌, false, ℕ, ◌+◌, ◌^◌, ◌<◌, ◌≤◌, refl, sym, ap, subst, ◌∙◌, arith}
use Rattle.like_core.specs.Additions.{addition}
use Rattle.like_core.specs.Post.{added, is_split_at, number_of, pages_of}
use Rattle.like_core.specs.WorkerState.{IsRunning, phase_of}
use Rattle.like_core.specs.PageSteps.{additions_among}
use Rattle.like_core.specs.declared.view.WorkerSeatView.{WorkerSeatView}
use Rattle.like_seat.specs.LikeCount.{LikeCountView}
use Rattle.like_seat.specs.Kept.{IsKept, view_of}
use Rattle.like_seat.specs.StationView.{StationView, likes_of}
use Rattle.like_tables.specs.Ranked.{IsRanked}
use Rattle.like_seat.specs.Steps.{liked_last, with_addition}
use Rattle.like_seat.proofs.Keeping.{Kept-written, knows-split}
use Rattle.like_seat.proofs.MergedLikes.{all_added-push}
use Rattle.like_seat.proofs.station.Station.try_plain_at.Goals as goal

pub invariant_of-self-2 : goal.invariant_of-self-2
invariant_of-self-2 g c =
    let p = g.P.Post.view c.self.inside.post in
    let t = c.self.inside.tables in
    let k = c.self.invariant in
    let page : ℕ = c.args.page in
    let most : 2 ^ 56 ≤ p.opening.limits.likes =
    subst (λ (v : StationView g.row.W.Denot). 2 ^ 56 ≤ v.post.opening.limits.likes) (sym c.self.view_is) c.requires.most in
    let few : t.likes.likes < 2 ^ 56 = c.try_count.ensures.room c.if-not-try_count.false in
    let one_more : c.try_count.new.self.likes ≡ t.likes.likes + 1 = c.try_count.ensures.added c.if-not-try_count.false in
    let one = addition (phase_of p.state) page c.add.result 1 in
    let more = all_added-push (additions_among p.did) one in
    let now : WorkerSeatView = added p page c.add.result 1 (number_of (g.P.Post.view c.add.new.self)) in
    subst (λ (q : WorkerSeatView). IsKept q (record t { likes = c.try_count.new.self; last = c.set_at.new.self }))
    (sym c.add.ensures.view)
    (Kept-written p now.did now.logged t
    (record t { likes = c.try_count.new.self; last = c.set_at.new.self }) k refl refl refl refl refl k.slice k.sums (omega (arith, k.likes, more, one_more)) (omega (arith, few, most, one_more)))

pub invariant_of-self : goal.invariant_of-self
invariant_of-self g c =
    let t = c.self.inside.tables in
    subst (λ (n : LikeCountView). IsKept (g.P.Post.view c.self.inside.post) (record t { likes = n }))
    (sym (c.try_count.ensures.none c.if-not-try_count.true).1) c.self.invariant

pub returns-clause-station : goal.returns-clause-station
returns-clause-station g c = (invariant_of-self-2 g c).station

pub returns-clause-counts : goal.returns-clause-counts
returns-clause-counts g c = λ _.
    let p = g.P.Post.view c.self.inside.post in
    let t = c.self.inside.tables in
    let page : ℕ = c.args.page in
    let user : ℕ = c.args.ranked.user in
    let old : ℕ = c.add.result in
    let number : ℕ = number_of (g.P.Post.view c.add.new.self) in (
      old,
      (
        c.requires.plain,
        ◌∙◌ {b = liked_last (with_addition (view_of (g.P.Post.board c.self.inside.post) p t) page old 1 number) user page}
            (λ m. view_of (c.add.ensures.board m) (c.add.ensures.view m)
            (record t { likes = c.try_count.new.self; last = c.set_at.ensures.table m }))
            (ap (λ (s : StationView g.row.W.Denot). liked_last (with_addition s page old 1 number) user page)
            c.self.view_is),
      ),
    )

pub returns-clause-few : goal.returns-clause-few
returns-clause-few g c = λ _.
    let few = c.try_count.ensures.room c.if-not-try_count.false in
    subst (λ (v : StationView g.row.W.Denot). likes_of v < 2 ^ 56) c.self.view_is
    (subst (λ (n : ℕ). n < 2 ^ 56) c.self.invariant.likes few)

pub returns-then-not-try_count-clause-full : goal.returns-then-not-try_count-clause-full
returns-then-not-try_count-clause-full g c = λ _. c.self.view_is

pub set_at-requires-clause-ranked : goal.set_at-requires-clause-ranked
set_at-requires-clause-ranked g c =
    subst (λ (v : StationView g.row.W.Denot). IsRanked v.last.share c.args.ranked) (sym c.self.view_is)
    c.requires.ranked

pub add-requires : goal.add-requires
add-requires g c =
    let p = g.P.Post.view c.self.inside.post in
    let t = c.self.inside.tables in
    let k = c.self.invariant in
    let page : ℕ = c.args.page in
    let runs : IsRunning p.state =
    subst (λ (v : StationView g.row.W.Denot). IsRunning v.post.state) (sym c.self.view_is) c.requires.running in
    let plain : is_split_at p page ≡ false =
    subst (λ (v : StationView g.row.W.Denot). is_split_at v.post page ≡ false) (sym c.self.view_is) c.requires.plain in
    let most : 2 ^ 56 ≤ p.opening.limits.likes =
    subst (λ (v : StationView g.row.W.Denot). 2 ^ 56 ≤ v.post.opening.limits.likes) (sym c.self.view_is) c.requires.most in
    let few : t.likes.likes < 2 ^ 56 = c.try_count.ensures.room c.if-not-try_count.false in
    record {
      runs = runs;
      there = subst (λ (v : StationView g.row.W.Denot). page < pages_of v.post) (sym c.self.view_is) c.requires.there;
      known = knows-split p page runs k.station.masked;
      like = λ _. refl;
      merge = λ split. absurd (cc (split, plain));
      few = omega (arith, k.likes, few, most);
    }
