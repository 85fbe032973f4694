use Rattle.std.proofs.Common.{◌≡◌, ℕ, sum, refl, sym, ap, subst, ◌∙◌, arith}
use Rattle.like_core.specs.Additions.{all_added}
use Rattle.like_core.specs.Post.{pages_of}
use Rattle.like_core.specs.WorkerState.{RunsSplit, phase_of}
use Rattle.like_core.specs.PageSteps.{additions_among}
use Rattle.like_tables.specs.SplitSlice.{SplitSlice, by_page}
use Rattle.like_tables.specs.StashView.{IsStash, StashView}
use Rattle.std.proofs.lemmas.List.{length-replicate}
use Rattle.like_limits.specs.Buckets.{buckets}
use Rattle.like_tables.proofs.Tagged.{bucket-lt}
use Rattle.like_seat.proofs.Keeping.{Kept-unsplit, by_page-no_slice, sum-zeros}
use Rattle.like_seat.proofs.station.service.Station+P+W+BucketCounts.of_service.Goals as goal

pub invariant_of-result : goal.invariant_of-result
invariant_of-result g c =
    let p = g.P.Post.view c.args.post in
    let t = c.in-Ok.tables in
    let e = c.in-Ok.ensures in
    let n : ℕ = pages_of p in
    let none : sum (by_page t.slice n) ≡ 0 =
    ap (λ (s : SplitSlice). sum (by_page s n)) e.slice ∙ ap sum (by_page-no_slice c.args.factor buckets n) ∙ sum-zeros n in
    let added : all_added (additions_among p.did) ≡ 0 =
    ap (λ v. all_added (additions_among v.did)) c.requires.fresh in
    let phase : phase_of p.state ≡ 0 = ap phase_of (ap (λ v. v.state) c.requires.fresh) in
    Kept-unsplit p t c.args.factor buckets
    (λ runs. absurd (omega (arith, subst RunsSplit (ap (λ v. v.state) c.requires.fresh) runs)))
    e.slice c.requires.factor c.ranges.factor.fits
    (λ page there. omega (arith, bucket-lt c.args.factor page, length-replicate {A = ℕ} buckets 0))
    (λ plain. absurd (cc (plain, c.requires.service.slotted))) (λ slotted. c.requires.service)
    ((ap (λ v. v.state) c.requires.fresh) ∙ sym e.state) (omega (arith, e.likes, none, added)) (omega (arith, e.likes))
    c.requires.few_pages c.requires.limits (omega (arith, phase))
    (subst (λ (w : StashView g.row.W.Denot). IsStash w) (sym e.stash)
    (record { some = c.requires.some; few = c.requires.few; within = omega arith }))

pub returns-in-Ok-clause-new : goal.returns-in-Ok-clause-new
returns-in-Ok-clause-new g c =
    let e = c.in-Ok.ensures in
    let n : ℕ = pages_of (g.P.Post.view c.args.post) in
    record {
      is = (invariant_of-result g c).station;
      at_board = refl;
      at_post = refl;
      stash = e.stash;
      slice = ap (λ (s : SplitSlice). by_page s n) e.slice ∙ by_page-no_slice c.args.factor buckets n;
      sliced = e.sliced;
      last = e.last;
    }
