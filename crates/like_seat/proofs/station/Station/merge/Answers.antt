use Rattle.std.proofs.Common.{◌≡◌, ℕ, ◌+◌, List, ◌∷◌, ◌++◌, [], length, get_or, refl, subst, ap, sym, ◌∙◌, arith}
use Rattle.like_core.specs.declared.view.Addition.{Addition}
use Rattle.like_core.specs.Post.{number_of, pages_of}
use Rattle.like_limits.specs.Buckets.{bucket}
use Rattle.like_tables.proofs.Tagged.{bucket-lt}
use Rattle.like_seat.specs.StationView.{IsStation, StationView, likes_of}
use Rattle.like_seat.specs.Steps.{IsNext, MergesNext, NoneFrom}
use Rattle.like_seat.proofs.MergedLikes.{IsMerged-tally, merged_page-likes, same_everywhere}
use Rattle.like_seat.proofs.WholeMerge.{Merging, Merging-done, Merging-next, Merging-start, merge_of}
use Rattle.like_seat.proofs.station.Station.merge.Goals as goal

pub loop-merged-init : goal.loop-merged-init
loop-merged-init g c = record {
  within = omega arith;
  likes = refl;
  merging = ([], Merging-start c.args.self.now.post.opening.factor c.args.self.now);
}

pub loop-merged-preserved : goal.loop-merged-preserved
loop-merged-preserved g c =
    let f : ℕ = c.args.self.now.post.opening.factor in
    let s0 = c.args.self.now in
    let s = c.loop-merged.self in
    let t = c.merge_next.new.self in
    let i = c.loop-merged.invariant in
    let adds = i.merging.0 in
    let m = c.in-Some.merged in
    let merges = subst (λ r. MergesNext s c.loop-merged.from r t) c.in-Some.is c.merge_next.ensures.merges in
    let was : s.post.opening.factor ≡ f = ap (λ (x : StationView g.row.W.Denot). x.post.opening.factor) i.merging.1.rest in
    let still : t.post.opening.factor ≡ f = ap (λ (x : StationView g.row.W.Denot). x.post.opening.factor) merges.merged ∙ was in
    let next = subst (λ (x : ℕ). IsNext x s.slice c.loop-merged.from m.page) was merges.next in
    let from : c.bucket-from.result ≡ bucket f m.page = c.bucket-from.ensures ∙ ap (λ (x : ℕ). bucket x m.page) still in
    let now : List Addition = adds ++ merge_of s m.page m.old ∷ [] in
    record {
      within = omega (arith, from, bucket-lt f m.page);
      likes = ap (λ (x : StationView g.row.W.Denot). likes_of x) merges.merged
          ∙ merged_page-likes s m.page m.old (number_of t.post) merges.next.there ∙ i.likes;
      merging = (
        now,
        subst (λ (n : ℕ). Merging f s0 t (n + 1) now) (sym from)
            (Merging-next f s0 s c.loop-merged.from m.page m.old (number_of t.post) adds i.merging.1 next t merges.merged),
      );
    }

-- the slice had a number for each page
sized : {W : Type 0} (f : ℕ) (s0 s t : StationView W) (n : ℕ) (adds : List Addition)
    → Merging f s0 s n adds
    → t ≡ s
    → IsStation t
    → length s0.slice ≡ pages_of s0.post
sized {W} f s0 s t n adds m is station =
    sym m.sized ∙ sym (ap (λ (x : StationView W). length x.slice) is) ∙ station.sized
    ∙ ap (λ (x : StationView W). pages_of x.post) (is ∙ m.rest)

pub returns-clause-merges : goal.returns-clause-merges
returns-clause-merges g c =
    let f : ℕ = c.args.self.now.post.opening.factor in
    let s0 = c.args.self.now in
    let l = c.loop-merged in
    let t = c.merge_next.new.self in
    let adds = l.invariant.merging.0 in
    let m = l.invariant.merging.1 in
    let done = subst (λ r. MergesNext l.self l.from r t) c.in_default.is c.merge_next.ensures.merges in
    let pages = sized f s0 l.self t l.from adds m done.1 c.merge_next.ensures.station in
    let none = subst (λ (x : ℕ). NoneFrom x l.self.slice l.from)
    (ap (λ (x : StationView g.row.W.Denot). x.post.opening.factor) m.rest) done.0 in
    (adds, Merging-done f s0 l.self t l.from adds m none done.1 pages)

pub returns-clause-empty : goal.returns-clause-empty
returns-clause-empty g c page low high =
    ap (λ (x : StationView g.row.W.Denot). get_or x.slice page 0) (returns-clause-merges g c).1.1
    ∙ same_everywhere (pages_of c.args.self.now.post) page 0

pub returns-clause-tallies : goal.returns-clause-tallies
returns-clause-tallies g c page =
    IsMerged-tally c.args.self.now c.merge_next.new.self (returns-clause-merges g c) page
