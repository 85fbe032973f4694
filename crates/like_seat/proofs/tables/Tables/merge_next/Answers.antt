use Rattle.std.proofs.Common.{◌≡◌, ℕ, set, refl, sym, ap, subst, ◌∙◌, get_or}
use Rattle.like_core.specs.Post.{added, number_of, pages_of}
use Rattle.like_core.specs.declared.view.WorkerSeatView.{WorkerSeatView}
use Rattle.like_tables.specs.SplitSlice.{SplitSlice, by_page}
use Rattle.like_tables.proofs.ByPage.{by_page-with_likes, get_or-by_page}
use Rattle.like_seat.specs.Kept.{IsKept, view_of}
use Rattle.like_seat.proofs.Keeping.{IsNext-sliced, NoneFrom-sliced}
use Rattle.like_seat.proofs.Merging.{IsKept-merged, may-merge}
use Rattle.like_seat.proofs.tables.Tables.merge_next.Goals as goal

pub returns-in_default-clause-merges : goal.returns-in_default-clause-merges
returns-in_default-clause-merges g c =
    let p = g.P.Post.view c.args.post.now in
    let k = c.requires.kept in
    (NoneFrom-sliced p c.args.self.now.slice p.opening.factor c.args.from k.factor k.splits c.in_default.ensures.none, refl)

pub add-old-requires : goal.add-old-requires
add-old-requires g c =
    let next = c.in-Some.ensures.next in
    may-merge (g.P.Post.view c.args.post.now) c.args.self.now c.in-Some.page c.take-likes.result c.take-likes.new.self
    c.requires.kept next.split next.liked c.take-likes.ensures.taken c.take-likes.ensures.total c.requires.ending

pub returns-clause-kept : goal.returns-clause-kept
returns-clause-kept g c =
    let t = c.args.self.now in
    let taken = c.take-likes.ensures in
    subst (λ (p : WorkerSeatView). IsKept p (record t { slice = c.take-likes.new.self })) (sym c.add-old.ensures.view)
    (IsKept-merged (g.P.Post.view c.args.post.now) t c.in-Some.page c.add-old.result c.take-likes.result
    (number_of (g.P.Post.view c.add-old.new.self)) c.take-likes.new.self c.requires.kept c.in-Some.ensures.next.split taken.taken taken.emptied taken.total taken.slice)

pub returns-clause-merges : goal.returns-clause-merges
returns-clause-merges g c =
    let p = g.P.Post.view c.args.post.now in
    let t = c.args.self.now in
    let k = c.requires.kept in
    let n : ℕ = pages_of p in
    let page : ℕ = c.in-Some.page in
    let old : ℕ = c.add-old.result in
    let next = c.in-Some.ensures.next in
    let there = ((k.splits page).0 next.split).1 in
    let likes : c.take-likes.result ≡ get_or (by_page t.slice n) page 0 =
    c.take-likes.ensures.taken ∙ sym (get_or-by_page t.slice n page 0 there) in
    let number : ℕ = number_of (g.P.Post.view c.add-old.new.self) in
    let posts : g.P.Post.view c.add-old.new.self ≡ added p page old (get_or (by_page t.slice n) page 0) number =
    c.add-old.ensures.view ∙ ap (λ (k : ℕ). added p page old k number) likes in
    let is_split_at : by_page c.take-likes.new.self (pages_of (g.P.Post.view c.add-old.new.self))
    ≡ set (by_page t.slice n) page 0 =
    ap (λ (q : WorkerSeatView). by_page c.take-likes.new.self (pages_of q)) c.add-old.ensures.view
    ∙ ap (λ (s : SplitSlice). by_page s n) c.take-likes.ensures.emptied
    ∙ by_page-with_likes t.slice n page 0 k.slice next.split there in
    record {
      next = IsNext-sliced p t.slice p.opening.factor c.args.from page k.slice k.factor k.splits next;
      likes = likes;
      merged = λ i. record (view_of (g.P.Post.board c.args.post.now) p t) {
        board = c.add-old.ensures.board i;
        post = posts i;
        slice = is_split_at i;
      };
    }
