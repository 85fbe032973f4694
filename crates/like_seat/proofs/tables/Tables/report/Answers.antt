use Rattle.std.proofs.Common.{◌≡◌, ℕ, length, sym, ap, subst, ◌∙◌}
use Rattle.like_core.specs.declared.worker_state.WorkerState.TheVariants.{Answered}
use Rattle.like_core.specs.Post.{pages_of}
use Rattle.like_core.specs.declared.view.WorkerSeatView.{WorkerSeatView}
use Rattle.like_tables.specs.SplitSlice.{SplitSlice, by_page, no_slice}
use Rattle.like_tables.proofs.ByPage.{by_page-none}
use Rattle.like_seat.specs.Kept.{IsKept, view_of}
use Rattle.like_seat.proofs.Keeping.{by_page-no_slice, likes_in-unliked}
use Rattle.like_seat.proofs.Merging.{IsKept-reported}
use Rattle.like_seat.proofs.tables.Tables.report.Goals as goal

pub clear-requires : goal.clear-requires
clear-requires g c =
    likes_in-unliked (g.P.Post.view c.args.post.now) c.args.self.now.slice c.requires.kept.splits c.requires.merged

pub returns-clause-kept : goal.returns-clause-kept
returns-clause-kept g c =
    let p = g.P.Post.view c.args.post.now in
    let t = c.args.self.now in
    let kept = IsKept-reported p t c.phase.result c.requires.kept
    (likes_in-unliked p t.slice c.requires.kept.splits c.requires.merged) c.phase.ensures in
    subst (λ (s : SplitSlice). IsKept (g.P.Post.view c.report.new.self)
    (record t { state = Answered c.phase.result; slice = s })) (sym c.clear.ensures)
    (subst (λ (q : WorkerSeatView). IsKept q
    (record t { state = Answered c.phase.result; slice = no_slice t.slice.splits.factor (length t.slice.counts) }))
    (sym c.report.ensures.view) kept)

pub returns-clause-stops : goal.returns-clause-stops
returns-clause-stops g c =
    let p = g.P.Post.view c.args.post.now in
    let t = c.args.self.now in
    let n : ℕ = pages_of p in
    let slice : by_page c.clear.new.self (pages_of (g.P.Post.view c.report.new.self)) ≡ by_page t.slice n =
    ap (λ (q : WorkerSeatView). by_page c.clear.new.self (pages_of q)) c.report.ensures.view
    ∙ ap (λ (s : SplitSlice). by_page s n) c.clear.ensures
    ∙ by_page-no_slice t.slice.splits.factor (length t.slice.counts) n
    ∙ sym (by_page-none t.slice n (likes_in-unliked p t.slice c.requires.kept.splits c.requires.merged)) in
    λ m. record (view_of (g.P.Post.board c.args.post.now) p t) {
      board = c.report.ensures.board m;
      post = c.report.ensures.view m;
      slice = slice m;
    }
