use Rattle.std.proofs.Common.{◌<◌, ℕ, List, false, length, replicate, ap, refl, sym, subst, ◌∙◌, arith}
use Rattle.like_core.specs.Post.{IsFresh, fresh}
use Rattle.like_core.specs.declared.view.WorkerSeatView.{WorkerSeatView}
use Rattle.like_board.specs.Seats.{board_id, board_numbers, post_board, post_view}
use Rattle.like_tables.specs.Share.{share_of}
use Rattle.like_tables.specs.UserTable.{UserTable, table_with_lasts}
use Rattle.like_live.specs.LiveView.{HasLastsWithin, IsNewLive}
use Rattle.like_live.specs.Opening.{board_opening}
use Rattle.like_live.proofs.LastPages.{opened-within}
use Rattle.like_live.proofs.service.parts.new_seat.Goals as goal

pub at_shared-post-requires : goal.at_shared-post-requires
at_shared-post-requires c = c.requires.here ∙ ap board_id (sym c.in_ok-board.ensures.here)

pub new-requires-clause-marks : goal.new-requires-clause-marks
new-requires-clause-marks c =
    let many = c.len-pages.ensures ∙ c.args.opening.now.counts.ok.0 in
    ap (λ (p : WorkerSeatView). p.opening.marks) (c.at_shared-post.ensures.view ∙ c.requires.view) ∙ ap (λ n. replicate n false) (sym many)

pub new-requires-clause-factor : goal.new-requires-clause-factor
new-requires-clause-factor c =
    ap (λ (p : WorkerSeatView). p.opening.factor) (c.at_shared-post.ensures.view ∙ c.requires.view)

pub new-requires-clause-few_pages : goal.new-requires-clause-few_pages
new-requires-clause-few_pages c =
    omega (arith, c.len-pages.ensures, c.args.opening.now.counts.ok.0, c.requires.within.0.1)

pub new-requires-clause-fresh : goal.new-requires-clause-fresh
new-requires-clause-fresh c = subst IsFresh (sym (c.at_shared-post.ensures.view ∙ c.requires.view)) refl

pub new-requires-clause-limits : goal.new-requires-clause-limits
new-requires-clause-limits c =
    ap (λ (p : WorkerSeatView). p.opening.limits) (c.at_shared-post.ensures.view ∙ c.requires.view)

pub new-requires-clause-there : goal.new-requires-clause-there
new-requires-clause-there c =
    subst (λ (t : UserTable). t.share.worker < t.share.workers) (sym c.in_ok-board.ensures.users) c.requires.there

pub new-requires-clause-lasts : goal.new-requires-clause-lasts
new-requires-clause-lasts c =
    let o = c.args.opening.now in
    subst (λ (t : UserTable). HasLastsWithin c.len-pages.result t) (sym c.in_ok-board.ensures.users)
    (subst (λ n. HasLastsWithin n (table_with_lasts (share_of o.users o.seats o.seats c.args.number) o.lasts.items))
    (sym (c.len-pages.ensures ∙ c.args.opening.now.counts.ok.0))
    (opened-within (length o.counts.items) o.users (share_of o.users o.seats o.seats c.args.number) o.lasts.items c.requires.within.1.1.1.1.1.0))

pub returns-in-Ok : goal.returns-in-Ok
returns-in-Ok c =
    let o = c.args.opening.now in
    let at : List ℕ = board_numbers (post_board c.at_shared-post.result) in
    let table : UserTable = table_with_lasts (share_of o.users o.seats o.seats c.args.number) o.lasts.items in
    subst (λ (b : List ℕ). IsNewLive b (fresh (board_opening o c.args.factor) c.args.number) o.room table c.in-Ok.seat)
    (ap board_numbers (c.at_shared-post.ensures.board ∙ c.requires.here))
    (subst (λ (p : WorkerSeatView). IsNewLive at p o.room table c.in-Ok.seat)
    (c.at_shared-post.ensures.view ∙ c.requires.view)
    (subst (λ (t : UserTable). IsNewLive at (post_view c.at_shared-post.result) o.room t c.in-Ok.seat)
    c.in_ok-board.ensures.users c.in-Ok.ensures.new))
