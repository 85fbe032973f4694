use Rattle.std.proofs.Common.{ap, sym, ◌∙◌, arith}
use mathlib.Core.Option.{some-injective}
use lib.ListN.{get_elem?}
use Rattle.like_core.specs.declared.view.View.TheVariants.{Worker}
use Rattle.like_board.specs.Own.{own_place, own_view, own_views}
use Rattle.like_board.proofs.Lending.{inside}
use Rattle.like_board.proofs.own_board.lent_post.LentPost.lend.Goals as goal

pub seat-before-requires : goal.seat-before-requires
seat-before-requires c =
    let seat = c.args.seat.now in
    let there = inside (own_views c.args.board.now) (own_place seat) (Worker (own_view seat)) c.requires in
    let is = seat.placed in
    omega (arith, there, is)

pub returns-clause-before : goal.returns-clause-before
returns-clause-before c =
    let seat = c.args.seat.now in
    let views = own_views c.args.board.now in
    some-injective c.seat-before.result.me.0 (Worker (own_view seat))
    (sym c.seat-before.ensures.view ∙ ap (get_elem? views) (sym seat.placed) ∙ c.requires)
