use Rattle.std.proofs.Common.{◌≡◌, [], refl, sym, ap, subst, ◌∙◌}
use lib.ListN.{get_elem?}
use Rattle.like_core.specs.declared.view.View.TheVariants.{Worker}
use Rattle.like_board.specs.Lent.{lent_board}
use Rattle.like_board.specs.Own.{Knows, own_place, own_view, own_views}
use Rattle.like_board.proofs.LentPosts.{CameBack, comes_back}
use Rattle.like_crew.specs.Fresh.{IsModelled}
use Rattle.like_crew.specs.OwnServer.{OwnServerView}
use Rattle.like_crew.specs.Server.{ServerGoesOn}
use Rattle.like_crew.specs.ServerTurns.{ServerTurns, TakesOpen}
use Rattle.like_crew.specs.Serving.{server_at}
use Rattle.like_crew.proofs.servers.Boards.{at-board}
use Rattle.like_crew.proofs.servers.Owned.{given-back, lent-fresh}
use Rattle.like_crew.proofs.crew.server.own_server.OwnServer.turn.Goals as goal

pub returns : goal.returns
returns g c =
    let view = g.I.Inbox.view in
    let opened = g.I.Inbox.opened in
    let seat = c.self.inside.seat in
    let lend = c.lend-post.ensures in
    let p = c.turn.new.post in
    let before = own_view c.lend-post.result.seat.now in
    let after = own_view p.seat.now in
    let was : server_at view opened [] before c.self.inside.serving ≡ c.args.self.now.server =
    (λ m. server_at view opened [] (own_view (lend.seat m)) c.self.inside.serving)
    ∙ ap (λ (s : OwnServerView). s.server) c.self.view_is in
    let told = c.turn.ensures in
    let case = at-board view opened (ServerTurns c.turn.result) [] [] before after c.self.inside.serving c.turn.new.self _
    was refl told.case in
    let lent : lent_board (own_views p.board.now) (own_place p.seat.now) p.before.me.0
    ≡ lent_board (own_views c.args.board.now) (own_place seat) (Worker (own_view seat)) =
    cc told.board ∙ (λ m. lent_board (own_views (lend.board m)) (own_place (lend.seat m)) (lend.before m)) in
    let name : p.board.ghost_name ≡ c.lend-post.result.board.ghost_name = cc told.board in
    let came = given-back
    (λ board. CameBack (own_views c.args.board.now) c.args.self.now.place c.args.self.now.server.worker.post board p.seat.now)
    c.board-1.given (sym lend.board_name ∙ sym name)
    (subst
    (λ (s : OwnServerView). CameBack (own_views c.args.board.now) s.place s.server.worker.post p.board.now p.seat.now)
    c.self.view_is (comes_back p (own_views c.args.board.now) (own_place seat) (own_view seat)
    (subst (λ (s : OwnServerView). Knows c.args.board.now s.place (Worker s.server.worker.post)) (sym c.self.view_is)
    c.requires) lent)) in
    record {
      case = case;
      modelled = at-board view opened IsModelled [] [] before after c.self.inside.serving c.turn.new.self _ was refl
          told.modelled;
      only_open = λ only. at-board view opened TakesOpen [] [] before after c.self.inside.serving c.turn.new.self _ was
          refl (told.only_open only);
      goes_on = at-board view opened ServerGoesOn [] [] before after c.self.inside.serving c.turn.new.self _ was refl
          told.goes_on;
      retired = told.retired;
      fresh = λ known is. lent-fresh c.turn.result (get_elem? (own_views c.args.board.now) 0) known
          c.args.self.now.server _ came.looked is case;
      looked = came.looked;
      found = came.found;
      place = came.place_is;
      views = came.views_are;
    }
