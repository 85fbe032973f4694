use Rattle.std.proofs.Common.{◌<◌, ℕ, List, length, get_or, ap, rules, sym, subst, ◌∙◌, arith}
use mathlib.Core.Option.{some}
use lib.ListN.{get_elem?}
use Rattle.own_table.specs.Table.{key_of}
use Rattle.like_core.specs.declared.opening.Opening.{Opening}
use Rattle.like_core.specs.declared.view.View.{View}
use Rattle.like_core.specs.views.Actions.{Counts}
use Rattle.like_core.proofs.views.Apart.{word_of-order}
use Rattle.like_board.specs.Known.{coord_view_of}
use Rattle.like_board.specs.Own.{own_opening, own_views, own_coord}
use Rattle.like_board.proofs.Allowed.{counting}
use Rattle.like_board.proofs.Fresh.{present_count}
use Rattle.like_board.proofs.worker.Moves.{coord_opens}
use Rattle.like_board.proofs.own_board.coord_seat.OwnCoordSeat.count.Goals as goal

pub load-requires : goal.load-requires
load-requires c =
    let seat = c.args.self.now in
    let told = c.tell.ensures in
    let z = own_opening c.args.board.now in
    let opened = coord_opens z _ (own_views c.args.board.now) 0 (own_coord seat) told.holds c.requires.here in
    let counts = ap (λ (y : Opening). length y.counts) opened in
    let mine = c.requires.may.2 in
    let below : c.args.page < length z.counts = omega (arith, counts, mine) in
    let word = c.word_of-word.ensures in
    let before = word_of-order c.args.page (length z.counts) below in
    let sized = c.args.board.now.sized in
    let same = ap (λ (l : List ℕ). length l) told.words in
    record {
      here = ap (λ (l : List View). get_elem? l seat.access.id) told.views
          ∙ ap (get_elem? (own_views c.args.board.now)) seat.first ∙ c.requires.here
          ∙ ap (λ m. some m.0) (sym seat.is_coord);
      there = omega (arith, word, before, sized, same);
      allowed = counting (key_of c.tell.new.self) _ _ _ c.args.page _ word seat.is_coord c.requires.may;
    }

pub returns-clause-present : goal.returns-clause-present
returns-clause-present c lead first =
    let seat = c.args.self.now in
    let told = c.tell.ensures in
    let z = own_opening c.args.board.now in
    let opened = coord_opens z _ (own_views c.args.board.now) 0 (own_coord seat) told.holds c.requires.here in
    let counts = ap (λ (y : Opening). length y.counts) opened in
    let mine = c.requires.may.2 in
    c.load.ensures.found ∙ (λ m. get_or (told.words m) (c.word_of-word.ensures m) 0)
    ∙ present_count z _ (own_views c.args.board.now) c.args.page told.holds (omega (arith, counts, mine)) lead first

pub invariant_of-self : goal.invariant_of-self
invariant_of-self c = let told = c.load.ensures.told.0 c.args.page c.word_of-word.ensures in search (rules, told)

pub returns-clause-view : goal.returns-clause-view
returns-clause-view c = ap coord_view_of (c.load.ensures.told.0 c.args.page c.word_of-word.ensures).view

pub returns-clause-event : goal.returns-clause-event
returns-clause-event c =
    subst (Counts (own_coord c.args.self.now) c.args.page c.load.result) (sym (returns-clause-view c))
    (c.load.ensures.told.0 c.args.page c.word_of-word.ensures).step
