use Rattle.std.proofs.Common.{◌<◌, ℕ, List, length, get_or, ap, sym, subst, ◌∙◌, arith}
use mathlib.Core.Option.{some}
use lib.ListN.{get_elem?}
use Rattle.own_table.specs.Table.{key_of}
use Rattle.like_core.specs.declared.opening.Opening.{Opening}
use Rattle.like_core.specs.declared.view.View.{View}
use Rattle.like_core.specs.views.Actions.{Reads}
use Rattle.like_core.proofs.views.Apart.{word_of-order}
use Rattle.like_board.specs.Known.{worker_view_of}
use Rattle.like_board.specs.Own.{own_opening, own_views, own_view}
use Rattle.like_board.proofs.Allowed.{reading}
use Rattle.like_board.proofs.Fresh.{present_count}
use Rattle.like_board.proofs.worker.Moves.{worker_opens}
use Rattle.like_board.proofs.own_board.worker_seat.OwnWorkerSeat.read.Goals as goal

pub load-requires : goal.load-requires
load-requires c =
    let seat = c.args.self.now in
    let t = c.args.board.now.table in
    let told = c.tell.ensures in
    let z = own_opening c.args.board.now in
    let opened = worker_opens z _ (own_views c.args.board.now) _ (own_view seat) told.holds c.requires.here in
    let marks = ap (λ (y : Opening). length y.marks) opened in
    let paged = told.holds.shows.opening.marks in
    let mine = c.requires.may.there in
    let below : c.args.page < length z.counts = omega (arith, marks, paged, mine) in
    let word = c.word_of-word.ensures in
    let before = word_of-order c.args.page (length z.counts) below in
    let sized = c.args.board.now.sized in
    let same = ap (λ (l : List ℕ). length l) told.words in
    record {
      here = ap (λ (l : List View). get_elem? l seat.access.id) told.views ∙ c.requires.here
          ∙ ap (λ m. some m.0) (sym seat.is_worker);
      there = omega (arith, word, before, sized, same);
      allowed = reading (key_of c.tell.new.self) _ _ _ c.args.page _ word seat.is_worker c.requires.may;
    }

pub returns-clause-present : goal.returns-clause-present
returns-clause-present c lead first =
    let seat = c.args.self.now in
    let told = c.tell.ensures in
    let z = own_opening c.args.board.now in
    let opened = worker_opens z _ (own_views c.args.board.now) _ (own_view seat) told.holds c.requires.here in
    let marks = ap (λ (y : Opening). length y.marks) opened in
    let paged = told.holds.shows.opening.marks in
    let mine = c.requires.may.there in
    c.load.ensures.found ∙ (λ m. get_or (told.words m) (c.word_of-word.ensures m) 0)
    ∙ present_count z _ (own_views c.args.board.now) c.args.page told.holds (omega (arith, marks, paged, mine))
    lead first

pub returns-clause-event : goal.returns-clause-event
returns-clause-event c =
    let told = c.load.ensures.told.0 c.args.page c.word_of-word.ensures in
    subst (Reads (own_view c.args.self.now) c.args.page c.load.result)
    (sym (ap worker_view_of told.view)) told.step
