use Rattle.std.proofs.Common.{◌≡◌, ◌+◌, ℕ, suc, List, length, ap, subst, sym, refl, ◌∙◌, arith}
use mathlib.Core.Option.{some}
use lib.ListN.{get_elem?}
use Rattle.own_table.specs.Table.{views_of}
use Rattle.like_core.specs.declared.view.View.{View}
use Rattle.like_core.specs.declared.view.View.TheVariants.{Worker}
use Rattle.like_core.specs.Post.{fresh}
use Rattle.like_board.specs.declared.key.Key.{Key}
use Rattle.like_board.specs.Rule.{opening_of}
use Rattle.like_board.proofs.AllSeats.{shows_made, worker_is, workers_long}
use Rattle.like_board.proofs.Opens.{AreFirst, opens_key}
use Rattle.like_board.proofs.own_board.OwnBoard.by_key.Goals as goal

pub first_words-requires : goal.first_words-requires
first_words-requires c =
    let few = c.requires.opening.few_pages in
    let low = c.requires.opening.limits.pages in
    let long = ap length c.requires.counts in
    omega arith

pub open-requires : goal.open-requires
open-requires c =
    let made = c.in_ok-words.ensures in
    let items = c.in_ok-words.words.items in
    let first : AreFirst items c.first-first.result c.args.key.pages.counts =
    subst (λ (counts : List ℕ). AreFirst items c.first-first.result counts) (sym c.requires.counts) (record {
      width = made.len;
      phase = made.phase_word;
      pages = made.counts;
      mask = made.mask_word;
      slots = made.slots;
    }) in
    shows_made c.args.key items c.args.key.workers (omega arith)
    (opens_key c.args.key c.first-first.result items items c.first-first.ensures refl first c.requires.opening)

pub own_seats-requires-clause-all : goal.own_seats-requires-clause-all
own_seats-requires-clause-all c =
    let z = opening_of c.args.key in
    let long = ap (λ (l : List View). length l) c.open.ensures.views in
    let workers = workers_long z z.workers in
    omega (arith, long, workers)

pub own_seats-requires-clause-new : goal.own_seats-requires-clause-new
own_seats-requires-clause-new c i below =
    let z = opening_of c.args.key in
    let next : i + 1 ≡ suc i = omega arith in
    ap (get_elem? (views_of c.open.result)) next
    ∙ ap (λ (l : List View). get_elem? l (suc i)) c.open.ensures.views
    ∙ worker_is z z.workers i below
    ∙ ap (λ (k : Key). some (Worker (fresh (opening_of k) i))) (sym c.open.ensures.key)
