use Rattle.std.proofs.Common.{◌≡◌, ◌∙◌, ℕ, false, IfOk, List, [], length, replicate, subst, sym, arith}
use Rattle.std.proofs.lemmas.List.{length-replicate}
use Rattle.like_core.specs.declared.limits.Limits.{Limits}
use Rattle.like_core.specs.declared.opening.Opening.{Opening}
use Rattle.like_core.specs.core.State.{opening_by}
use Rattle.like_core.specs.views.Shows.{IsOpening}
use Rattle.like_board.specs.declared.first_pages.FirstPages.{FirstPages}
use Rattle.like_board.specs.declared.key.Key.{Key}
use Rattle.like_board.specs.Marks.{marks_of}
use Rattle.like_board.specs.Rule.{opened_coord, opening_of}
use Rattle.like_board.specs.Seats.{board_id, coord_view, AreFresh}
use Rattle.like_board.proofs.Opens.{marks_none, opening_told}
use Rattle.like_board.proofs.board.Board.for_service.Goals as goal

-- the key
abbrev key : FirstPages → Limits → ℕ → ℕ → Key
key pages limits workers factor = record { workers = workers; pages = pages; limits = limits; factor = factor }

-- the opening that it tells
told_opening : (pages : FirstPages) (limits : Limits) (workers factor : ℕ) (counts : List ℕ)
    → pages.counts ≡ counts
    → pages.marks ≡ marks_of (length counts) []
    → opening_of (key pages limits workers factor) ≡ opening_by factor limits workers counts
told_opening pages limits workers factor counts counts_are marks_are =
    opening_told (key pages limits workers factor) counts (replicate (length counts) false) counts_are
    (marks_are ∙ marks_none (length counts))

pub by_key-requires : goal.by_key-requires
by_key-requires c =
    let told = c.of.ensures in
    let same =
    told_opening c.of.result c.args.limits c.args.workers c.args.factor c.args.counts.now told.counts told.marks in
    record {
      counts = told.counts;
      opening = subst IsOpening (sym same) (record {
        some_worker = c.requires.some_worker;
        few_workers = c.requires.few_workers;
        few_pages = c.requires.few_pages;
        marks = length-replicate (length c.args.counts.now) false;
        counts = c.requires.counts;
        limits = c.requires.limits;
        factor = omega (arith, c.ranges.factor.fits);
      });
    }

pub returns-clause-coord : goal.returns-clause-coord
returns-clause-coord c =
    let told = c.of.ensures in
    subst (λ (z : Opening). IfOk c.by_key.result (λ r. coord_view r.1 ≡ opened_coord z))
    (told_opening c.of.result c.args.limits c.args.workers c.args.factor c.args.counts.now told.counts told.marks)
    c.by_key.ensures.coord

pub returns-clause-views : goal.returns-clause-views
returns-clause-views c =
    let told = c.of.ensures in
    subst (λ (z : Opening). IfOk c.by_key.result (λ r. AreFresh (board_id r.0) z r.2.items))
    (told_opening c.of.result c.args.limits c.args.workers c.args.factor c.args.counts.now told.counts told.marks)
    c.by_key.ensures.views
