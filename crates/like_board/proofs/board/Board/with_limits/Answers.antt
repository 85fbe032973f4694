use Rattle.std.proofs.Common.{◌≡◌, ◌∙◌, ℕ, IfOk, List, Bool, length, subst, sym, arith}
use Rattle.like_limits.specs.Buckets.{run_factor}
use Rattle.like_core.specs.declared.limits.Limits.{Limits}
use Rattle.like_core.specs.declared.opening.Opening.{Opening}
use Rattle.like_core.specs.core.State.{opening_with}
use Rattle.like_core.specs.views.Shows.{IsOpening}
use Rattle.like_board.specs.declared.first_pages.FirstPages.{FirstPages}
use Rattle.like_board.specs.declared.key.Key.{Key}
use Rattle.like_board.specs.Marks.{marks_of}
use Rattle.like_board.specs.Rule.{opened_coord, opening_of}
use Rattle.like_board.specs.Seats.{board_id, coord_view, AreFresh}
use Rattle.like_board.proofs.Opens.{marks_whole, opening_told}
use Rattle.like_board.proofs.board.Board.with_limits.Goals as goal

-- the key
abbrev key : FirstPages → Limits → ℕ → Key
key pages limits workers = record { workers = workers; pages = pages; limits = limits; factor = run_factor }

-- the opening that it tells
told_opening : (pages : FirstPages) (limits : Limits) (workers : ℕ) (counts : List ℕ) (marks : List Bool)
    → pages.counts ≡ counts
    → pages.marks ≡ marks_of (length counts) marks
    → length marks ≡ length counts
    → opening_of (key pages limits workers) ≡ opening_with limits workers counts marks
told_opening pages limits workers counts marks counts_are marks_are long =
    opening_told (key pages limits workers) counts marks counts_are
    (marks_are ∙ marks_whole (length counts) marks long)

pub by_key-requires : goal.by_key-requires
by_key-requires c =
    let told = c.of.ensures in
    let same =
    told_opening c.of.result c.args.limits c.args.workers c.args.counts.now c.args.split.now told.counts told.marks
    c.requires.same_pages in
    record {
      counts = told.counts;
      opening = subst IsOpening (sym same) (record {
        some_worker = c.requires.some_worker;
        few_workers = c.requires.few_workers;
        few_pages = c.requires.few_pages;
        marks = c.requires.same_pages;
        counts = c.requires.counts;
        limits = c.requires.limits;
        factor = omega arith;
      });
    }

pub returns-clause-coord : goal.returns-clause-coord
returns-clause-coord c =
    let told = c.of.ensures in
    subst (λ (z : Opening). IfOk c.by_key.result (λ r. coord_view r.1 ≡ opened_coord z))
    (told_opening c.of.result c.args.limits c.args.workers c.args.counts.now c.args.split.now told.counts told.marks
    c.requires.same_pages) c.by_key.ensures.coord

pub returns-clause-views : goal.returns-clause-views
returns-clause-views c =
    let told = c.of.ensures in
    subst (λ (z : Opening). IfOk c.by_key.result (λ r. AreFresh (board_id r.0) z r.2.items))
    (told_opening c.of.result c.args.limits c.args.workers c.args.counts.now c.args.split.now told.counts told.marks
    c.requires.same_pages) c.by_key.ensures.views
