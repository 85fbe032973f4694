use Rattle.std.proofs.Common.{◌≡◌, ◌≤◌, ◌∙◌, ℕ, List, Vec, Global, Bool, length, map, sym, ap, subst, refl}
use Rattle.std.specs.List.{All}
use Rattle.std.proofs.lemmas.List.{length-map}
use Rattle.like_requests.proofs.Planned.{plans-within}
use Rattle.like_requests.specs.Pages.{Page}
use Rattle.like_requests.specs.declared.request.Request.{Request}
use Rattle.like_limits.specs.Limits.{max_count, max_pages, max_requests}
use Rattle.like_core.specs.core.State.{opening}
use Rattle.like_board.specs.Rule.{opened_coord}
use Rattle.like_board.specs.Seats.{board_id}
use Rattle.like_roles.proofs.Seats.{new_seats}
use Rattle.like_crew.proofs.Makings.{all-back, all-map, map-twice}
use Rattle.like_crew.proofs.site.Site.new.Goals as goal

abbrev requests_of : Vec Request Global → List Request
requests_of plan = plan.items

pub sizes_of-requires : goal.sizes_of-requires
sizes_of-requires c =
    all-back requests_of (λ plan. length plan ≤ max_requests) c.args.plans.now
    (λ k d h. (plans-within c.args.setup.now (map requests_of c.args.plans.now) c.requires k d h).few)

pub new-requires-clause-counts : goal.new-requires-clause-counts
new-requires-clause-counts c =
    subst (λ (xs : List ℕ). All (λ n. n ≤ max_count) xs) (sym (c.deref.ensures.value ∙ c.in_ok-counts.ensures.counts))
    (all-map (λ (p : Page). p.count) (λ n. n ≤ max_count) c.args.setup.now.pages c.counts.ensures.pages.entries.counted)

pub returns-clause-site : goal.returns-clause-site
returns-clause-site c = record {
  sizes = c.in_ok-sizes.ensures ∙ map-twice requests_of length c.args.plans.now;
  counts = c.in_ok-counts.ensures.counts;
}

pub returns-clause-seats : goal.returns-clause-seats
returns-clause-seats c =
    let counts : c.deref.result.now ≡ map (λ (p : Page). p.count) c.args.setup.now.pages =
    c.deref.ensures.value ∙ c.in_ok-counts.ensures.counts in
    let marks : c.deref-2.result.now ≡ map (λ (p : Page). p.split) c.args.setup.now.pages =
    c.deref-2.ensures.value ∙ c.in_ok-marks.ensures.marks in
    record {
      board = c.in_ok-board.ensures.coord_here;
      coord = c.in_ok-board.ensures.coord
          ∙ ap (λ (xs : List ℕ). opened_coord (opening c.args.setup.now.workers xs c.deref-2.result.now)) counts
          ∙ ap (λ (xs : List Bool). opened_coord (opening c.args.setup.now.workers
          (map (λ (p : Page). p.count) c.args.setup.now.pages) xs)) marks;
      workers = c.in_ok-board.ensures.seats;
      new = new_seats (board_id c.in_ok-board.board)
          (opening c.args.setup.now.workers c.deref.result.now c.deref-2.result.now) c.args.setup.now.pages
          c.in_ok-board.workers.items marks refl refl
          c.in_ok-board.ensures.views;
    }

pub new-requires-clause-same_pages : goal.new-requires-clause-same_pages
new-requires-clause-same_pages c =
    let pages = c.args.setup.now.pages in
    ap length (c.deref-2.ensures.value ∙ c.in_ok-marks.ensures.marks) ∙ length-map pages (λ (p : Page). p.split)
    ∙ sym (ap length (c.deref.ensures.value ∙ c.in_ok-counts.ensures.counts) ∙ length-map pages (λ (p : Page). p.count))

pub new-requires-clause-few_pages : goal.new-requires-clause-few_pages
new-requires-clause-few_pages c =
    subst (λ n. n ≤ max_pages)
    (sym (ap length (c.deref.ensures.value ∙ c.in_ok-counts.ensures.counts)
    ∙ length-map c.args.setup.now.pages (λ (p : Page). p.count))) c.counts.ensures.pages.entries.few

pub new-requires-clause-some_worker : goal.new-requires-clause-some_worker
new-requires-clause-some_worker c = c.requires.0.0

pub new-requires-clause-few_workers : goal.new-requires-clause-few_workers
new-requires-clause-few_workers c = c.requires.0.1
