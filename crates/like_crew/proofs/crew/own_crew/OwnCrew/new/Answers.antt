use Rattle.std.proofs.Common.{◌≡◌, ◌≤◌, ◌∙◌, ℕ, Bool, List, [], length, map, sym, ap, subst}
use Rattle.std.specs.List.{All}
use Rattle.std.proofs.lemmas.List.{length-map}
use Rattle.like_limits.specs.Limits.{max_count, max_pages}
use Rattle.like_requests.specs.Pages.{Page}
use Rattle.like_requests.specs.Setup.{IsWithinLimits}
use Rattle.like_core.specs.core.State.{opening}
use Rattle.like_core.specs.declared.view.CoordSeatView.{CoordSeatView}
use Rattle.like_board.specs.Led.{no_board}
use Rattle.like_board.specs.NewViews.{new_views}
use Rattle.like_board.specs.Own.{own_opening}
use Rattle.like_board.specs.Rule.{opened_coord}
use Rattle.like_queue.specs.Inbox.{view_of}
use Rattle.like_promises.specs.Workload.{lists_of, workload_of}
use Rattle.like_roles.specs.coordinator.CoordTurns.{CoordinatorView, new_coordinator}
use Rattle.like_crew.specs.OwnCrew.{AreSeated, servers_of}
use Rattle.like_crew.specs.Servers.{AreNewServers, AreServers}
use Rattle.like_crew.specs.Site.{opening_of}
use Rattle.like_crew.proofs.Makings.{all-map, all-small, are-untouched, plans-are}
use Rattle.like_crew.proofs.crew.own_crew.OwnCrew.new.Goals as goal

pub new-requires-clause-counts : goal.new-requires-clause-counts
new-requires-clause-counts c =
    subst (λ (xs : List ℕ). All (λ n. n ≤ max_count) xs) (sym (c.deref.ensures.value ∙ c.in_ok-counts.ensures.counts))
    (all-map (λ (p : Page). p.count) (λ n. n ≤ max_count) c.args.setup.now.pages c.counts.ensures.pages.entries.counted)

pub new-requires-clause-same_pages : goal.new-requires-clause-same_pages
new-requires-clause-same_pages c =
    let pages = c.args.setup.now.pages in
    ap length (c.deref-2.ensures.value ∙ c.in_ok-marks.ensures.marks) ∙ length-map pages (λ (p : Page). p.split)
    ∙ sym (ap length (c.deref.ensures.value ∙ c.in_ok-counts.ensures.counts) ∙ length-map pages (λ (p : Page). p.count))

pub new-requires-clause-few_pages : goal.new-requires-clause-few_pages
new-requires-clause-few_pages c =
    subst (λ n. n ≤ max_pages)
    (sym (ap length (c.deref.ensures.value ∙ c.in_ok-counts.ensures.counts)
    ∙ length-map c.args.setup.now.pages (λ (p : Page). p.count))) c.counts.ensures.pages.entries.few

pub new-requires-clause-some_worker : goal.new-requires-clause-some_worker
new-requires-clause-some_worker c = c.requires.within.0.0

pub new-requires-clause-few_workers : goal.new-requires-clause-few_workers
new-requires-clause-few_workers c = c.requires.within.0.1

pub list_inboxes-requires : goal.list_inboxes-requires
list_inboxes-requires c = all-small c.args.setup.now c.args.plans.items c.requires.within

pub own_servers-requires-clause-within : goal.own_servers-requires-clause-within
own_servers-requires-clause-within c =
    let plans = plans-are (map view_of c.in_ok-inboxes.inboxes.items) (lists_of c.args.plans.items)
    c.in_ok-inboxes.ensures.untouched in
    subst (IsWithinLimits c.args.setup.now) (sym plans) c.requires.within

pub own_servers-requires-clause-untouched : goal.own_servers-requires-clause-untouched
own_servers-requires-clause-untouched c =
    are-untouched (map view_of c.in_ok-inboxes.inboxes.items) (lists_of c.args.plans.items) c.in_ok-inboxes.ensures.untouched

pub own_servers-requires-clause-sizes : goal.own_servers-requires-clause-sizes
own_servers-requires-clause-sizes c =
    let plans = plans-are (map view_of c.in_ok-inboxes.inboxes.items) (lists_of c.args.plans.items)
    c.in_ok-inboxes.ensures.untouched in
    c.requires.sizes ∙ ap (map length) (sym plans)

pub own_servers-requires-clause-closed : goal.own_servers-requires-clause-closed
own_servers-requires-clause-closed c = c.in_ok-inboxes.ensures.closed

pub own_servers-requires-clause-seats : goal.own_servers-requires-clause-seats
own_servers-requires-clause-seats c =
    let setup = c.args.setup.now in
    let counts : c.deref.result.now ≡ map (λ (p : Page). p.count) setup.pages =
    c.deref.ensures.value ∙ c.in_ok-counts.ensures.counts in
    let marks : c.deref-2.result.now ≡ map (λ (p : Page). p.split) setup.pages =
    c.deref-2.ensures.value ∙ c.in_ok-marks.ensures.marks in
    let opened : own_opening c.in_ok-board.board ≡ opening_of setup =
    c.in_ok-board.ensures.opening
    ∙ ap (λ (xs : List ℕ). opening setup.workers xs c.deref-2.result.now) counts
    ∙ ap (λ (xs : List Bool). opening setup.workers (map (λ (p : Page). p.count) setup.pages) xs) marks in
    (c.in_ok-board.board, opened, c.in_ok-board.ensures.fresh)

pub new-requires-2-clause-counts : goal.new-requires-2-clause-counts
new-requires-2-clause-counts c =
    let setup = c.args.setup.now in
    let counts : c.deref.result.now ≡ map (λ (p : Page). p.count) setup.pages =
    c.deref.ensures.value ∙ c.in_ok-counts.ensures.counts in
    let marks : c.deref-2.result.now ≡ map (λ (p : Page). p.split) setup.pages =
    c.deref-2.ensures.value ∙ c.in_ok-marks.ensures.marks in
    let opened : own_opening c.in_ok-board.board ≡ opening_of setup =
    c.in_ok-board.ensures.opening
    ∙ ap (λ (xs : List ℕ). opening setup.workers xs c.deref-2.result.now) counts
    ∙ ap (λ (xs : List Bool). opening setup.workers (map (λ (p : Page). p.count) setup.pages) xs) marks in
    c.deref-3.ensures.value ∙ c.in_ok-counts.ensures.counts
    ∙ sym (ap (λ (v : CoordSeatView). v.opening.counts) (c.in_ok-board.ensures.coord ∙ ap opened_coord opened))

pub new-requires-2-clause-limits : goal.new-requires-2-clause-limits
new-requires-2-clause-limits c =
    let setup = c.args.setup.now in
    let counts : c.deref.result.now ≡ map (λ (p : Page). p.count) setup.pages =
    c.deref.ensures.value ∙ c.in_ok-counts.ensures.counts in
    let marks : c.deref-2.result.now ≡ map (λ (p : Page). p.split) setup.pages =
    c.deref-2.ensures.value ∙ c.in_ok-marks.ensures.marks in
    let opened : own_opening c.in_ok-board.board ≡ opening_of setup =
    c.in_ok-board.ensures.opening
    ∙ ap (λ (xs : List ℕ). opening setup.workers xs c.deref-2.result.now) counts
    ∙ ap (λ (xs : List Bool). opening setup.workers (map (λ (p : Page). p.count) setup.pages) xs) marks in
    ap (λ (v : CoordSeatView). v.opening.limits) (c.in_ok-board.ensures.coord ∙ ap opened_coord opened)

pub invariant_of-result : goal.invariant_of-result
invariant_of-result c =
    let setup = c.args.setup.now in
    let counts : c.deref.result.now ≡ map (λ (p : Page). p.count) setup.pages =
    c.deref.ensures.value ∙ c.in_ok-counts.ensures.counts in
    let marks : c.deref-2.result.now ≡ map (λ (p : Page). p.split) setup.pages =
    c.deref-2.ensures.value ∙ c.in_ok-marks.ensures.marks in
    let opened : own_opening c.in_ok-board.board ≡ opening_of setup =
    c.in_ok-board.ensures.opening
    ∙ ap (λ (xs : List ℕ). opening setup.workers xs c.deref-2.result.now) counts
    ∙ ap (λ (xs : List Bool). opening setup.workers (map (λ (p : Page). p.count) setup.pages) xs) marks in
    let begun = c.in_ok-board.ensures.coord ∙ ap opened_coord opened in
    let seat : c.in-Ok.coordinator.seat ≡ opened_coord (opening_of setup) =
    ap (λ (v : CoordinatorView). v.seat) c.in-Ok.ensures.new ∙ begun in (
      subst (λ vs. AreSeated vs c.in-Ok.coordinator.seat c.in_ok-servers.servers.items)
          (sym (c.in_ok-board.ensures.views ∙ ap new_views opened))
          (subst (λ (v : CoordSeatView). AreSeated (new_views (opening_of setup)) v c.in_ok-servers.servers.items)
          (sym seat) c.in_ok-servers.ensures.seated),
      ap (λ (xs : List ℕ). length xs) c.in_ok-counts.ensures.counts
          ∙ sym (ap (λ (v : CoordSeatView). length v.opening.counts) seat),
      c.in-Ok.ensures.coordinating (record {
        phase = ap (λ (v : CoordSeatView). v.phase) begun;
        masks = ap (λ (v : CoordSeatView). v.masks) begun;
      }),
    )

pub returns-clause-crew : goal.returns-clause-crew
returns-clause-crew c =
    let setup = c.args.setup.now in
    let counts : c.deref.result.now ≡ map (λ (p : Page). p.count) setup.pages =
    c.deref.ensures.value ∙ c.in_ok-counts.ensures.counts in
    let marks : c.deref-2.result.now ≡ map (λ (p : Page). p.split) setup.pages =
    c.deref-2.ensures.value ∙ c.in_ok-marks.ensures.marks in
    let opened : own_opening c.in_ok-board.board ≡ opening_of setup =
    c.in_ok-board.ensures.opening
    ∙ ap (λ (xs : List ℕ). opening setup.workers xs c.deref-2.result.now) counts
    ∙ ap (λ (xs : List Bool). opening setup.workers (map (λ (p : Page). p.count) setup.pages) xs) marks in
    let seat : c.in-Ok.coordinator.seat ≡ opened_coord (opening_of setup) =
    ap (λ (v : CoordinatorView). v.seat) c.in-Ok.ensures.new ∙ c.in_ok-board.ensures.coord
    ∙ ap opened_coord opened in
    let plans = plans-are (map view_of c.in_ok-inboxes.inboxes.items) (lists_of c.args.plans.items)
    c.in_ok-inboxes.ensures.untouched in
    record {
      opening = ap (λ (v : CoordSeatView). v.opening) seat;
      turns = ap (λ (v : CoordinatorView). v.turns) c.in-Ok.ensures.new;
      hot = ap (λ (v : CoordinatorView). v.choice.hot) c.in-Ok.ensures.new;
      servers = subst (λ ps. AreServers (workload_of setup ps) setup.workers [] c.args.terms.notes
          (servers_of c.in_ok-servers.servers.items)) plans c.in_ok-servers.ensures.servers;
    }

pub returns-clause-new : goal.returns-clause-new
returns-clause-new c =
    let setup = c.args.setup.now in
    let counts : c.deref.result.now ≡ map (λ (p : Page). p.count) setup.pages =
    c.deref.ensures.value ∙ c.in_ok-counts.ensures.counts in
    let marks : c.deref-2.result.now ≡ map (λ (p : Page). p.split) setup.pages =
    c.deref-2.ensures.value ∙ c.in_ok-marks.ensures.marks in
    let opened : own_opening c.in_ok-board.board ≡ opening_of setup =
    c.in_ok-board.ensures.opening
    ∙ ap (λ (xs : List ℕ). opening setup.workers xs c.deref-2.result.now) counts
    ∙ ap (λ (xs : List Bool). opening setup.workers (map (λ (p : Page). p.count) setup.pages) xs) marks in
    let plans = plans-are (map view_of c.in_ok-inboxes.inboxes.items) (lists_of c.args.plans.items)
    c.in_ok-inboxes.ensures.untouched in
    record {
      board = no_board;
      terms = c.args.terms;
      sizes = c.requires.sizes;
      coordinator = c.in-Ok.ensures.new
          ∙ ap (λ (v : CoordSeatView). new_coordinator no_board v setup.turns setup.hot)
          (c.in_ok-board.ensures.coord ∙ ap opened_coord opened);
      servers = subst (λ ps. AreNewServers setup ps c.args.terms (servers_of c.in_ok-servers.servers.items)) plans
          c.in_ok-servers.ensures.new;
    }
