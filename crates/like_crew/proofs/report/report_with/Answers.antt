use Rattle.std.proofs.Common.{◌≡◌, ◌<◌, ◌≤◌, ℕ, All, List, length, map, slice_get, refl, sym, ap, ◌∙◌, subst, arith}
use Rattle.std.proofs.lemmas.List.{length-map}
use Rattle.like_requests.proofs.Planned.{plans-there}
use Rattle.like_requests.specs.Pages.{Page}
use Rattle.like_requests.specs.Verdict.{home}
use Rattle.like_requests.specs.declared.request.Request.{Request}
use Rattle.like_core.specs.declared.opening.Opening.{Opening}
use Rattle.like_promises.specs.Collected.{IsCollected, rows_of, entries_in}
use Rattle.like_promises.specs.places.Places.{ArePlaces, lists_in}
use Rattle.like_promises.specs.declared.log.Added.{Added}
use Rattle.like_promises.specs.declared.log.WorkerLog.{WorkerLog}
use Rattle.like_tables.specs.Share.{worker_of}
use Rattle.like_promises.specs.Report.{workload_by}
use Rattle.like_promises.specs.Workload.{lists_of}
use Rattle.like_crew.proofs.LastLikes.{AreTables}
use Rattle.like_crew.proofs.additions.Tiled.{all-there, of-likes, placed-are, stand-are, tiles-are}
use Rattle.like_crew.proofs.Once.{collected-at, memory-alone}
use Rattle.like_crew.proofs.OneOrder.{one-order, seen-counts}
use Rattle.like_crew.proofs.Whole.{chosen-are, counts-are, joined, known, last-likes-are, log-at, logs-are, logs-size, none-noted, runs-once, tables}
use Rattle.like_serial.proofs.Reports.{right_is_report}
use Rattle.like_crew.proofs.report.report_with.Goals as goal

pub replies_of-requires : goal.replies_of-requires
replies_of-requires c =
    let plans : List (List Request) = lists_of c.args.plans.now.value.items in
    let e = c.args.outcome in
    memory-alone c.args.terms.sizes.now (entries_in e.logs.items) c.args.collected
    (runs-once (known c.args.setup.now plans c.args.terms.notes e c.requires.outcome) c.args.setup.now.workers
    e.logs.items c.args.terms.sizes.now c.requires.sizes
    (logs-size c.args.setup.now plans c.args.terms.notes e c.requires.outcome)
    c.requires.within.0.0
    (log-at c.args.setup.now plans c.args.terms.notes e c.requires.outcome c.requires.outcome.counts.closed.masks))
    c.requires.collected

-- the number of submitters
submitters-are : (many : ℕ) (sizes : List ℕ) (plans : List (List Request))
    → many ≡ length sizes
    → sizes ≡ map length plans
    → many ≡ length plans
submitters-are many sizes plans is sized = is ∙ ap (λ (xs : List ℕ). length xs) sized ∙ length-map plans length

pub last_likes-requires-clause-submitters : goal.last_likes-requires-clause-submitters
last_likes-requires-clause-submitters c =
    omega (
      arith,
      submitters-are (length c.args.terms.sizes.now) c.args.terms.sizes.now (lists_of c.args.plans.now.value.items) refl
          c.requires.sizes,
      c.requires.within.1.0.0,
    )

pub last_likes-requires-clause-logs : goal.last_likes-requires-clause-logs
last_likes-requires-clause-logs c =
    let size = logs-size c.args.setup.now
    (lists_of c.args.plans.now.value.items) c.args.terms.notes c.args.outcome c.requires.outcome in
    let same : length c.deref.result.now ≡ c.args.setup.now.workers =
    ap (λ (xs : List WorkerLog). length xs) c.deref.ensures.value ∙ size in
    let some : 1 ≤ c.args.setup.now.workers = c.requires.within.0.0 in
    omega (arith, same, some)

pub last_likes-requires-clause-tables : goal.last_likes-requires-clause-tables
last_likes-requires-clause-tables c =
    let plans : List (List Request) = lists_of c.args.plans.now.value.items in
    let sizes = c.args.terms.sizes.now in
    let many = submitters-are (length sizes) sizes (lists_of c.args.plans.now.value.items) refl c.requires.sizes in
    subst (λ (logs : List WorkerLog). AreTables c.args.setup.now.users (length sizes) logs) (sym c.deref.ensures.value)
    (subst (λ n. AreTables c.args.setup.now.users n c.args.outcome.logs.items) (sym many)
    (tables c.args.setup.now plans c.args.terms.notes c.args.outcome c.requires.outcome))

pub places_of-requires-clause-few : goal.places_of-requires-clause-few
places_of-requires-clause-few c =
    let plans : List (List Request) = lists_of c.args.plans.now.value.items in
    let size = logs-size c.args.setup.now plans c.args.terms.notes c.args.outcome c.requires.outcome in
    omega (
      arith,
      ap (λ (xs : List WorkerLog). length xs) c.deref-2.ensures.value,
      size,
      c.requires.within.0.1,
    )

pub places_of-requires-clause-there : goal.places_of-requires-clause-there
places_of-requires-clause-there c notes =
    let plans : List (List Request) = lists_of c.args.plans.now.value.items in
    let closed = c.requires.outcome.counts.closed in
    let there = all-there c.args.setup.now plans c.args.terms.notes c.args.outcome c.requires.outcome closed.masks
    closed.counted notes (plans-there c.args.setup.now plans c.requires.within) in
    subst (λ (n : ℕ). All (λ (log : WorkerLog). All (λ (a : Added). a.page < n) log.adds.items) c.deref-2.result.now)
    (sym c.len.ensures.len)
    (subst (λ (logs : List WorkerLog). All
    (λ (log : WorkerLog). All (λ (a : Added). a.page < length c.args.setup.now.pages) log.adds.items) logs)
    (sym c.deref-2.ensures.value) there)

pub returns-clause-report : goal.returns-clause-report
returns-clause-report c =
    let plans : List (List Request) = lists_of c.args.plans.now.value.items in
    let workers : ℕ = c.args.setup.now.workers in
    let e = c.args.outcome in
    let h = c.requires.outcome in
    let size : length e.logs.items ≡ workers = logs-size c.args.setup.now plans c.args.terms.notes e h in
    let sizes = c.args.terms.sizes.now in
    let many = submitters-are (length sizes) sizes (lists_of c.args.plans.now.value.items) refl c.requires.sizes in
    let told = h.counts in
    let pages : length e.counts.items ≡ length c.args.setup.now.pages =
    told.len ∙ ap (λ (z : Opening). length z.counts) h.of.at.opening
    ∙ length-map c.args.setup.now.pages (λ (p : Page). p.count) in
    let logs = logs-are c.args.setup.now plans c.args.terms.notes e h told.closed.masks told.closed.counted
    told.closed.phases in
    let order = one-order c.args.setup.now plans c.args.terms.notes e h told.closed.masks told.closed.log
    told.closed.order told.closed.counted told.closed.phases in
    let closed = told.closed in
    let P : ℕ → List WorkerLog → Type 0 = λ pages logs. ArePlaces pages logs (lists_in c.in_ok-places.places.items) in
    right_is_report c.args.setup.now plans c.args.terms.notes _
    (record {
      one_order = order;
      workers_all = size;
      logs = logs;
      replies = subst (λ sizes. IsCollected sizes (entries_in e.logs.items) (rows_of c.in_ok-replies.replies))
          c.requires.sizes
          (collected-at c.args.terms.sizes.now (entries_in e.logs.items) c.args.collected c.in_ok-replies.replies
          c.in_ok-replies.ensures c.requires.collected);
      counts = counts-are c.args.setup.now plans c.args.terms.notes e h told.closed.masks
          e.counts.items refl pages
          (λ page there. told.totals page (omega (arith, there, pages)));
      last = last-likes-are
          (workload_by c.args.setup.now plans (entries_in e.logs.items)) workers e.logs.items c.in_ok-last.last.items size
          c.requires.within.0.0 (λ worker log at. (logs worker log at).0) c.in_ok-last.ensures.len
          (λ user log there at.
          c.in_ok-last.ensures.last user log there
          (ap (λ (logs : List WorkerLog). slice_get logs (worker_of (length logs) (home (length sizes) user)))
          c.deref.ensures.value
          ∙ ap (λ n. slice_get e.logs.items (worker_of (length e.logs.items) (home n user))) many ∙ at));
      joined = joined c.args.setup.now plans c.args.terms.notes e h;
      seen = seen-counts (workload_by c.args.setup.now plans (entries_in e.logs.items)) workers e.logs.items order;
      hot = chosen-are c.args.setup.now plans c.args.terms.notes e h told.closed.masks told.closed.counted;
    })
    (λ notes. record {
      likes = of-likes c.args.setup.now plans c.args.terms.notes e h closed.masks closed.counted notes closed.phases;
      tiles = tiles-are c.args.setup.now plans c.args.terms.notes e h closed.masks closed.counted notes
          (plans-there c.args.setup.now plans c.requires.within) e.counts.items pages
          (λ page there. told.totals page (omega (arith, there, pages))) closed.places;
      placed = placed-are c.args.setup.now plans c.args.terms.notes e h closed.masks closed.counted notes closed.places;
      in_time = stand-are c.args.setup.now plans c.args.terms.notes e h closed.masks closed.counted notes
          closed.between;
      rows = subst (λ (n : ℕ). P n e.logs.items) c.len.ensures.len
          (subst (P c.len.result) c.deref-2.ensures.value (c.in_ok-places.ensures.noted notes));
    })
    (λ unasked. (
      c.in_ok-places.ensures.none unasked,
      none-noted c.args.setup.now plans c.args.terms.notes e h unasked,
    ))
