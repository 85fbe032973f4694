use Rattle.std.proofs.Common.{◌≡◌, ◌<◌, ◌≤◌, ℕ, Bool, false, is_some, [], if◌then◌else◌, List, length, replicate, sum, ap, sym, ◌∙◌, arith, rules, subst}
use Rattle.std.proofs.lemmas.List.{length-map, length-replicate}
use Rattle.std.proofs.lemmas.List.Elements.{All-nil}
use Rattle.std.specs.List.{All}
use Rattle.like_core.specs.Additions.{all_added}
use Rattle.like_core.specs.OpeningLimits.{AreLimits, has_slots}
use Rattle.like_core.specs.Post.{pages_of}
use Rattle.like_core.specs.declared.limits.Limits.{Limits}
use Rattle.like_core.specs.PageSteps.{additions_among}
use Rattle.like_core.specs.declared.view.WorkerSeatView.{WorkerSeatView}
use Rattle.like_limits.specs.Limits.{max_pages}
use Rattle.like_requests.specs.Pages.{Page, marks_of}
use Rattle.like_requests.specs.declared.setup.Setup.{Setup}
use Rattle.like_seat.specs.Kept as kept
use Rattle.like_seat.specs.Kept.{IsNewOfRun}
use Rattle.like_seat.proofs.Keeping.{sum-zeros}
use Rattle.like_seat.specs.StationView.{StationView}
use Rattle.like_seat.specs.Steps.{IsNewStation}
use Rattle.like_tables.specs.Share.{share_of}
use Rattle.like_tables.specs.UserTable.{UserTable, table_without_likes}
use Rattle.like_tables.specs.StashView.{StashView}
use Rattle.like_tables.specs.declared.held.Held.{Held}
use Rattle.like_roles.specs.declared.terms.Terms.{Terms}
use Rattle.like_roles.specs.declared.worker.ledger.Ledger.{Ledger}
use Rattle.like_roles.specs.worker.Ledger.{HasSubmitters, IsNewLedger, IsSound, view_of}
use Rattle.like_roles.specs.worker.New.{IsNew, IsPostOf}
use Rattle.like_roles.proofs.Held.{IsOwn}
use Rattle.like_roles.proofs.Started.{follows-new}
use Rattle.like_roles.proofs.worker.tasks.Work.new.Goals as goal

-- a new post of a worker has the pages of its setup
pages_are : (worker : ℕ) (s : Setup) (post : WorkerSeatView) → IsPostOf worker s.pages post → pages_of post ≡ length s.pages
pages_are worker s post p = ap (λ (xs : List Bool). length xs) p.opening.marks ∙ length-map s.pages (λ q. q.split)

-- a new station at its post and a new ledger make a new worker
new_worker : (s : Setup) (terms : Terms) (worker : ℕ) (post : WorkerSeatView) (last : UserTable)
    (station : StationView Held) (d : Ledger) → IsPostOf worker s.pages post → IsNewStation [] post s.stash last station
    → last ≡ table_without_likes (share_of s.users (length terms.sizes.now) s.workers worker)
    → IsNewLedger s terms worker d → IsNew s terms worker post (view_of station d)
new_worker s terms worker post last station d p n users k = record {
  at_post = n.at_post;
  stash = n.stash;
  slice = n.slice ∙ ap (λ (x : ℕ). replicate x 0) (pages_are worker s post p);
  sliced = n.sliced;
  left = k.left;
  ended = k.ended;
  cursor = k.cursor;
  pending = k.pending;
  last = n.last ∙ users;
  taken = k.taken;
  ran = k.ran;
  notes_are = k.notes_are;
  adds = k.adds;
}

-- which is sound
new_sound : (s : Setup) (terms : Terms) (worker : ℕ) (post : WorkerSeatView) (last : UserTable)
    (station : StationView Held) (d : Ledger) → IsPostOf worker s.pages post → IsNewStation [] post s.stash last station
    → last ≡ table_without_likes (share_of s.users (length terms.sizes.now) s.workers worker)
    → IsNewLedger s terms worker d → worker < s.workers → IsSound station d
new_sound s terms worker post last station d p n users k is_worker =
    let stashed : station.stash.looks ≡ [] = ap (λ (x : StashView Held). x.looks) n.stash in
    let none : length station.stash.looks ≡ 0 = ap (λ (xs : List Held). length xs) stashed in
    let zeros : sum station.slice ≡ 0 = ap (λ (xs : List ℕ). sum xs) n.slice ∙ sum-zeros (length post.opening.marks) in
    let additions : all_added (additions_among station.post.did) ≡ 0 =
    ap (λ (x : WorkerSeatView). all_added (additions_among x.did)) (n.at_post ∙ p.fresh) in
    let sized : length d.ended.items ≡ length d.left.items =
    ap (λ (xs : List Bool). length xs) k.ended ∙ length-replicate (length d.left.items) false in
    record {
      station = n.is;
      run = ap (λ (x : WorkerSeatView). x.opening.limits) n.at_post ∙ p.opening.limits;
      started = k.started ∙ ap is_some (sym (ap (λ (x : WorkerSeatView). x.last) (n.at_post ∙ p.fresh)));
      ranks = subst (λ (t : UserTable). HasSubmitters t.share d) (sym (n.last ∙ users)) (record {
        is_worker = is_worker;
        sized = omega (arith, d.left.ok.0, d.ended.ok.0, sized);
        submitters = λ rank inside. k.there rank (omega (arith, d.ended.ok.0, sized, inside));
        cursor = omega (arith, k.cursor);
      });
      room = record {
        taken = omega (arith, k.taken_room, d.taken.ok.0, ap length k.taken);
        ran = omega (arith, k.ran_room, d.ran.ok.0, ap length k.ran, none);
        few_ran = omega (arith, k.ran_room, k.few);
        adds = λ notes_is.
            (let full = k.adds_room
            ∙ ap (λ (b : Bool). if b then sum d.left.items else 0) (sym k.notes_are ∙ notes_is) in
            omega (arith, full, d.adds.ok.0, ap length k.adds, none, zeros));
        few = omega (arith, k.few, none, zeros, additions);
      };
      stashed = subst (λ xs. All (IsOwn station) xs) (sym stashed) (All-nil (IsOwn station));
      tried = λ rank is. absurd (cc (k.pending, is));
    }

-- a new post of a worker is one of a run with these marks
new_post : (worker : ℕ) (pages : List Page) (marks : List Bool) (post : WorkerSeatView) → marks ≡ marks_of pages
    → length pages ≤ max_pages → IsPostOf worker pages post → IsNewOfRun marks post
new_post worker pages marks post is few p =
    let many = ap (λ (xs : List Bool). length xs) p.opening.marks ∙ length-map pages (λ q. q.split) in
    record {
      fresh = p.fresh;
      limits = subst AreLimits (sym p.opening.limits) (search rules);
      few_pages = omega (arith, many, few, ap (λ (l : Limits). l.pages) p.opening.limits);
      run = record {
        plain = ap (λ (l : Limits). has_slots l) p.opening.limits;
        marks = p.opening.marks ∙ sym is;
        small = omega (arith, many, few);
        factor = p.opening.factor;
      };
    }

pub returns : goal.returns
returns c =
    let s = c.args.setup.now in
    let marks = c.in_ok-marks.ensures in
    let tables = c.in_ok-tables.ensures in
    let d = c.in_ok-ledger.ledger in
    let of_run = λ (post : WorkerSeatView) (p : IsPostOf c.args.worker s.pages post).
    new_post c.args.worker s.pages c.in_ok-marks.marks.items post marks.marks marks.pages.entries.few p in
    let new = λ (post : WorkerSeatView) (p : IsPostOf c.args.worker s.pages post).
    new_worker s c.args.terms c.args.worker post c.in_ok-last.last (kept.view_of [] post c.in_ok-tables.tables) d p
    (tables.new [] post (of_run post p)) c.in_ok-last.ensures c.in_ok-ledger.ensures in
    record {
      ready = λ post p. record {
        kept = tables.kept post (of_run post p);
        sound = new_sound s c.args.terms c.args.worker post c.in_ok-last.last
            (kept.view_of [] post c.in_ok-tables.tables) d p (tables.new [] post (of_run post p)) c.in_ok-last.ensures
            c.in_ok-ledger.ensures c.requires.is_worker;
      };
      new = new;
      follows = λ post p workload same.
          follows-new s c.args.terms c.args.worker post _ workload p (new post p) same;
    }
