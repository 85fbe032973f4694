-- How far a new crew is.
use Rattle.std.proofs.Common.{◌≡◌, ℕ, ◌<◌, List, [], ◌∷◌, length, map, sum_by, refl, sym, ap, ◌∙◌, arith}
use Rattle.std.specs.List.{All, AllZip, range_with_len}
use Rattle.std.proofs.lemmas.List.Elements.{All-cons}
use Rattle.std.proofs.lemmas.List.FromFn.{length-range_with_len}
use Rattle.std.proofs.lemmas.List.Sums.{sum_by-cons}
use Rattle.like_requests.specs.declared.request.Request.{Request}
use Rattle.like_requests.specs.declared.setup.Setup.{Setup}
use Rattle.like_core.specs.declared.worker_state.WorkerState.TheVariants.{Runs}
use Rattle.like_queue.specs.Inbox.{item_count}
use Rattle.like_tables.specs.Share.{dealt}
use Rattle.like_tables.specs.StashView.{StashView}
use Rattle.like_tables.specs.declared.held.Held.{Held}
use Rattle.like_ending.specs.Progress.{IsStart, WorkerProgress, items_in}
use Rattle.like_roles.specs.coordinator.CoordTurns.{CoordinatorView}
use Rattle.like_crew.specs.Crew.{CrewView, IsNewCrew}
use Rattle.like_crew.specs.Progress.{items_left, items_of, progress_of}
use Rattle.like_crew.specs.Server.{ServerView, untouched}
use Rattle.like_crew.specs.Servers.{IsNewServer}
use Rattle.like_core.proofs.Lists.{sum-of-map}
use Rattle.like_crew.proofs.Makings.{all-map}
use Rattle.like_crew.proofs.Progress.{progress_in}
use Rattle.like_crew.proofs.lists.Dealt.{deal-sum}
use Rattle.like_crew.proofs.lists.Pairs.{pairs-length, pairs-sum}

-- what holds of the second of each pair
seconds : {A B : Type 0} (R : A → B → Type 0) (P : B → Type 0) (xs : List A) (ys : List B)
    → ((x : A) (y : B) → R x y → P y)
    → AllZip R xs ys
    → All P ys
seconds R P [] [] each all = λ k d there. absurd (omega (arith, there))
seconds R P [] (y ∷ ys) each all = absurd all
seconds R P (x ∷ xs) [] each all = absurd all
seconds R P (x ∷ xs) (y ∷ ys) each all = All-cons P y ys (each x y all.0) (seconds R P xs ys each all.1)

-- all items of plans are left from which nothing was taken
left-untouched : (plans : List (List Request)) → sum_by items_left (map untouched plans) ≡ sum_by item_count plans
left-untouched [] = refl
left-untouched (plan ∷ plans) =
    let others = left-untouched plans in
    let lefts = sum_by-cons items_left (untouched plan) (map untouched plans) in
    let items = sum_by-cons item_count plan plans in
    omega (arith, others, lefts, items)

-- a new crew is at the start of the model
pub new-start : (setup : Setup) (plans : List (List Request)) (c : CrewView)
    → IsNewCrew setup plans c
    → IsStart (progress_in c)
new-start setup plans c new =
    let R : ℕ → ServerView → Type 0 = IsNewServer setup plans new.terms in
    record {
      phase = ap (λ (v : CoordinatorView). v.seat.phase) new.coordinator;
      ending = ap (λ (v : CoordinatorView). v.seat.ending) new.coordinator;
      left = ap (λ (v : CoordinatorView). v.left) new.coordinator
          ∙ sym (ap (λ (v : CoordinatorView). v.turns) new.coordinator);
      runs = all-map progress_of (λ (w : WorkerProgress). w.state ≡ Runs 0) c.servers
          (seconds R (λ (s : ServerView). s.worker.post.state ≡ Runs 0) (range_with_len 0 setup.workers) c.servers
          (λ k s is. ap (λ v. v.state) is.post.fresh) new.servers);
      none = all-map progress_of (λ (w : WorkerProgress). w.looks ≡ 0) c.servers
          (seconds R (λ (s : ServerView). length s.worker.stash.looks ≡ 0) (range_with_len 0 setup.workers) c.servers
          (λ k s is. ap (λ (w : StashView Held). length w.looks) is.new.stash) new.servers);
    }

-- it has the turns of the settings
pub new-turns : (setup : Setup) (plans : List (List Request)) (c : CrewView)
    → IsNewCrew setup plans c
    → c.coordinator.turns ≡ setup.turns
new-turns setup plans c new = ap (λ (v : CoordinatorView). v.turns) new.coordinator

-- and their workers
pub new-workers : (setup : Setup) (plans : List (List Request)) (c : CrewView)
    → IsNewCrew setup plans c
    → length c.servers ≡ setup.workers
new-workers setup plans c new =
    sym (pairs-length (IsNewServer setup plans new.terms) (range_with_len 0 setup.workers) c.servers new.servers)
    ∙ length-range_with_len 0 setup.workers

-- all items of the plans are left
pub new-items : (setup : Setup) (plans : List (List Request)) (c : CrewView)
    → 0 < setup.workers
    → IsNewCrew setup plans c
    → items_in (progress_in c) ≡ items_of plans
new-items setup plans c some new =
    sum-of-map (λ (w : WorkerProgress). w.items) progress_of c.servers
    ∙ sym (pairs-sum (IsNewServer setup plans new.terms) (λ k. sum_by item_count (dealt setup.workers k plans))
    (λ (s : ServerView). sum_by items_left s.inboxes) (range_with_len 0 setup.workers) c.servers
    (λ k s is. sym (ap (sum_by items_left) is.inboxes ∙ left-untouched (dealt setup.workers k plans))) new.servers)
    ∙ deal-sum item_count setup.workers plans some
