-- What a run that has ended reports, end to end.
use Rattle.std.proofs.Common.{◌≡◌, ℕ, Bool, false, zero, suc, ◌+◌, ◌<◌, ◌≤◌, ◌&&◌, nat_lt, cond, eqb, ltb, List, [], ◌∷◌, ◌++◌, append-nil, length, map, get_or, slice_get, Option, Some, None, option_map, IfSome, refl, sym, ap, ◌∙◌, subst, arith, inl, inr}
use Rattle.std.specs.List.{All, AllZip, filter}
use Rattle.std.specs.Option.{option_map_or, unwrap_or}
use Rattle.std.proofs.Math.Nat.{mod-lt}
use Rattle.std.proofs.lemmas.List.{get_or_past, length-map}
use Rattle.std.proofs.lemmas.List.FromFn.{fill_by_all}
use Rattle.std.proofs.lemmas.List.Sums.{length-filter}
use Rattle.std.proofs.lemmas.Bool.Decides.{leb_tells}
use Rattle.std.proofs.lemmas.Bool.{cases_lt, le-ltb, lt-ltb}
use Rattle.std.proofs.lemmas.Option.{get_or_from_slice_get, slice_get-get_or, slice_get-map, slice_get_within, unwrap_or-slice_get}
use Rattle.like_requests.specs.Pages.{Page}
use Rattle.like_requests.specs.Verdict.{home}
use Rattle.like_requests.specs.declared.request.Request.{Request}
use Rattle.like_requests.specs.declared.setup.Setup.{Setup}
use Rattle.like_core.specs.declared.sight.Sight.{Sight}
use Rattle.like_core.specs.declared.opening.Opening.{Opening}
use Rattle.like_core.specs.declared.view.PageCount.{PageCount}
use Rattle.like_core.specs.Additions.{added_before}
use Rattle.like_core.specs.Phase.{IsJoined}
use Rattle.like_core.specs.PhaseMasks.{mask_of, AreMasksOf}
use Rattle.like_core.specs.Post.{additions_of}
use Rattle.like_core.specs.WorkerState.{SawNoLater}
use Rattle.like_core.specs.views.Posts.{posts_added, posts_before}
use Rattle.like_core.specs.views.Reads.{IsCounted}
use Rattle.like_board.specs.declared.worker_seat.WorkerSeat.{WorkerSeat}
use Rattle.like_board.specs.Closed.{count_with}
use Rattle.like_board.specs.Seats.{seat_view}
use Rattle.like_core.specs.PageSteps.{additions_among}
use Rattle.like_tables.specs.Share.{Share, share_of, worker_of}
use Rattle.like_tables.specs.UserTable.{UserTable, last_of}
use Rattle.like_promises.specs.declared.log.Ran.{Ran}
use Rattle.like_promises.specs.declared.log.Took.{Took}
use Rattle.like_promises.specs.declared.log.WorkerLog.{WorkerLog}
use Rattle.like_promises.specs.Likes.{initial_count, likes, likes_among}
use Rattle.like_promises.specs.Report.{grew, workload_by}
use Rattle.like_promises.specs.RunStore.{store_after}
use Rattle.like_promises.proofs.LikesBelow.{likes_below}
use Rattle.like_roles.proofs.choice.Choosing.{chosen-more}
use Rattle.like_roles.proofs.choice.Releasing.{none-even}
use Rattle.like_core.proofs.Lists.{sum-of-map}
use Rattle.like_crew.proofs.additions.Earlier.{below-is}
use Rattle.like_promises.specs.Serial.{run_of}
use Rattle.like_roles.specs.coordinator.Choice.{AreTotals, likes_counted}
use Rattle.like_promises.specs.HotPages.{chosen_below, hot_by}
use Rattle.like_promises.specs.Workload.{Workload, submitters, workload_of}
use Rattle.like_collection.specs.Entries.{IsRequest}
use Rattle.like_core.specs.declared.view.WorkerSeatView.{WorkerSeatView}
use Rattle.like_promises.specs.Collected.{entries_in, entries_of}
use Rattle.like_crew.specs.declared.outcome.Outcome.{Outcome}
use Rattle.like_promises.specs.EndToEnd.{AreCounts, AreLastLikes, AreLogs, runs_of}
use Rattle.like_crew.proofs.LastLikes.{AreTables}
use Rattle.like_crew.proofs.Once.{RunsOnce}
use Rattle.like_promises.specs.Log.{IsLog}
use Rattle.like_crew.specs.Server.{NoneAbove, IsLogOf, ServerView}
use Rattle.like_crew.specs.Crew.{IsCrewOf}
use Rattle.like_crew.specs.Outcome.{IsOutcome, IsSeatLike}
use Rattle.like_crew.specs.Site.{opening_of}
use Rattle.like_crew.specs.Servers.{IsServer}
use Rattle.like_crew.proofs.Hot.{hot-same, order-same, stashed-same, total}
use Rattle.like_crew.proofs.Counted.{count-in-all, in_range, plan_of}
use Rattle.like_crew.proofs.Ending.{as-many, server-at as server-of}
use Rattle.like_crew.proofs.lists.Pairs.{pairs-length, pairs-sum, pairs-then}
use Rattle.like_crew.proofs.Makings.{all-back}
use Rattle.like_crew.proofs.servers.Finishing.{IsLogFor, log-for}

-- what matches an element that stands at a place
pub left-at : {A B : Type 0} (R : A → B → Type 0) (xs : List A) (ys : List B) (k : ℕ) (y : B)
    → AllZip R xs ys
    → slice_get ys k ≡ Some y
    → (x : A) × ((slice_get xs k ≡ Some x) × R x y)
left-at R [] [] k y all e = absurd (cc e)
left-at R [] (b ∷ ys) k y all e = absurd all
left-at R (a ∷ xs) [] k y all e = absurd all
left-at R (a ∷ xs) (b ∷ ys) zero y all e = let same : b ≡ y = cc e in (a, (refl, subst (R a) same all.0))
left-at R (a ∷ xs) (b ∷ ys) (suc k) y all e = left-at R xs ys k y all.1 e

pub right-at : {A B : Type 0} (R : A → B → Type 0) (xs : List A) (ys : List B) (k : ℕ) (x : A)
    → AllZip R xs ys
    → slice_get xs k ≡ Some x
    → (y : B) × ((slice_get ys k ≡ Some y) × R x y)
right-at R [] [] k x all e = absurd (cc e)
right-at R [] (b ∷ ys) k x all e = absurd all
right-at R (a ∷ xs) [] k x all e = absurd all
right-at R (a ∷ xs) (b ∷ ys) zero x all e = let same : a ≡ x = cc e in (b, (refl, subst (λ z. R z b) same all.0))
right-at R (a ∷ xs) (b ∷ ys) (suc k) x all e = right-at R xs ys k x all.1 e

-- a page's count at the start
pub initial-at : (workload : Workload) (page : ℕ)
    → get_or (map (λ (p : Page). p.count) workload.pages) page 0 ≡ initial_count workload.pages page
initial-at workload page =
    sym (unwrap_or-slice_get (map (λ (p : Page). p.count) workload.pages) page 0)
    ∙ ap (λ o. unwrap_or o 0) (slice_get-map (λ (p : Page). p.count) workload.pages page)
    ∙ by_page (slice_get workload.pages page)
  where
    by_page : (o : Option Page)
        → unwrap_or (option_map (λ (p : Page). p.count) o) 0 ≡ option_map_or (λ (p : Page). p.count) o 0
    by_page None = refl
    by_page (Some p) = refl

module _ (setup : Setup) (plans : List (List Request)) (notes : Bool) (e : Outcome) (h : IsOutcome (IsCrewOf setup plans notes) e) where
  -- the masks of the phases that were released
  abbrev pub hot_known : ℕ → ℕ
  hot_known = mask_of h.crew.coordinator.seat.masks

  -- the run with these masks
  abbrev pub known : Workload
  known = record (workload_of setup plans) { hot = hot_known }

  abbrev pub z : Opening
  z = opening_of setup

  -- the phase in which it ended is the last one that the coordinator's seat knows, and joined
  phase-is : e.phases ≡ h.crew.coordinator.seat.phase
  phase-is = h.phases ∙ h.ended.phase

  pub joined : IsJoined e.phases
  joined = subst IsJoined (sym h.phases) h.ended.joined

  -- the run, with the hot pages that its entries tell
  abbrev pub served : Workload
  served = workload_by setup plans (entries_in e.logs.items)

  -- the server of a worker
  pub server-at : (worker : ℕ) (s : ServerView) → slice_get h.crew.servers worker ≡ Some s
      → IsServer (workload_of setup plans) setup.workers h.of.board notes worker s
  server-at worker s at =
      server-of (workload_of setup plans) setup.workers h.of.board notes h.crew.servers worker s at h.of.at.servers

  servers-size : length h.crew.servers ≡ setup.workers
  servers-size = as-many (workload_of setup plans) setup.workers h.of.board notes h.crew.servers h.of.at.servers

  pub logs-size : length e.logs.items ≡ setup.workers
  logs-size = sym (pairs-length IsLogOf h.crew.servers e.logs.items h.logs) ∙ servers-size

  pub seats-size : length h.seats ≡ setup.workers
  seats-size = sym (pairs-length IsSeatLike h.crew.servers h.seats h.seats_are) ∙ servers-size

  -- what the seats that were left know
  abbrev pub posts : List WorkerSeatView
  posts = map seat_view h.seats

  -- what is true of all of them is true of a server's
  pub at-post : (P : WorkerSeatView → Type 0) → All P posts → (worker : ℕ) (s : ServerView)
      → slice_get h.crew.servers worker ≡ Some s → P s.worker.post
  at-post P all worker s at =
      let seat = right-at IsSeatLike h.crew.servers h.seats worker s h.seats_are at in
      subst P seat.1.1
      (subst (λ (x : WorkerSeat). P (seat_view x)) (get_or_from_slice_get h.seats worker seat.0 seat.0 seat.1.0)
      (all-back seat_view P h.seats all worker seat.0 (slice_get_within h.seats worker seat.0 seat.1.0)))

  -- the masks that the workers read are those
  abbrev pub HaveMasks : Type 0
  HaveMasks = All (λ (p : WorkerSeatView). AreMasksOf hot_known p.masks) posts

  -- the counts that the coordinator read have all that was added by then
  abbrev pub HasCounted : Type 0
  HasCounted = All (IsCounted h.crew.coordinator.seat.opening.counts (posts_before posts)) h.crew.coordinator.seat.counted

  -- no worker saw a later phase than the coordinator's
  abbrev pub SawNoneLater : Type 0
  SawNoneLater = All (λ (p : WorkerSeatView). SawNoLater h.crew.coordinator.seat.phase p.last) posts

  -- the log of each server is right for the run
  pub right : HaveMasks → (worker : ℕ) (s : ServerView) (log : WorkerLog) → slice_get h.crew.servers worker ≡ Some s
      → IsLogOf s log
      → IsLogFor known s log
  right masks worker s log at of_log =
      log-for known s log ((server-at worker s at).works hot_known)
      (at-post (λ (p : WorkerSeatView). AreMasksOf hot_known p.masks) masks worker s at) of_log

  all-right : HaveMasks → AllZip (IsLogFor known) h.crew.servers e.logs.items
  all-right masks = pairs-then IsLogOf (IsLogFor known) h.crew.servers e.logs.items (right masks) h.logs

  pub log-at : HaveMasks → (worker : ℕ) (log : WorkerLog) → slice_get e.logs.items worker ≡ Some log
      → IsLog known setup.workers worker log
  log-at masks worker log at =
      let s = left-at IsLogOf h.crew.servers e.logs.items worker log h.logs at in
      subst (λ (x : Share). IsLog known x.workers x.worker log) (server-at worker s.0 s.1.0).share
      (right masks worker s.0 log s.1.0 s.1.1).is_log

  -- where no additions are noted, no log has any
  pub none-noted : notes ≡ false → All (λ log. log.adds.items ≡ []) e.logs.items
  none-noted unasked = λ worker d within.
      let at = slice_get-get_or e.logs.items worker d within in
      let s = left-at IsLogOf h.crew.servers e.logs.items worker (get_or e.logs.items worker d) h.logs at in
      s.1.1.unnoted ((server-at worker s.0 s.1.0).notes_are ∙ unasked)

  pub tables : AreTables known.users (submitters known) e.logs.items
  tables worker log at =
      let s = left-at IsLogOf h.crew.servers e.logs.items worker log h.logs at in
      let is = server-at worker s.0 s.1.0 in
      ap (λ (t : UserTable). t.share) s.1.1.last ∙ is.share ∙ ap (λ n. share_of known.users (submitters known) n worker) (sym logs-size)

  -- nothing was taken after the phase in which the run ended
  below : (last : Option Sight) (taken : List Took) (phase : ℕ) → NoneAbove last taken
      → IfSome last (λ sight. sight.number ≤ phase) → All (λ t. t.phase ≤ phase) taken
  below None taken phase none le = λ k d within. absurd (omega (arith, within, ap (λ (xs : List Took). length xs) none))
  below (Some sight) taken phase all le = λ k d within. omega (arith, all k d within, le)

  -- the additions of all seats are the accepted likes of all logs
  pub all-likes : HaveMasks → (page : ℕ) → posts_added posts page ≡ likes known page (runs_of e.logs.items)
  all-likes masks page =
      sum-of-map (λ (p : WorkerSeatView). additions_of p page) seat_view h.seats
      ∙ sym (pairs-sum IsSeatLike (λ (s : ServerView). additions_of s.worker.post page)
      (λ (seat : WorkerSeat). additions_of (seat_view seat) page) h.crew.servers h.seats
      (λ s seat m. ap (λ (p : WorkerSeatView). additions_of p page) (sym m)) h.seats_are)
      ∙ pairs-sum (IsLogFor known) (λ (s : ServerView). additions_of s.worker.post page)
      (λ (log : WorkerLog). likes_among known page log.ran.items) h.crew.servers e.logs.items
      (λ s log m. sym (m.likes page)) (all-right masks)
      ∙ sym (sum-of-map (likes_among known page) (λ (log : WorkerLog). log.ran.items) e.logs.items)

  -- the seats that were left
  seat-at : (k : ℕ) (seat : WorkerSeat) → slice_get h.seats k ≡ Some seat
      → (s : ServerView) × ((slice_get h.crew.servers k ≡ Some s) × IsSeatLike s seat)
  seat-at k seat at = left-at IsSeatLike h.crew.servers h.seats k seat h.seats_are at

  pub seat-worker : (k : ℕ) (seat : WorkerSeat) → slice_get h.seats k ≡ Some seat → (seat_view seat).worker ≡ k
  seat-worker k seat at =
      let s = seat-at k seat at in
      ap (λ (p : WorkerSeatView). p.worker) s.1.1 ∙ (server-at k s.0 s.1.0).whose

  -- the final counts
  pub counts-are : HaveMasks → (counts : List ℕ)
      → z.counts ≡ map (λ p. p.count) known.pages → length counts ≡ length known.pages
      → ((page : ℕ) → page < length known.pages
      → get_or counts page 0 ≡ count_with h.crew.coordinator.seat h.seats page)
      → AreCounts served (runs_of e.logs.items) counts
  counts-are masks counts initial sized told =
      fill_by_all (λ page. initial_count known.pages page + likes served page (runs_of e.logs.items)) counts
      (length known.pages) 0 sized
      (λ page there.
      told page there
      ∙ ap (λ (x : Opening). get_or x.counts page 0 + posts_added posts page) h.of.at.opening
      ∙ ap (λ cs. get_or cs page 0 + posts_added posts page) initial
      ∙ ap (λ n. n + posts_added posts page) (initial-at known page)
      ∙ ap (λ n. initial_count known.pages page + n) (all-likes masks page))

  -- what all seats have added before a phase are the accepted likes that all workers ran before it
  pub all-before : HaveMasks → (phase page : ℕ)
      → posts_before posts phase page ≡ likes_below known page (runs_of e.logs.items) phase
  all-before masks phase page =
      sum-of-map (λ (p : WorkerSeatView). added_before phase page (additions_among p.did)) seat_view h.seats
      ∙ sym (pairs-sum IsSeatLike (λ (s : ServerView). added_before phase page (additions_among s.worker.post.did))
      (λ (seat : WorkerSeat). added_before phase page (additions_among (seat_view seat).did)) h.crew.servers h.seats
      (λ s seat m. ap (λ (p : WorkerSeatView). added_before phase page (additions_among p.did)) (sym m)) h.seats_are)
      ∙ pairs-sum (IsLogFor known) (λ (s : ServerView). added_before phase page (additions_among s.worker.post.did))
      (λ (log : WorkerLog). likes_among known page (filter (λ x. nat_lt x.phase phase) log.ran.items)) h.crew.servers
      e.logs.items
      (λ s log m. sym (below-is known log.ran.items (additions_among s.worker.post.did) m.by_phase phase page))
      (all-right masks)
      ∙ sym (sum-of-map (λ (ran : List Ran). likes_among known page (filter (λ x. nat_lt x.phase phase) ran))
      (λ (log : WorkerLog). log.ran.items) e.logs.items)

  -- the counts that the coordinator read are the totals by the run lists
  are-totals : HaveMasks → HasCounted
      → AreTotals (total (workload_of setup plans) e.logs.items z.counts) h.crew.coordinator.seat.counted
  are-totals masks counted = λ k d within.
      let r : PageCount = get_or h.crew.coordinator.seat.counted k d in
      counted k d within
      ∙ ap (λ (x : Opening). get_or x.counts r.page 0 + posts_before posts (r.phase + 1) r.page) h.of.at.opening
      ∙ ap (λ n. get_or z.counts r.page 0 + n) (all-before masks (r.phase + 1) r.page)

  -- the hot pages that were chosen by these totals are those that the run lists tell
  hot-is : (k : ℕ)
      → hot_by h.crew.coordinator.choice.hot (length h.crew.coordinator.seat.opening.counts)
      (likes_counted h.crew.coordinator.seat.opening.counts
      (total (workload_of setup plans) e.logs.items z.counts)) k ≡ served.hot k
  hot-is k =
      ap (λ (x : Opening). hot_by h.crew.coordinator.choice.hot (length x.counts)
      (likes_counted x.counts (total (workload_of setup plans) e.logs.items z.counts)) k) h.of.at.opening
      ∙ ap (λ o. hot_by o (length z.counts)
      (likes_counted z.counts (total (workload_of setup plans) e.logs.items z.counts)) k) h.of.at.hot
      ∙ ap (λ n. hot_by setup.hot n
      (likes_counted z.counts (total (workload_of setup plans) e.logs.items z.counts)) k)
      (length-map setup.pages (λ (p : Page). p.count))
      ∙ hot-same (workload_of setup plans) e.logs.items z.counts setup.hot (length setup.pages) k

  -- the phases were released with the masks of these pages
  pub masks-known : HaveMasks → HasCounted → (k : ℕ) → k ≤ e.phases → hot_known k ≡ served.hot k
  masks-known masks counted k within =
      (h.chose (total (workload_of setup plans) e.logs.items z.counts) (are-totals masks counted)).masks k
      (omega (arith, within, phase-is)) ∙ hot-is k

  -- the choices are those phases that have any
  pub chosen-are : HaveMasks → HasCounted → e.chosen.items ≡ chosen_below served.hot e.phases
  chosen-are masks counted =
      h.chosen ∙ (h.chose (total (workload_of setup plans) e.logs.items z.counts)
      (are-totals masks counted)).chosen
      ∙ ap (λ (f : ℕ → ℕ). chosen_below f (h.crew.coordinator.seat.phase + 1)) (λ i k. hot-is k i)
      ∙ ap (λ n. chosen_below served.hot (n + 1)) (sym phase-is)
      ∙ chosen-more served.hot e.phases
      ∙ ap (λ m. chosen_below served.hot e.phases ++ cond (ltb 0 m) (record { phase = e.phases; mask = m } ∷ []) [])
      (none-even setup.hot (length setup.pages)
      (grew (workload_of setup plans) (entries_in e.logs.items)) e.phases joined)
      ∙ append-nil (chosen_below served.hot e.phases)

  pub logs-are : HaveMasks → HasCounted → SawNoneLater → AreLogs served setup.workers e.phases e.logs.items
  logs-are masks counted phases worker log at =
      let s = left-at IsLogOf h.crew.servers e.logs.items worker log h.logs at in
      let saw : IfSome s.0.worker.post.last (λ sight. sight.number ≤ e.phases) =
      subst (λ n. IfSome s.0.worker.post.last (λ sight. sight.number ≤ n)) (sym phase-is)
      (at-post (λ (p : WorkerSeatView). SawNoLater h.crew.coordinator.seat.phase p.last) phases worker s.0 s.1.0) in
      let within = below s.0.worker.post.last log.taken.items e.phases s.1.1.above saw in
      let it = log-at masks worker log at in (
        record {
          taken = it.taken;
          rising = it.rising;
          ran = it.ran ∙ order-same (workload_of setup plans) hot_known served.hot e.phases log.taken.items
              (masks-known masks counted) within;
          stashed = λ phase. rw (sym (stashed-same
              (workload_of setup plans) hot_known served.hot e.phases log.taken.items
              (masks-known masks counted) within phase)) (it.stashed phase);
          answers = it.answers;
          last = it.last;
        },
        within,
      )

-- the run list of a log that stands at a place
pub run-at : (logs : List WorkerLog) (k : ℕ) (log : WorkerLog) → slice_get logs k ≡ Some log
    → run_of (runs_of logs) k ≡ log.ran.items
run-at [] k log at = absurd (cc at)
run-at (first ∷ logs) zero log at = let same : first ≡ log = cc at in ap (λ (l : WorkerLog). l.ran.items) same
run-at (first ∷ logs) (suc k) log at = run-at logs k log at

-- the log at a place within the list
pub log-there : (logs : List WorkerLog) (k : ℕ) → k < length logs → (log : WorkerLog) × (slice_get logs k ≡ Some log)
log-there [] k within = absurd (omega (arith, within))
log-there (log ∷ logs) zero within = (log, refl)
log-there (log ∷ logs) (suc k) within = log-there logs k (omega (arith, within))

-- the last likes of all users
pub last-likes-are : (workload : Workload) (workers : ℕ) (logs : List WorkerLog) (last : List (Option ℕ))
    → length logs ≡ workers
    → 0 < workers
    → ((worker : ℕ) (log : WorkerLog) → slice_get logs worker ≡ Some log → IsLog workload workers worker log)
    → length last ≡ workload.users
    → ((user : ℕ) (log : WorkerLog) → user < workload.users
    → slice_get logs (worker_of (length logs) (home (submitters workload) user)) ≡ Some log
    → slice_get last user ≡ Some (last_of log.last user))
    → AreLastLikes workload workers logs last
last-likes-are workload workers logs last sized some each users told =
    fill_by_all (λ user. (store_after workload
    (run_of (runs_of logs) (worker_of workers (home (submitters workload) user)))).last user) last workload.users None users
    (λ user there.
    let worker : ℕ = worker_of workers (home (submitters workload) user) in
    let within : worker < length logs = omega (arith, mod-lt (home (submitters workload) user) some, sized) in
    get_or_from_slice_get last user _ None
    (by_log user there (slice_get logs worker) refl (log-there logs worker within))) where
      by_log : (user : ℕ) → user < workload.users → (o : Option WorkerLog)
          → slice_get logs (worker_of workers (home (submitters workload) user)) ≡ o
          → ((x : WorkerLog) × (slice_get logs (worker_of workers (home (submitters workload) user)) ≡ Some x))
          → slice_get last user
          ≡ Some ((store_after workload
          (run_of (runs_of logs) (worker_of workers (home (submitters workload) user)))).last user)
      by_log user there o e found =
          told user found.0 there (ap (λ n. slice_get logs (worker_of n (home (submitters workload) user))) sized ∙ found.1)
          ∙ ap Some ((each (worker_of workers (home (submitters workload) user)) found.0 found.1).last user
          ∙ ap (λ run. (store_after workload run).last user)
          (sym (run-at logs (worker_of workers (home (submitters workload) user)) found.0 found.1)))

-- each request has one entry
range-in : (m k : ℕ) → 1 ≤ m → m ≤ k → in_range 1 (1 + k) m 1 ≡ 1
range-in m k low high =
    elim (leb_tells 1 m) [
      | inl below ↦ rw (below.0, lt-ltb m (1 + k) (omega (arith, high))) refl
      | inr other ↦ absurd (omega (arith, low, other.1))
    ]

range-out : (m k : ℕ) → ¬ ((1 ≤ m) × (m ≤ k)) → in_range 1 (1 + k) m 1 ≡ 0
range-out m k out =
    elim (leb_tells 1 m) [
      | inl below ↦
          elim (cases_lt m (1 + k)) [
            | inl within ↦ absurd (out (below.1, omega (arith, within)))
            | inr past ↦ rw (below.0, le-ltb m (1 + k) past) refl
          ]
      | inr other ↦ rw other.0 refl
    ]

pub runs-once : (workload : Workload) (workers : ℕ) (logs : List WorkerLog) (sizes : List ℕ)
    → sizes ≡ map length workload.plans
    → length logs ≡ workers
    → 0 < workers
    → ((worker : ℕ) (log : WorkerLog) → slice_get logs worker ≡ Some log → IsLog workload workers worker log)
    → RunsOnce sizes (entries_in logs)
runs-once workload workers logs sizes sized size some each = record {
  requests = λ submitter number r.
      let r' : IsRequest sizes submitter number = r in
      counted submitter number
      ∙ range-in number (length (plan_of workload submitter)) r'.from_one
      (omega (arith, r'.within, size-at submitter));
  others = λ submitter number no_request.
      counted submitter number ∙ range-out number (length (plan_of workload submitter)) (λ within.
      no_request (record {
        there = there submitter (omega (arith, within.0, within.1, size-at submitter));
        from_one = within.0;
        within = omega (arith, within.1, size-at submitter);
      }));
} where
  counted : (submitter number : ℕ)
      → length (entries_of submitter number (entries_in logs))
      ≡ in_range 1 (1 + length (plan_of workload submitter)) number 1
  counted submitter number =
      length-filter (λ (e : Ran). eqb e.submitter submitter && eqb e.number number) (entries_in logs)
      ∙ count-in-all submitter number workload workers logs size some each

  size-at : (submitter : ℕ) → get_or sizes submitter 0 ≡ length (plan_of workload submitter)
  size-at submitter =
      ap (λ xs. get_or xs submitter 0) sized ∙ sym (unwrap_or-slice_get (map length workload.plans) submitter 0)
      ∙ ap (λ o. unwrap_or o 0) (slice_get-map length workload.plans submitter)
      ∙ by_plan (slice_get workload.plans submitter)
      ∙ ap (λ (xs : List Request). length xs) (unwrap_or-slice_get workload.plans submitter []) where
        by_plan : (o : Option (List Request)) → unwrap_or (option_map length o) 0 ≡ length (unwrap_or o [])
        by_plan None = refl
        by_plan (Some plan) = refl

  there : (submitter : ℕ) → 1 ≤ get_or sizes submitter 0 → submitter < length sizes
  there submitter some_left =
      elim (cases_lt submitter (length sizes)) [
        | inl within ↦ within
        | inr past ↦ absurd (omega (arith, some_left, get_or_past sizes submitter 0 past))
      ]
