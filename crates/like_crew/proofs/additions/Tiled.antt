-- The places of the additions of a run that has ended.
use Rattle.std.proofs.Common.{◌≡◌, ℕ, ◌+◌, ◌<◌, ◌≤◌, ◌&&◌, nat_le, nat_lt, Bool, true, cond, List, [], ◌∷◌, length, map, get_or, slice_get, slice_index, count_by, Some, refl, sym, ap, ◌∙◌, subst, arith, inl, inr}
use Rattle.std.specs.List.{All, sum_by}
use Rattle.std.proofs.lemmas.List.Sums.{sum_by-append, sum_by-cons}
use Rattle.std.proofs.lemmas.Bool.{cases_lt}
use Rattle.std.proofs.lemmas.List.{get_or_past, length-map}
use Rattle.std.proofs.lemmas.Option.{slice_get-get_or}
use Rattle.like_requests.specs.Pages.{Page}
use Rattle.like_requests.proofs.Planned.{AreThere}
use Rattle.like_requests.specs.declared.request.Request.{Request}
use Rattle.like_requests.specs.declared.setup.Setup.{Setup}
use Rattle.like_core.specs.declared.opening.Opening.{Opening}
use Rattle.like_core.specs.declared.view.Addition.{Addition}
use Rattle.like_core.specs.views.Reads.{HaveBetween}
use Rattle.like_core.specs.views.Places.{ArePlaced, AreTiles, Counting, covers, end_of}
use Rattle.like_core.specs.views.PostOrder.{HavePlaces, posts_passing}
use Rattle.like_core.specs.views.Posts.{posts_before}
use Rattle.like_core.specs.PageSteps.{additions_among, earliest_first, stretch_of, stretches_of}
use Rattle.like_core.proofs.Steps.{all_split}
use Rattle.std.proofs.lemmas.List.Elements.{All-map}
use Rattle.like_board.specs.declared.worker_seat.WorkerSeat.{WorkerSeat}
use Rattle.like_board.specs.Closed.{count_with}
use Rattle.like_board.specs.Seats.{seat_view}
use Rattle.like_core.specs.declared.view.WorkerSeatView.{WorkerSeatView}
use Rattle.like_promises.specs.declared.log.Ran.{Ran}
use Rattle.like_promises.specs.declared.log.WorkerLog.{WorkerLog}
use Rattle.like_promises.specs.places.Adds.{AddsItsLikes, addition_of}
use Rattle.like_promises.specs.places.Calls.{calls_of}
use Rattle.like_roles.specs.worker.Follows.{AreNoted}
use Rattle.like_promises.specs.Collected.{entries_in}
use Rattle.like_promises.specs.Likes.{initial_count}
use Rattle.like_promises.specs.RunStore.{count_at}
use Rattle.like_promises.specs.Workload.{Workload, workload_of}
use Rattle.like_crew.specs.declared.outcome.Outcome.{Outcome}
use Rattle.like_promises.specs.EndToEnd.{runs_of}
use Rattle.like_crew.specs.Crew.{IsCrewOf}
use Rattle.like_crew.specs.Outcome.{IsOutcome, IsSeatLike}
use Rattle.like_crew.specs.Server.{IsLogOf, ServerView}
use Rattle.like_promises.specs.places.Tiling.{all_noted}
use Rattle.like_core.proofs.Lists.{sum-of-map}
use Rattle.like_crew.proofs.additions.AddedPages.{adds-there, none-liked}
use Rattle.like_crew.proofs.additions.AddedPhases.{of-likes-same, ran-within}
use Rattle.like_crew.proofs.lists.Pairs.{pairs-sum, pairs-then}
use Rattle.like_crew.proofs.Hot.{count-before}
use Rattle.like_crew.proofs.servers.Finishing.{IsLogFor}
use Rattle.like_crew.proofs.Whole.{HasCounted, HaveMasks, SawNoneLater, all-before, all-likes, at-post, hot_known, initial-at, joined, known, left-at, logs-are, masks-known, posts, right, served, server-at, z}

-- the additions that a log notes
abbrev additions_noted : WorkerLog → List Addition
additions_noted log = map addition_of log.adds.items

-- as many of the additions of all logs pass a test as of each log together
count-all : (test : Addition → Bool) (logs : List WorkerLog)
    → sum_by (λ log. count_by test (additions_noted log)) logs ≡ count_by test (all_noted logs)
count-all test [] = refl
count-all test (log ∷ logs) =
    let one : Addition → ℕ = λ a. cond (test a) 1 0 in
    sum_by-cons (λ (l : WorkerLog). count_by test (additions_noted l)) log logs
    ∙ (ap (λ n. count_by test (additions_noted log) + n) (count-all test logs)
    ∙ sym (sum_by-append one (additions_noted log) (all_noted logs)))

-- what a log has noted, where its worker notes its additions
pub record HasNoted (setup : Setup) (plans : List (List Request)) (notes : Bool) (e : Outcome)
    (h : IsOutcome (IsCrewOf setup plans notes) e) (s : ServerView) (log : WorkerLog) : Type 0 where
  pub right_log : IsLogFor (known setup plans notes e h) s log
  pub additions : (additions_among s.worker.post.did) ≡ additions_noted log
  pub adds : AddsItsLikes (known setup plans notes e h) log.ran.items log.adds.items
  pub calls : calls_of (known setup plans notes e h) log.adds.items log.ran.items ≡ stretches_of s.worker.post.did

-- a call's stretch is between the counts before its phase and before the next
abbrev IsInTime : Workload → List Ran → Addition → Type 0
IsInTime workload entries c =
    (count_at workload entries c.page c.phase ≤ c.old) × (end_of c ≤ count_at workload entries c.page (c.phase + 1))

-- steps that lie between what all seats have added lie so between the likes of the run lists
stand-noted : (workload : Workload) (entries : List Ran) (counts : List ℕ) (before : ℕ → ℕ → ℕ) (last : ℕ)
    (post : WorkerSeatView)
    → ((page : ℕ) → get_or counts page 0 ≡ initial_count workload.pages page)
    → ((phase page : ℕ)
    → initial_count workload.pages page + before phase page ≡ count_at workload entries page phase)
    → HaveBetween counts before last post
    → All (IsInTime workload entries) (stretches_of post.did)
stand-noted workload entries counts before last post initial below stand =
    All-map (IsInTime workload entries) stretch_of (earliest_first post.did)
    (all_split (λ s. IsInTime workload entries (stretch_of s)) post.did
    (λ later s earlier is.
    let b = (stand later s earlier is).1 in
    let first = initial s.page in
    let past = below s.phase s.page in
    let upto = below (s.phase + 1) s.page in
    (omega (arith, b.least), omega (arith, b.most))))

module _ (setup : Setup) (plans : List (List Request)) (notes : Bool) (e : Outcome) (h : IsOutcome (IsCrewOf setup plans notes) e)
    (masks : HaveMasks setup plans notes e h) (counted : HasCounted setup plans notes e h)
    (asked : notes ≡ true) where
  -- the log of each worker has
  noted-by : (worker : ℕ) (s : ServerView) (log : WorkerLog) → slice_get h.crew.servers worker ≡ Some s → IsLogOf s log
      → HasNoted setup plans notes e h s log
  noted-by worker s log at of_log =
      let its = right setup plans notes e h masks worker s log at of_log in
      let noted : AreNoted (known setup plans notes e h) s.worker =
      its.noted ((server-at setup plans notes e h worker s at).notes_are ∙ asked) in
      record {
        right_log = its;
        additions = noted.additions ∙ ap (map addition_of) (sym of_log.adds);
        adds = subst (λ (ran : List Ran). AddsItsLikes (known setup plans notes e h) ran log.adds.items) (sym of_log.ran)
            (subst (AddsItsLikes (known setup plans notes e h) s.worker.ran) (sym of_log.adds) noted.adds);
        calls = (λ i. calls_of (known setup plans notes e h) (of_log.adds i) (of_log.ran i)) ∙ noted.calls;
      }

  noted-at : (worker : ℕ) (log : WorkerLog) → slice_get e.logs.items worker ≡ Some log
      → (s : ServerView) × ((slice_get h.crew.servers worker ≡ Some s) × HasNoted setup plans notes e h s log)
  noted-at worker log at =
      let s = left-at IsLogOf h.crew.servers e.logs.items worker log h.logs at in
      (s.0, (s.1.0, noted-by worker s.0 log s.1.0 s.1.1))

  -- of its accepted likes
  pub of-likes : SawNoneLater setup plans notes e h
      → All (λ log. AddsItsLikes (served setup plans notes e h) log.ran.items log.adds.items) e.logs.items
  of-likes phases worker d within =
      let log : WorkerLog = get_or e.logs.items worker d in
      let at : slice_get e.logs.items worker ≡ Some log = slice_get-get_or e.logs.items worker d within in
      let is = logs-are setup plans notes e h masks counted phases worker log at in
      of-likes-same (workload_of setup plans) (hot_known setup plans notes e h) (served setup plans notes e h).hot e.phases
      (masks-known setup plans notes e h masks counted) log.ran.items log.adds.items
      (ran-within (served setup plans notes e h) log.taken.items e.phases (joined setup plans notes e h) is.1 log.ran.items is.0.ran)
      (noted-at worker log at).1.1.adds

  -- to pages that are there
  pub all-there : All (AreThere setup.pages) plans
      → All (λ log. All (λ a. a.page < length setup.pages) log.adds.items) e.logs.items
  all-there there worker d within =
      let log : WorkerLog = get_or e.logs.items worker d in
      let n = noted-at worker log (slice_get-get_or e.logs.items worker d within) in
      adds-there (known setup plans notes e h) there (additions_among n.0.worker.post.did) log.adds.items log.ran.items
      n.1.1.additions n.1.1.right_log.likes n.1.1.adds.each

  -- as many of the logs' additions pass a test as of the seats'
  passing-same : (test : Addition → Bool)
      → posts_passing (posts setup plans notes e h) test ≡ count_by test (all_noted e.logs.items)
  passing-same test =
      sum-of-map (λ (p : WorkerSeatView). count_by test (additions_among p.did)) seat_view h.seats
      ∙ sym (pairs-sum IsSeatLike (λ (s : ServerView). count_by test (additions_among s.worker.post.did))
      (λ (seat : WorkerSeat). count_by test (additions_among (seat_view seat).did)) h.crew.servers h.seats
      (λ s seat m. ap (λ (p : WorkerSeatView). count_by test (additions_among p.did)) (sym m)) h.seats_are)
      ∙ pairs-sum (λ (s : ServerView) (log : WorkerLog). (additions_among s.worker.post.did) ≡ additions_noted log)
      (λ (s : ServerView). count_by test (additions_among s.worker.post.did))
      (λ (log : WorkerLog). count_by test (additions_noted log)) h.crew.servers e.logs.items
      (λ s log m. ap (count_by test) m)
      (pairs-then IsLogOf (λ (s : ServerView) (log : WorkerLog). (additions_among s.worker.post.did) ≡ additions_noted log)
      h.crew.servers e.logs.items (λ i s log at of_log. (noted-by i s log at of_log).additions) h.logs)
      ∙ count-all test e.logs.items

  -- each page's count at the start
  first-same : (page : ℕ) → get_or h.crew.coordinator.seat.opening.counts page 0 ≡ initial_count setup.pages page
  first-same page =
      ap (λ (x : Opening). get_or x.counts page 0) h.of.at.opening ∙ initial-at (known setup plans notes e h) page

  module _ (there : All (AreThere setup.pages) plans) (counts : List ℕ) (sized : length counts ≡ length setup.pages)
      (told : (page : ℕ) → page < length setup.pages
      → get_or counts page 0 ≡ count_with h.crew.coordinator.seat h.seats page) where
    -- and its last one
    last-same : (page : ℕ) → count_with h.crew.coordinator.seat h.seats page ≡ get_or counts page 0
    last-same page = elim (cases_lt page (length setup.pages)) [
      | inl within ↦ sym (told page within)
      | inr past ↦
          let none = get_or_past counts page 0 (omega arith) in
          let start = ap (λ (x : Opening). get_or x.counts page 0) h.of.at.opening
          ∙ get_or_past (z setup plans notes e h).counts page 0
          (omega (arith, length-map setup.pages (λ (p : Page). p.count))) in
          let added = all-likes setup plans notes e h masks page
          ∙ none-liked (known setup plans notes e h) there (runs_of e.logs.items) page past in
          omega (arith, none, start, added)
    ]

    -- each number of a page is in the stretch of one addition
    pub tiles-are : HavePlaces (slice_index h.crew.coordinator.seat.opening.counts) (posts setup plans notes e h)
        → (page n : ℕ)
        → count_by (covers page n) (all_noted e.logs.items)
        ≡ cond (nat_le (initial_count setup.pages page) n && nat_lt n (get_or counts page 0)) 1 0
    tiles-are places page n =
        let first : (λ page. get_or h.crew.coordinator.seat.opening.counts page 0) ≡ initial_count setup.pages =
        λ i page. first-same page i in
        let last : count_with h.crew.coordinator.seat h.seats ≡ (λ page. get_or counts page 0) =
        λ i page. last-same page i in
        sym (passing-same (covers page n))
        ∙ (subst (λ (f : ℕ → ℕ). AreTiles (initial_count setup.pages) f
        (posts_passing (posts setup plans notes e h))) last
        (subst (λ (f : ℕ → ℕ). AreTiles f (count_with h.crew.coordinator.seat h.seats)
        (posts_passing (posts setup plans notes e h))) first places.tiles)).tiled page n

  -- the calls of each worker are placed
  pub placed-are : HavePlaces (slice_index h.crew.coordinator.seat.opening.counts) (posts setup plans notes e h)
      → All (λ log. ArePlaced (initial_count setup.pages) (λ test. count_by test (all_noted e.logs.items))
      (calls_of (served setup plans notes e h) log.adds.items log.ran.items)) e.logs.items
  placed-are places worker d within =
      let log : WorkerLog = get_or e.logs.items worker d in
      let n = noted-at worker log (slice_get-get_or e.logs.items worker d within) in
      let all : Counting = posts_passing (posts setup plans notes e h) in
      let counts : ℕ → ℕ = λ page. get_or h.crew.coordinator.seat.opening.counts page 0 in
      let post : ArePlaced counts all (stretches_of n.0.worker.post.did) =
      at-post setup plans notes e h (λ p. ArePlaced counts all (stretches_of p.did)) places.each worker n.0 n.1.0 in
      let first : counts ≡ initial_count setup.pages = λ i page. first-same page i in
      let passing : all ≡ (λ test. count_by test (all_noted e.logs.items)) = λ i test. passing-same test i in
      let calls : List Addition = calls_of (known setup plans notes e h) log.adds.items log.ran.items in
      subst (λ (c : Counting). ArePlaced (initial_count setup.pages) c calls) passing
      (subst (λ (f : ℕ → ℕ). ArePlaced f all calls) first
      (subst (ArePlaced counts all) (sym n.1.1.calls) post))

  -- and lie in the order of phases
  pub stand-are : All (HaveBetween h.crew.coordinator.seat.opening.counts (posts_before (posts setup plans notes e h))
      h.crew.coordinator.seat.phase) (posts setup plans notes e h)
      → All (λ log. All
      (IsInTime (served setup plans notes e h) (entries_in e.logs.items))
      (calls_of (served setup plans notes e h) log.adds.items log.ran.items)) e.logs.items
  stand-are stand worker d within =
      let log : WorkerLog = get_or e.logs.items worker d in
      let n = noted-at worker log (slice_get-get_or e.logs.items worker d within) in
      let counts : List ℕ = h.crew.coordinator.seat.opening.counts in
      let last : ℕ = h.crew.coordinator.seat.phase in
      let before : ℕ → ℕ → ℕ = posts_before (posts setup plans notes e h) in
      let post : HaveBetween counts before last n.0.worker.post =
      at-post setup plans notes e h (HaveBetween counts before last) stand worker n.0 n.1.0 in
      subst (All (IsInTime (served setup plans notes e h) (entries_in e.logs.items)))
      (sym n.1.1.calls)
      (stand-noted (served setup plans notes e h) (entries_in e.logs.items) counts before last n.0.worker.post first-same
      (λ phase page. ap (λ k. initial_count setup.pages page + k) (all-before setup plans notes e h masks phase page)
      ∙ sym (count-before (served setup plans notes e h) e.logs.items page phase)) post)
