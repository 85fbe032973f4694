-- A worker with the inboxes of its submitters.
use Rattle.std.specs.Prelude.{◌≡◌, ◌≢◌, ℕ, ◌+◌, ◌<◌, ◌≤◌, min, nat_lt, if◌then◌else◌, false, true, List, [], length, map, slice_get, slice_index, slice_index_or, All, AllPairs, IfSome, Option, Some, None}
use Rattle.std.specs.{List.range_with_len, Option.option_map_or}
use Rattle.like_requests.specs.{Setup.IsPlan, Setup.IsThere, Types.Request, Types.Setup}
use Rattle.like_core.specs.{PhaseMasks.AreMasksOf, Post.pages_of, Types.Gone, Types.Sight}
use Rattle.like_tables.specs.Share.{Share, dealt, rank_of, serves}
use Rattle.like_promises.specs.{Log.TakesPlans, Log.numbers_taken, Types.Took, Types.WorkerLog, Workload.Workload}
use Rattle.like_queue.specs.Inbox.{InboxView}
use Rattle.like_roles.specs.worker.{Follows.Follows, Follows.IsDone, WorkerView.WorkerView, WorkerView.phase_at}

-- the numbers that tell its board from others, the worker, the inboxes of its submitters by rank, and how many items of
-- each are open to it
pub record ServerView : Type 0 where
  pub board : List ℕ
  pub worker : WorkerView
  pub inboxes : List InboxView
  pub opened : List ℕ

-- the plans of inboxes
abbrev pub plans_of : List InboxView → List (List Request)
plans_of inboxes = map (λ i. i.plan) inboxes

-- the inbox of a plan from which nothing was taken
abbrev pub untouched : List Request → InboxView
untouched plan = record { plan = plan; taken = 0 }

-- nothing was taken from these inboxes
abbrev pub AreUntouched : List InboxView → Type 0
AreUntouched inboxes = All (λ i. i.taken ≡ 0) inboxes

-- how many requests were taken from an inbox, the end mark aside
abbrev pub requests_taken : InboxView → ℕ
requests_taken i = min i.taken (length i.plan)

-- the numbers of the requests that the inboxes have handed over from a submitter: 1, 2, .. as far as its inbox was taken,
-- and none of a submitter that another worker serves
abbrev pub numbers_given : Share → List InboxView → ℕ → List ℕ
numbers_given share inboxes submitter =
    if serves share submitter
    then range_with_len 1 (option_map_or requests_taken (slice_get inboxes (rank_of share.workers submitter)) 0)
    else []

-- what a worker keeps of the submitter with a rank agrees with its inbox: how many requests are left, and whether the
-- end mark was taken; and the pages of its plan are there
pub record AgreesAt (v : WorkerView) (place : ℕ) (i : InboxView) : Type 0 where
  pub left : slice_index v.left place + requests_taken i ≡ length i.plan
  pub ended : slice_index_or v.ended place true ≡ nat_lt (length i.plan) i.taken
  pub there : All (λ r. IsThere (pages_of v.post) r.page) i.plan

-- the inboxes have the plans of a worker's submitters
abbrev pub AreOwnPlans : Workload → ℕ → ℕ → List InboxView → Type 0
AreOwnPlans workload workers worker inboxes = plans_of inboxes ≡ dealt workers worker workload.plans

-- the masks that a server's worker read are those of the workload
abbrev pub ReadMasksOf : Workload → ServerView → Type 0
ReadMasksOf workload s = AreMasksOf workload.hot s.worker.post.masks

-- a server works for a workload: its inboxes have the plans of its submitters, and its worker does as they say, where
-- the masks that it read are the workload's
pub record WorksFor (workload : Workload) (s : ServerView) : Type 0 where
  pub plans : AreOwnPlans workload s.worker.last.share.workers s.worker.last.share.worker s.inboxes
  pub follows : ReadMasksOf workload s → Follows workload s.worker

-- nothing was taken in a phase above the one that was seen last
abbrev pub NoneAbove : Option Sight → List Took → Type 0
NoneAbove None taken = taken ≡ []
NoneAbove (Some sight) taken = All (λ t. t.phase ≤ sight.number) taken

-- a worker and its inboxes agree: it took from each submitter what the inbox handed over; and the phases in which it took
-- never fell, and none is above the phase that it saw last, which is the one that it runs or has answered; and it has
-- noted no addition that it does not note
pub record Agree (v : WorkerView) (inboxes : List InboxView) : Type 0 where
  pub is_worker : v.last.share.worker < v.last.share.workers
  pub lefts : length v.left ≡ length inboxes
  pub places : length v.ended ≡ length inboxes
  pub each : (place : ℕ) (i : InboxView) → slice_get inboxes place ≡ Some i → AgreesAt v place i
  pub taken : (submitter : ℕ) → numbers_taken submitter v.taken ≡ numbers_given v.last.share inboxes submitter
  pub rising : AllPairs (λ s t. s.phase ≤ t.phase) v.taken
  pub above : NoneAbove v.post.last v.taken
  pub present : v.post.state ≢ Gone → IfSome v.post.last (λ sight. sight.number ≡ phase_at v)
  pub unnoted : v.notes ≡ false → v.adds ≡ []

-- untouched inboxes for a worker's submitters, whose numbers of requests these are
pub record AreInboxesFor (s : Setup) (sizes : List ℕ) (worker : ℕ) (inboxes : List InboxView) : Type 0 where
  pub sized : map length (plans_of inboxes) ≡ dealt s.workers worker sizes
  pub untouched : AreUntouched inboxes
  pub plans : All (λ i. IsPlan s.pages i.plan) inboxes

-- the same server, later: at the same place of the same board, and at work for the same workloads; its worker notes its
-- additions if it did before
pub record ServerGoesOn (s t : ServerView) : Type 0 where
  pub share : t.worker.last.share ≡ s.worker.last.share
  pub notes : t.worker.notes ≡ s.worker.notes
  pub whose : t.worker.post.worker ≡ s.worker.post.worker
  pub board : t.board ≡ s.board
  pub inboxes : length t.inboxes ≡ length s.inboxes
  pub works : (workload : Workload) → WorksFor workload s → WorksFor workload t

-- a server leaves this log: it is what its worker took, ran and noted, in phases that never fall, and none above the one
-- that it saw last. For each workload that the server worked for and whose masks it read, the worker took the plans of its
-- submitters, and has done as they say
pub record IsLogOf (s : ServerView) (log : WorkerLog) : Type 0 where
  pub last : log.last ≡ s.worker.last
  pub taken : log.taken.items ≡ s.worker.taken
  pub ran : log.ran.items ≡ s.worker.ran
  pub adds : log.adds.items ≡ s.worker.adds
  pub unnoted : s.worker.notes ≡ false → log.adds.items ≡ []
  pub rising : AllPairs (λ s t. s.phase ≤ t.phase) log.taken.items
  pub above : NoneAbove s.worker.post.last log.taken.items
  pub each : (workload : Workload) → WorksFor workload s → ReadMasksOf workload s
      → TakesPlans workload s.worker.last.share.workers s.worker.last.share.worker s.worker.taken
      × IsDone workload s.worker
