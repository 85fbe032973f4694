-- The plan of a worker's submitter.
use Rattle.std.proofs.Common.{◌≡◌, ℕ, ◌+◌, ◌*◌, ◌≤◌, List, [], ◌∷◌, map, slice_get, refl, ap, ◌∙◌}
use Rattle.like_requests.specs.declared.request.Request.{Request}
use Rattle.like_queue.specs.Inbox.{InboxView}
use Rattle.like_tables.proofs.Dealt.{get-dealt}
use Rattle.like_promises.specs.Workload.{Workload}
use Rattle.like_crew.specs.Server.{AreOwnPlans, plans_of, untouched}

-- the plan at a place
pub plan-at : (workload : Workload) (workers worker : ℕ) (inboxes : List InboxView) (place : ℕ)
    → 1 ≤ workers
    → AreOwnPlans workload workers worker inboxes
    → slice_get (plans_of inboxes) place ≡ slice_get workload.plans (worker + workers * place)
plan-at workload workers worker inboxes place some own =
    ap (λ xs. slice_get xs place) own ∙ get-dealt workers worker workload.plans place some

-- the plans of untouched inboxes
pub plans-untouched : (plans : List (List Request)) → plans_of (map untouched plans) ≡ plans
plans-untouched [] = refl
plans-untouched (plan ∷ more) = ap (λ ps. plan ∷ ps) (plans-untouched more)
