-- The crew of a run, later.
use Rattle.std.proofs.Common.{◌≡◌, ℕ, ◌+◌, ◌*◌, ◌/◌, ◌%◌, ◌<◌, Bool, List, [], length, get_or, slice_get, Some, sym, ap, ◌∙◌, subst, arith, zero-add}
use Rattle.std.specs.List.{AllZip, range_with_len}
use Rattle.std.proofs.Math.Nat.{div-add-mod}
use Rattle.std.proofs.lemmas.List.{length-map}
use Rattle.std.proofs.lemmas.List.FromFn.{length-range_with_len}
use Rattle.std.proofs.lemmas.Option.{slice_get-get_or, slice_get_within}
use Rattle.like_tables.specs.Share.{Share, rank_of}
use Rattle.like_promises.specs.Workload.{Workload, submitters, workload_of}
use Rattle.like_crew.specs.Crew.{CrewView, GoesOn, HasInbox, IsCrewAt}
use Rattle.like_requests.specs.declared.request.Request.{Request}
use Rattle.like_requests.specs.declared.setup.Setup.{Setup}
use Rattle.like_crew.specs.Servers.{AreServers, IsServer}
use Rattle.like_crew.specs.Server.{ServerGoesOn, ServerView, plans_of}
use Rattle.like_crew.proofs.servers.Shares.{plan-at}
use Rattle.like_crew.proofs.lists.Pairs.{pairs-at, pairs-both, pairs-length}

-- the servers of a run, later
servers-later : (workload : Workload) (workers : ℕ) (board : List ℕ) (notes : Bool) (ss ts : List ServerView)
    → AreServers workload workers board notes ss
    → AllZip ServerGoesOn ss ts
    → AreServers workload workers board notes ts
servers-later workload workers board notes ss ts are later =
    pairs-both (IsServer workload workers board notes) ServerGoesOn (IsServer workload workers board notes)
    (range_with_len 0 workers) ss ts
    (λ worker s t is on. record {
      share = on.share ∙ is.share;
      whose = on.whose ∙ is.whose;
      board_is = on.board ∙ is.board_is;
      notes_are = on.notes ∙ is.notes_are;
      works = λ hot. on.works (record workload { hot = hot }) (is.works hot);
    }) are later

-- there are as many servers as workers
pub as-many : (workload : Workload) (workers : ℕ) (board : List ℕ) (notes : Bool) (servers : List ServerView)
    → AreServers workload workers board notes servers
    → length servers ≡ workers
as-many workload workers board notes servers are =
    sym (pairs-length (IsServer workload workers board notes) (range_with_len 0 workers) servers are)
    ∙ length-range_with_len 0 workers

-- the server of a worker
pub server-at : (workload : Workload) (workers : ℕ) (board : List ℕ) (notes : Bool) (servers : List ServerView)
    (worker : ℕ) (s : ServerView)
    → slice_get servers worker ≡ Some s
    → AreServers workload workers board notes servers
    → IsServer workload workers board notes worker s
server-at workload workers board notes servers worker s at are =
    subst (λ n. IsServer workload workers board notes n s) (zero-add worker)
    (pairs-at (IsServer workload workers board notes) 0 workers servers worker s are at)

-- each submitter of the run has an inbox
pub has-inbox : (workload : Workload) (workers : ℕ) (board : List ℕ) (notes : Bool) (servers : List ServerView)
    (submitter : ℕ)
    → AreServers workload workers board notes servers
    → 0 < workers
    → submitter < submitters workload
    → HasInbox servers submitter
has-inbox workload workers board notes servers submitter are some there =
    let sized : workers ≡ length servers = sym (as-many workload workers board notes servers are) in (
      omega (arith, some, sized),
      λ s at.
          let worker : ℕ = submitter % length servers in
          let is : IsServer workload workers board notes worker s =
          server-at workload workers board notes servers worker s at are in
          let share : Share = s.worker.last.share in
          let by : share.workers ≡ length servers = ap (λ (x : Share). x.workers) is.share ∙ sized in
          let mine : share.worker ≡ worker = ap (λ (x : Share). x.worker) is.share in
          let place : ℕ = rank_of share.workers submitter in
          let whole : share.worker + share.workers * place ≡ submitter =
          by_place submitter share.worker share.workers (length servers) by mine in
          let plan : slice_get (plans_of s.inboxes) place ≡ slice_get workload.plans submitter =
          plan-at workload share.workers share.worker s.inboxes place (omega (arith, some, sized, by))
          (is.works workload.hot).plans ∙ ap (slice_get workload.plans) whole in
          let found : slice_get (plans_of s.inboxes) place ≡ Some (get_or workload.plans submitter []) =
          plan ∙ slice_get-get_or workload.plans submitter [] there in
          omega (
            arith,
            slice_get_within (plans_of s.inboxes) place (get_or workload.plans submitter []) found,
            length-map s.inboxes (λ i. i.plan),
          ),
    ) where
      by_place : (n w a b : ℕ) → a ≡ b → w ≡ n % b → w + a * (n / a) ≡ n
      by_place n w a b same mine =
          ap (λ x. w + x * (n / x)) same ∙ (let d : b * (n / b) + n % b ≡ n = div-add-mod n b in omega (arith, d, mine))

-- the crew of a run, later
pub crew-later : (setup : Setup) (plans : List (List Request)) (board : List ℕ) (notes : Bool) (c d : CrewView)
    → IsCrewAt setup plans board notes c
    → GoesOn c d
    → IsCrewAt setup plans board notes d
crew-later setup plans board notes c d is on = record {
  opening = on.coordinator.opening ∙ is.opening;
  turns = on.coordinator.turns ∙ is.turns;
  hot = on.coordinator.hot ∙ is.hot;
  servers = servers-later (workload_of setup plans) setup.workers board notes c.servers d.servers is.servers on.servers;
}
