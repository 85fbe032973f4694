-- The servers of a run.
use Rattle.std.specs.Prelude.{◌≡◌, ℕ, Bool, List, length, map, replicate}
use Rattle.std.specs.List.{AllZip, range_with_len}
use Rattle.like_requests.specs.Types.{Request, Setup}
use Rattle.like_tables.specs.Share.{dealt, share_of}
use Rattle.like_promises.specs.Workload.{Workload, submitters}
use Rattle.like_roles.specs.{declared.terms.Terms.Terms, worker.New.IsNew, worker.New.IsPostOf}
use Rattle.like_crew.specs.Server.{ServerView, WorksFor, untouched}

-- the server of a worker of the run, at this board, which notes its additions or does not; it works for the run
-- whatever pages are hot
pub record IsServer (workload : Workload) (workers : ℕ) (board : List ℕ) (notes : Bool) (worker : ℕ)
    (s : ServerView) : Type 0 where
  pub share : s.worker.last.share ≡ share_of workload.users (submitters workload) workers worker
  pub whose : s.worker.post.worker ≡ worker
  pub board_is : s.board ≡ board
  pub notes_are : s.worker.notes ≡ notes
  pub works : (hot : ℕ → ℕ) → WorksFor (record workload { hot = hot }) s

-- the servers of all workers, in order
abbrev pub AreServers : Workload → ℕ → List ℕ → Bool → List ServerView → Type 0
AreServers workload workers board notes servers =
    AllZip (IsServer workload workers board notes) (range_with_len 0 workers) servers

-- a worker's server has done nothing yet: no call was made on its post, and its worker is new; its inboxes are those of
-- its submitters' plans, from which nothing was taken, and nothing of them is open
pub record IsNewServer (setup : Setup) (plans : List (List Request)) (terms : Terms) (worker : ℕ) (s : ServerView)
    : Type 0 where
  pub post : IsPostOf worker setup.pages s.worker.post
  pub new : IsNew setup terms worker s.worker.post s.worker
  pub inboxes : s.inboxes ≡ map untouched (dealt setup.workers worker plans)
  pub closed : s.opened ≡ replicate (length s.inboxes) 0

-- the servers of all workers, in order
abbrev pub AreNewServers : Setup → List (List Request) → Terms → List ServerView → Type 0
AreNewServers setup plans terms servers =
    AllZip (IsNewServer setup plans terms) (range_with_len 0 setup.workers) servers
