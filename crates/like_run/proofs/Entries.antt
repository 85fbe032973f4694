-- Entries that a crew can make.
use Rattle.std.proofs.Common.{◌<◌, ℕ, Bool, List, length, arith}
use Rattle.std.specs.List.{AllZip}
use Rattle.like_requests.specs.declared.request.Request.{Request}
use Rattle.like_requests.specs.declared.setup.Setup.{Setup}
use Rattle.like_requests.specs.declared.script.Turned.{Turned}
use Rattle.like_requests.specs.declared.script.Turned.TheVariants.{OpenOne, Worker, Coordinator}
use Rattle.like_requests.specs.Script.{IsInRun}
use Rattle.like_promises.specs.Workload.{workload_of}
use Rattle.like_crew.specs.Crew.{CrewView, IsCrewAt}
use Rattle.like_crew.specs.Server.{ServerGoesOn, ServerView}
use Rattle.like_crew.proofs.Coordinated.{inbox-later}
use Rattle.like_crew.proofs.Ending.{as-many, has-inbox}
use Rattle.like_crew.proofs.lists.Pairs.{pairs-length}
use Rattle.like_run.specs.Rounds.{CanMake}

-- an entry whose submitter or worker is there can be made
pub can-make : (setup : Setup) (plans : List (List Request)) (board : List ℕ) (notes : Bool) (c : CrewView)
    (entry : Turned)
    → IsCrewAt setup plans board notes c
    → 0 < setup.workers
    → IsInRun setup.workers (length plans) entry
    → CanMake c.servers entry
can-make setup plans board notes c (OpenOne submitter) is some there =
    has-inbox (workload_of setup plans) setup.workers board notes c.servers submitter is.servers some there
can-make setup plans board notes c (Worker worker) is some there =
    omega (arith, there, as-many (workload_of setup plans) setup.workers board notes c.servers is.servers)
can-make setup plans board notes c Coordinator is some there = tt

-- an entry that can be made can be made later
pub can-make-later : (ss ts : List ServerView) (entry : Turned)
    → AllZip ServerGoesOn ss ts
    → CanMake ss entry
    → CanMake ts entry
can-make-later ss ts (OpenOne submitter) all can = inbox-later ss ts submitter all can
can-make-later ss ts (Worker worker) all can = omega (arith, can, pairs-length ServerGoesOn ss ts all)
can-make-later ss ts Coordinator all can = tt
