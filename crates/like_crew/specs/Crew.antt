-- The crew of a run: the coordinator at its board, and the servers of the workers.
use Rattle.std.specs.Prelude.{◌≡◌, ◌<◌, ℕ, Bool, List, Some, length, map, slice_get, All}
use Rattle.std.specs.List.{AllZip}
use Rattle.like_requests.specs.Types.{Request, Setup}
use Rattle.like_core.specs.Types.{Gone}
use Rattle.like_board.specs.{Rule.opened_coord, Seats.BoardId, Seats.board_id, Seats.board_numbers}
use Rattle.like_tables.specs.Share.{rank_of, worker_of}
use Rattle.like_promises.specs.Workload.{workload_of}
use Rattle.like_roles.specs.coordinator.CoordTurns.{CoordinatorGoesOn, CoordinatorView, new_coordinator}
use Rattle.like_roles.specs.declared.terms.Terms.{Terms}
use Rattle.like_crew.specs.{Server.ServerGoesOn, Server.ServerView, Site.opening_of}
use Rattle.like_crew.specs.{Servers.AreNewServers, Servers.AreServers, declared.crew.Crew.Crew, declared.site.Site.Site}

-- the crew as contracts see it: the coordinator, and the servers of the workers in order
pub record CrewView : Type 0 where
  pub coordinator : CoordinatorView
  pub servers : List ServerView

-- the crew at a board that threads share
abbrev pub crew_of : {I : Type 0} → Crew I → CrewView
crew_of c = record { coordinator = c.coordinator; servers = c.servers.items }

-- the same crew, later
pub record GoesOn (c d : CrewView) : Type 0 where
  pub coordinator : CoordinatorGoesOn c.coordinator d.coordinator
  pub servers : AllZip ServerGoesOn c.servers d.servers

-- the crew of a run of these plans, whose posts are at a board with these numbers; the workers note their additions or
-- do not
pub record IsCrewAt (setup : Setup) (plans : List (List Request)) (board : List ℕ) (notes : Bool) (c : CrewView)
    : Type 0 where
  pub opening : c.coordinator.seat.opening ≡ opening_of setup
  pub turns : c.coordinator.turns ≡ setup.turns
  pub hot : c.coordinator.choice.hot ≡ setup.hot
  pub servers : AreServers (workload_of setup plans) setup.workers board notes c.servers

-- the crew of a run of these plans, at the board of this site
pub record IsCrew (setup : Setup) (plans : List (List Request)) (site : Site) (c : CrewView) : Type 0 where
  pub board : c.coordinator.board ≡ board_id site.board
  pub crew : IsCrewAt setup plans (board_numbers (board_id site.board)) site.notes c

-- the crew of a run of these plans, at some board
pub record IsCrewOf (setup : Setup) (plans : List (List Request)) (notes : Bool) (c : CrewView) : Type 0 where
  pub board : List ℕ
  pub at : IsCrewAt setup plans board notes c

-- a new crew of these settings and plans: its coordinator has made no turn, and its servers have done nothing
pub record IsNewCrew (setup : Setup) (plans : List (List Request)) (c : CrewView) : Type 0 where
  pub board : BoardId
  pub terms : Terms
  pub sizes : terms.sizes.now ≡ map length plans
  pub coordinator : c.coordinator ≡ new_coordinator board (opened_coord (opening_of setup)) setup.turns setup.hot
  pub servers : AreNewServers setup plans terms c.servers

-- among these servers a submitter has an inbox: its worker's server has it
abbrev pub HasInbox : List ServerView → ℕ → Type 0
HasInbox servers submitter = (0 < length servers)
    × ((s : ServerView) → slice_get servers (worker_of (length servers) submitter) ≡ Some s
    → rank_of s.worker.last.share.workers submitter < length s.inboxes)

-- the workers of these servers are gone
abbrev pub AreGone : List ServerView → Type 0
AreGone servers = All (λ s. s.worker.post.state ≡ Gone) servers
