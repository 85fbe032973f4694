-- A worker that was just made.
use Rattle.std.specs.Prelude.{◌≡◌, ℕ, false, List, [], length, replicate, slice_get, Some, None}
use Rattle.like_limits.specs.Buckets.{run_factor}
use Rattle.like_requests.specs.{Pages.Page, Pages.marks_of, Types.Setup}
use Rattle.like_core.specs.{OpeningLimits.run_limits, Post.IsFresh, Types.Opening, Types.WorkerSeatView}
use Rattle.like_board.specs.Seats.{BoardId, seat_board, seat_view}
use Rattle.like_board.specs.declared.worker_seat.WorkerSeat.{WorkerSeat}
use Rattle.like_tables.specs.{Share.dealt, Share.share_of, UserTable.table_without_likes}
use Rattle.like_roles.specs.{declared.terms.Terms.Terms, worker.Posted.PostedWorker, worker.WorkerView.WorkerView}

-- a board of a run with these pages, where page i has bucket i
pub record IsBoardOf (pages : List Page) (z : Opening) : Type 0 where
  pub marks : z.marks ≡ marks_of pages
  pub limits : z.limits ≡ run_limits
  pub factor : z.factor ≡ run_factor

-- the post is that worker's, at a board of a run with these pages, and no call was made on it
pub record IsPostOf (worker : ℕ) (pages : List Page) (post : WorkerSeatView) : Type 0 where
  pub is_his : post.worker ≡ worker
  pub opening : IsBoardOf pages post.opening
  pub fresh : IsFresh post

-- the seats of all workers at a board with these pages, in order; no call was made on them
abbrev pub AreNewSeats : BoardId → List Page → List WorkerSeat → Type 0
AreNewSeats board pages seats =
    (worker : ℕ) (seat : WorkerSeat) → slice_get seats worker ≡ Some seat
    → (seat_board seat ≡ board) × IsPostOf worker pages (seat_view seat)

-- a worker of a run on these terms that has done nothing yet
pub record IsNew (s : Setup) (terms : Terms) (worker : ℕ) (post : WorkerSeatView) (v : WorkerView) : Type 0 where
  pub at_post : v.post ≡ post
  pub stash : v.stash ≡ record { looks = []; capacity = s.stash }
  pub slice : v.slice ≡ replicate (length s.pages) 0
  pub sliced : v.sliced ≡ []
  pub left : v.left ≡ dealt s.workers worker terms.sizes.now
  pub ended : v.ended ≡ replicate (length v.left) false
  pub cursor : v.cursor ≡ 0
  pub pending : v.pending ≡ None
  pub last : v.last ≡ table_without_likes (share_of s.users (length terms.sizes.now) s.workers worker)
  pub taken : v.taken ≡ []
  pub ran : v.ran ≡ []
  pub notes_are : v.notes ≡ terms.notes
  pub adds : v.adds ≡ []

-- a new worker at a post of a board with these numbers
pub record IsNewAt (s : Setup) (terms : Terms) (worker : ℕ) (board : List ℕ) (post : WorkerSeatView)
    (v : PostedWorker) : Type 0 where
  pub at_board : v.board ≡ board
  pub new : IsNew s terms worker post v.worker
