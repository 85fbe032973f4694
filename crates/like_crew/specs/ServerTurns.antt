-- What a turn does to a server, and what it does to open the lists of its submitters.
use Rattle.std.specs.Prelude.{◌≡◌, ℕ, ◌+◌, ◌<◌, ◌≤◌, min, slice_get, slice_index, slice_set, Some, None}
use Rattle.like_requests.specs.Types.{Nothing, Taken}
use Rattle.like_tables.specs.Share.{rank_of}
use Rattle.like_queue.specs.Inbox.{HandsOver, InboxView, item_count}
use Rattle.like_roles.specs.declared.turn.Turn.{TheVariants.Try, Turn}
use Rattle.like_roles.specs.worker.{Turns.Gives, Turns.Turns, WorkerView.WorkerView}
use Rattle.like_crew.specs.{Fresh.AllOpen, Fresh.IsModelled, Server.ServerView}

-- the place of a submitter's inbox
abbrev pub rank_at : ServerView → ℕ → ℕ
rank_at s submitter = rank_of s.worker.last.share.workers submitter

-- a whole turn of a server: its worker's turn; if that tries a submitter, it is given what that inbox hands over, which
-- is nothing only if no more items of it are open than were taken
pub data ServerTurns (answer : Turn) (s t : ServerView) : Type 0 where
  tries_none : Turns s.worker answer t.worker → t.worker.pending ≡ None
      → t ≡ record s { worker = t.worker } → ServerTurns answer s t
  tries : (submitter : ℕ) (tried : WorkerView) (i j : InboxView) (took : Taken)
      → Turns s.worker (Try submitter) tried
      → slice_get s.inboxes (rank_at s submitter) ≡ Some i → HandsOver i took j
      → (took ≡ Nothing → slice_index s.opened (rank_at s submitter) ≤ i.taken)
      → Gives tried took answer t.worker
      → t ≡ record s { worker = t.worker; inboxes = slice_set s.inboxes (rank_at s submitter) j }
      → ServerTurns answer s t

-- a turn takes only what is open: of a list from which it takes, no more is taken then than is open
abbrev pub TakesOpen : ServerView → ServerView → Type 0
TakesOpen s t =
    (place : ℕ) (i j : InboxView) → slice_get s.inboxes place ≡ Some i → slice_get t.inboxes place ≡ Some j
    → i.taken < j.taken → j.taken ≤ slice_index s.opened place

-- a whole turn of a server with this answer, which is one of the model's where its look is fresh
pub record IsTurn (answer : Turn) (s t : ServerView) : Type 0 where
  pub whole : ServerTurns answer s t
  pub modelled : IsModelled s t

-- one item more of a submitter's list is open, if not all were
pub record OpensOne (submitter : ℕ) (s t : ServerView) : Type 0 where
  pub inbox : InboxView
  pub here : slice_get s.inboxes (rank_at s submitter) ≡ Some inbox
  pub more : let open_now = slice_index s.opened (rank_at s submitter) in
      t ≡ record s {
        opened = slice_set s.opened (rank_at s submitter) (min (open_now + 1) (item_count inbox.plan));
      }

-- all items of its lists are open
pub record OpensAll (s t : ServerView) : Type 0 where
  pub all : AllOpen t
  pub rest : t ≡ record s { opened = t.opened }
