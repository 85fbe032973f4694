-- A worker with its inboxes, at a post.
use Rattle.std.specs.Prelude.{◌≡◌, ℕ, List, map, None}
use Rattle.like_core.specs.Types.{WorkerSeatView}
use Rattle.like_queue.specs.Inbox.{Inbox, InboxView, view_of}
use Rattle.like_roles.specs.worker.Work.{IsReady, worker_at}
use Rattle.like_crew.specs.{Server.Agree, Server.ServerView, declared.crew.serving.Serving.Serving}

-- the server at a post of a board with these numbers, whose seat knows this; inboxes are seen so, and have so many items
-- open
abbrev pub server_at : {I : Type 0} → (I → InboxView) → (I → ℕ) → List ℕ → WorkerSeatView → Serving I → ServerView
server_at view opened board post s = record {
  board = board;
  worker = worker_at post s.work;
  inboxes = map view s.inboxes.items;
  opened = map opened s.inboxes.items;
}

-- the server of lists
abbrev pub lists_at : List ℕ → WorkerSeatView → Serving Inbox → ServerView
lists_at board post s = server_at view_of (λ i. i.opened) board post s

-- its work is that of such a post, and agrees with its inboxes; it tries no submitter
pub record IsServing {I : Type 0} (view : I → InboxView) (post : WorkerSeatView) (s : Serving I) : Type 0 where
  pub ready : IsReady post s.work
  pub untried : (worker_at post s.work).pending ≡ None
  pub workers : s.workers ≡ (worker_at post s.work).last.share.workers
  pub agree : Agree (worker_at post s.work) (map view s.inboxes.items)
