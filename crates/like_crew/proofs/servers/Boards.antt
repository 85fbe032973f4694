-- A step of a worker and its inboxes, at the board of its post.
use Rattle.std.proofs.Common.{◌≡◌, ℕ, List, sym, subst}
use Rattle.like_core.specs.declared.view.WorkerSeatView.{WorkerSeatView}
use Rattle.like_queue.specs.Inbox.{InboxView}
use Rattle.like_crew.specs.declared.crew.serving.Serving.{Serving}
use Rattle.like_crew.specs.Server.{ServerView}
use Rattle.like_crew.specs.Serving.{server_at}

-- what it is at each board, it is at the one that the post kept
pub at-board : {I : Type 0} (view : I → InboxView) (opened : I → ℕ) (Step : ServerView → ServerView → Type 0)
    (before after : List ℕ) (p q : WorkerSeatView) (s t : Serving I) (first : ServerView)
    → server_at view opened before p s ≡ first
    → after ≡ before
    → ((board : List ℕ) → Step (server_at view opened board p s) (server_at view opened board q t))
    → Step first (server_at view opened after q t)
at-board view opened Step before after p q s t first is same step =
    subst (λ x. Step x (server_at view opened after q t)) is
    (subst (λ b. Step (server_at view opened before p s) (server_at view opened b q t)) (sym same) (step before))
