-- Fresh looks: each shows what is so at that moment.
use Rattle.std.specs.Prelude.{◌≡◌, ◌≢◌, ◌↔◌, ℕ, Bool, true, List, ◌∷◌, map, slice_get, Some, All, IsSomeAnd}
use Rattle.like_core.specs.Types.{Coord, CoordSeatView, CoordSight, Gone, View, Worker}
use Rattle.like_core.specs.WorkerState.{IsIn}
use Rattle.like_ending.specs.FreshTurns.{FreshTurns}
use Rattle.like_queue.specs.Inbox.{InboxView, item_count}
use Rattle.like_crew.specs.{Progress.progress_of, Server.ServerView}

-- what all seats know: the coordinator's, and then each server's
abbrev pub views_with : CoordSeatView → List ServerView → List View
views_with c servers = Coord c ∷ map (λ s. Worker s.worker.post) servers

-- the look of a worker's turn shows this phase, and whether it is ending. A worker that is gone doesn't look
abbrev pub LooksFresh : ℕ → Bool → ServerView → ServerView → Type 0
LooksFresh phase ending s t =
    s.worker.post.state ≢ Gone
    → IsSomeAnd t.worker.post.last (λ sight. (sight.number ≡ phase) × (sight.ending ≡ ending))

-- the coordinator sees in this phase who of these workers is in, and who is gone
pub record ShowsWorkers (phase : ℕ) (servers : List ServerView) (sight : CoordSight) : Type 0 where
  pub all_in : (sight.all_in ≡ true) ↔ All (λ s. IsIn phase s.worker.post.state) servers
  pub all_gone : (sight.all_gone ≡ true) ↔ All (λ s. s.worker.post.state ≡ Gone) servers

-- all items of a server's lists are open
abbrev pub AllOpen : ServerView → Type 0
AllOpen s =
    (place : ℕ) (inbox : InboxView) → slice_get s.inboxes place ≡ Some inbox
    → slice_get s.opened place ≡ Some (item_count inbox.plan)

-- where its look is fresh, a turn of a server is one of the model's, with all lists open if they are
abbrev pub IsModelled : ServerView → ServerView → Type 0
IsModelled s t =
    (all_open : Bool) (phase : ℕ) (ending : Bool) → (all_open ≡ true → AllOpen s) → LooksFresh phase ending s t
    → FreshTurns all_open phase ending (progress_of s) (progress_of t)
