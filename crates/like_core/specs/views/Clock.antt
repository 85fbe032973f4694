-- What the numbers of the log tell: an entry's is above all numbers before it; a later log continues an earlier one; and
-- phases agree with numbers.
use Rattle.std.specs.Prelude.{◌≡◌, ℕ, ◌<◌, All, Contains, List, ◌++◌, flat_map}
use Rattle.like_core.specs.Types.{Event, LogEntry, Logged, Opening, Shown, Worker, WorkerSeatView}
use Rattle.like_core.specs.views.{PostOrder.IsOrderOf, Posts.posts_of, Shows.IsEntry}
use Rattle.like_core.specs.{Log.entry_phase, Log.entry_worker, Post.number_of, core.Moves.Move}

-- all that these seats made, with the numbers that their views tell
abbrev pub all_logged : List WorkerSeatView → List Logged
all_logged posts = flat_map (λ v. v.logged) posts

-- the law of numbers: a step with an entry gets a number above all that any view had at its moment, those included that
-- were given back
abbrev pub NumbersRise : Type 0
NumbersRise =
    (z : Opening) (events : List Event) (move : Move) (shown : Shown) (entry : LogEntry) (v w : WorkerSeatView)
    → (step : IsEntry z events move shown entry (Worker v) (Worker w)) → entry_worker entry ≡ w.worker
    → All (λ e. e.number < number_of w) (all_logged (posts_of step.moment.views))

-- a seat goes on: it has all that it had, with the same numbers, and what it made since
pub record GoesOn (v w : WorkerSeatView) : Type 0 where
  pub worker : w.worker ≡ v.worker
  pub since : List Logged
  pub logged : w.logged ≡ since ++ v.logged

-- each of these seats goes on, as the later ones tell
abbrev pub AllGoOn : List WorkerSeatView → List WorkerSeatView → Type 0
AllGoOn posts later = All (λ v. (w : WorkerSeatView) × Contains later w × GoesOn v w) posts

-- the law of later orders: then the later log continues the earlier one
abbrev pub LaterOrdersContinue : Type 0
LaterOrdersContinue =
    (first : ℕ → ℕ) (phase next : ℕ) (posts later : List WorkerSeatView) (log more : List LogEntry)
    → IsOrderOf first phase posts log → IsOrderOf first next later more → AllGoOn posts later
    → (since : List LogEntry) × (more ≡ since ++ log)

-- the law of one log: what the seats know fixes the order
abbrev pub SeatsFixOrder : Type 0
SeatsFixOrder =
    (first : ℕ → ℕ) (phase next : ℕ) (posts : List WorkerSeatView) (log other : List LogEntry)
    → IsOrderOf first phase posts log → IsOrderOf first next posts other → other ≡ log

-- the law of phases: of two entries, of any seats, that of the earlier phase has the lesser number
abbrev pub PhasesKeepTime : Type 0
PhasesKeepTime =
    (first : ℕ → ℕ) (phase : ℕ) (posts : List WorkerSeatView) (log : List LogEntry) → IsOrderOf first phase posts log
    → (a b : Logged) → Contains (all_logged posts) a → Contains (all_logged posts) b
    → entry_phase a.entry < entry_phase b.entry → a.number < b.number
