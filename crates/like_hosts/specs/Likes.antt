-- The likes that a client was told.
use Rattle.std.specs.Prelude.{◌≡◌, ◌≢◌, ℕ, ◌+◌, ◌≤◌, List, Result, Ok, sum_by}
use Rattle.like_core.specs.Functions.{times}
use Rattle.like_live.specs.{History.pages_liked, Types.LikeAnswer, Types.Liked}
use Rattle.like_shared.specs.declared.{client.Client.Client, deed.SeatDeed.SeatDeed}
use Rattle.like_shared.specs.{Deeds.calls_of, Deeds.liked_by, Shared.seat_logs, declared.seat_call.Busy.Busy}

-- how many likes of a page for a user a deed was told
abbrev pub liked_for : ℕ → ℕ → SeatDeed → ℕ
liked_for user page d = times page (pages_liked user (calls_of d))

-- how many likes logs have, where `told` says how many a deed was told
abbrev pub likes_of : (SeatDeed → ℕ) → List (List SeatDeed) → ℕ
likes_of told logs = sum_by (λ log. sum_by told log) logs

-- how many likes of a page a client was told
abbrev pub likes_in : ℕ → Client → ℕ
likes_in page client = likes_of (liked_by page) (seat_logs client)

-- how many of them for a user
abbrev pub likes_for : ℕ → ℕ → Client → ℕ
likes_for user page client = likes_of (liked_for user page) (seat_logs client)

-- a client was told no like
pub record LikesNone (before after : Client) : Type 0 where
  pub pages : (page : ℕ) → likes_in page after ≡ likes_in page before
  pub each : (user page : ℕ) → likes_for user page after ≡ likes_for user page before

-- a client was told likes of this page alone, and for a user who is n times among these users, at most n
pub record LikesOnly (page : ℕ) (users : List ℕ) (before after : Client) : Type 0 where
  pub others : (p : ℕ) → p ≢ page → likes_in p after ≡ likes_in p before
  pub each : (user : ℕ) → likes_for user page after ≤ likes_for user page before + times user users

-- how many likes are counted by this answer to a like: one or none
abbrev pub counted : Result LikeAnswer Busy → ℕ
counted (Ok Liked) = 1
counted answer = 0
