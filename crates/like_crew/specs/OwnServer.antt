-- A worker at a board that its thread owns.
use Rattle.std.specs.Prelude.{ℕ}
use Rattle.like_crew.specs.Server.{ServerView}

-- the server, and the place of its seat at the board
pub record OwnServerView : Type 0 where
  pub server : ServerView
  pub place : ℕ
