-- A user that a worker serves, with its rank among the worker's users.
use Rattle.std.specs.Prelude.{◌≡◌, ℕ, true, if◌then◌else◌, Option, Some, None}
use Rattle.like_tables.specs.{Share.Share, Share.owned_below, Share.owns, declared.ranked.Ranked.Ranked}

-- the user with its rank: how many of the share's users are below it
abbrev pub ranked_at : Share → ℕ → Ranked
ranked_at s user = record { user = user; rank = owned_below s user }

-- a user with its rank in its worker's table, if the user is the share's
abbrev pub ranked_in : Share → ℕ → Option Ranked
ranked_in s user = if owns s user then Some (ranked_at s user) else None

-- the user is the share's, and this is its rank
pub record IsRanked (s : Share) (p : Ranked) : Type 0 where
  pub owned : owns s p.user ≡ true
  pub rank_is : p.rank ≡ owned_below s p.user
