-- How a share is kept: with a number for each submitter, and one more.
use Rattle.std.specs.Prelude.{◌≡◌, ℕ, ◌+◌, ◌^◌, ◌<◌, ◌≤◌, List, length, slice_index}
use Rattle.like_tables.specs.Share.{IsShare, Share, homes_below}

-- the numbers say how many of the submitters below each one the worker serves, and how many of all
pub record AreHomesBelow (share : Share) (homes : List ℕ) : Type 0 where
  pub lawful : IsShare share
  pub fits : share.submitters < 2 ^ 32
  pub few : share.users < 2 ^ 32
  pub enough : length homes ≡ share.submitters + 1
  pub below : (n : ℕ) → n ≤ share.submitters → slice_index homes n ≡ homes_below share n
