-- How a table of users is kept: a last like for each user of the share, by rank.
use Rattle.std.specs.Prelude.{◌≡◌, ◌+◌, ◌<◌, ℕ, true, false, if◌then◌else◌, List, length, map, slice_index, slice_index_or, Option, None}
use Rattle.std.specs.List.{range_with_len}
use Rattle.like_tables.specs.UserTable.{UserTable, last_in, last_of}
use Rattle.like_tables.specs.{LastLike.page_or_none, Share.IsShare, Share.Share, Share.owned_below, Share.owns}

-- there are as many last likes as users of the share
pub record HoldsUsers (share : Share) (pages : List (Option ℕ)) : Type 0 where
  pub lawful : IsShare share
  pub enough : length pages ≡ owned_below share share.users

-- a user's last like: the page at the user's rank, which is how many of the share's users are below it
abbrev pub last_at : Share → List (Option ℕ) → ℕ → Option ℕ
last_at share pages user =
    if owns share user then slice_index_or pages (owned_below share user) None else None

-- the first ranks were written: to each user with such a rank its last like, and nothing to the users of other
-- workers
pub record IsGiven (share : Share) (pages was now : List (Option ℕ)) (ranks : ℕ) : Type 0 where
  pub len : length now ≡ length was
  pub own : (user : ℕ) → owns share user ≡ true → owned_below share user < ranks
      → slice_index_or now user None ≡ last_at share pages user
  pub others : (user : ℕ) → owns share user ≡ false
      → slice_index_or now user None ≡ slice_index_or was user None

-- the first ranks were filled from a list of last likes: each has the last like of the user whose rank it is
pub record AreTaken (share : Share) (lasts : List ℕ) (pages : List (Option ℕ)) (ranks : ℕ) : Type 0 where
  pub len : length pages ≡ owned_below share share.users
  pub own : (user : ℕ) → owns share user ≡ true → owned_below share user < ranks
      → slice_index_or pages (owned_below share user) None ≡ last_in lasts user

-- a row has the last likes of the users from a rank on: each page, or `no_page`
abbrev pub AreLastsFrom : UserTable → ℕ → List ℕ → Type 0
AreLastsFrom t from row =
    (user i : ℕ) → owns t.share user ≡ true → owned_below t.share user ≡ from + i → i < length row
    → slice_index row i ≡ page_or_none (last_of t user)

-- the table that last likes by rank make
abbrev pub table_of : Share → List (Option ℕ) → UserTable
table_of share pages = record {
  share = share;
  last = map (last_at share pages) (range_with_len 0 share.users);
  room = length pages;
}
