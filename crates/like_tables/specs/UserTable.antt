-- The last likes of the users that a worker serves.
use Rattle.std.specs.Prelude.{◌≡◌, ◌⊎◌, ℕ, false, if◌then◌else◌, List, [], length, map, replicate, slice_index_or, slice_set, Option, Some, None}
use Rattle.std.specs.List.{range_with_len}
use Rattle.like_tables.specs.LastLike.{no_page, page_in}
use Rattle.like_tables.specs.Share.{IsShare, Share, owned_below, owns}

-- the worker's share of the users; the page of each one's last like, if any; and how many users there is room for
pub record UserTable : Type 0 where
  pub share : Share
  pub last : List (Option ℕ)
  pub room : ℕ

-- what is true of every table: it has an entry for each user, and room for those of the share alone
pub record IsUserTable (t : UserTable) : Type 0 where
  pub lawful : IsShare t.share
  pub users : length t.last ≡ t.share.users
  pub others : (user : ℕ) → owns t.share user ≡ false → slice_index_or t.last user None ≡ None
  pub enough : t.room ≡ owned_below t.share t.share.users

-- the page of a user's last like, if any
abbrev pub last_of : UserTable → ℕ → Option ℕ
last_of t user = slice_index_or t.last user None

-- the user's last like is of this page, and all else is the same
abbrev pub with_last : UserTable → ℕ → ℕ → UserTable
with_last t user page = record t { last = slice_set t.last user (Some page) }

-- a list of last likes is empty, or has one for each user
abbrev pub IsForUsers : ℕ → List ℕ → Type 0
IsForUsers users lasts = (lasts ≡ []) ⊎ (length lasts ≡ users)

-- the page that a list of last likes has for a user, if any
abbrev pub last_in : List ℕ → ℕ → Option ℕ
last_in lasts user = page_in (slice_index_or lasts user no_page)

-- the table of a share in which each of its users has the last like of a list
abbrev pub table_with_lasts : Share → List ℕ → UserTable
table_with_lasts share lasts = record {
  share = share;
  last = map (λ user. if owns share user then last_in lasts user else None) (range_with_len 0 share.users);
  room = owned_below share share.users;
}

-- the table of a share in which no user has liked a page
abbrev pub table_without_likes : Share → UserTable
table_without_likes share = record {
  share = share;
  last = replicate share.users None;
  room = owned_below share share.users;
}
