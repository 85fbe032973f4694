-- What a live seat tells of its users' last likes.
use Rattle.std.specs.Prelude.{◌≡◌, ◌≢◌, ℕ, ◌+◌, ◌*◌, ◌<◌, true, List, length, slice_index, MatchResult, Option, Result}
use Rattle.like_requests.specs.{Types.Accepted, Types.Verdict, Verdict.verdict_of}
use Rattle.like_tables.specs.{LastLike.page_or_none, Share.owns, UserTable.last_of}
use Rattle.like_live.specs.LiveView.{LiveView}

-- a user's last like is told: its page, if there is one; or why the user is refused
abbrev pub TellsLast : LiveView → ℕ → Result (Option ℕ) Verdict → Type 0
TellsLast v user answer =
    let share = v.station.last.share in
    let verdict = verdict_of share.users share.submitters share.worker user true in
    MatchResult answer
    (λ page. (verdict ≡ Accepted) × (page ≡ last_of v.station.last user))
    (λ why. (why ≢ Accepted) × (why ≡ verdict))

-- how many users a seat has
abbrev pub users_of : LiveView → ℕ
users_of v = v.station.last.room

-- the user with a rank at a seat: user i * seats + s has rank i at seat s
abbrev pub user_at : LiveView → ℕ → ℕ
user_at v rank = rank * v.station.last.share.workers + v.station.last.share.worker

-- a row has the last likes of a seat's users, from a rank on: of each the page, or `no_page`
pub record AreLastsAt (v : LiveView) (from : ℕ) (row : List ℕ) : Type 0 where
  pub users : (i : ℕ) → i < length row → owns v.station.last.share (user_at v (from + i)) ≡ true
  pub lasts : (i : ℕ) → i < length row
      → slice_index row i ≡ page_or_none (last_of v.station.last (user_at v (from + i)))
