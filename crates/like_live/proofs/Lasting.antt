-- A seat's users and their last likes, by rank.
use Rattle.std.proofs.Common.{◌≡◌, ℕ, ◌+◌, ◌*◌, ◌<◌, ◌≤◌, true, List, length, subst, arith}
use Rattle.like_tables.specs.Ranks.{AreLastsFrom}
use Rattle.like_tables.specs.Share.{owned_below, owns}
use Rattle.like_tables.specs.UserTable.{IsUserTable, UserTable}
use Rattle.like_tables.proofs.Walk.{IsAt-lone, IsAt-owned, IsAt-rank}
use Rattle.like_live.specs.Lasts.{AreLastsAt, user_at, users_of}
use Rattle.like_live.specs.LiveView.{LiveView}

-- the user at a rank of the seat is the seat's, and has so many of its users before it
at-rank : (t : UserTable) (rank : ℕ) → IsUserTable t → t.share.submitters ≡ t.share.workers → rank < t.room
    → (owns t.share (rank * t.share.workers + t.share.worker) ≡ true)
    × (owned_below t.share (rank * t.share.workers + t.share.worker) ≡ rank)
at-rank t rank lawful home less =
    let below : rank < owned_below t.share t.share.users = omega (arith, lawful.enough, less) in
    let at = IsAt-lone t.share lawful.lawful home rank below in
    subst
    (λ n. (owns t.share (rank * n + t.share.worker) ≡ true) × (owned_below t.share (rank * n + t.share.worker) ≡ rank))
    home (IsAt-owned t.share _ _ rank at below, IsAt-rank t.share _ _ rank at)

-- what a table writes are last likes of the seat's users
pub lasts-at : (v : LiveView) (from : ℕ) (row : List ℕ)
    → IsUserTable v.station.last
    → v.station.last.share.submitters ≡ v.station.last.share.workers
    → from + length row ≤ users_of v
    → AreLastsFrom v.station.last from row
    → AreLastsAt v from row
lasts-at v from row lawful home room lasts = record {
  users = λ i less. (at-rank v.station.last (from + i) lawful home (omega (arith, room, less))).0;
  lasts = λ i less.
      let here = at-rank v.station.last (from + i) lawful home (omega (arith, room, less)) in
      lasts (user_at v (from + i)) i here.0 here.1 less;
}
