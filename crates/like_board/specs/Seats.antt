-- Boards, seats and posts, as contracts see them: which board each is of, and what it knows.
use Rattle.std.specs.Prelude.{◌≡◌, ℕ, ◌<◌, ◌==◌, List, ◌∷◌, Some, slice_get, count_by}
use Rattle.atomic_table.specs.Seated.{TableId}
use Rattle.like_core.specs.{Post.fresh, Types.CoordSeatView, Types.Opening, Types.WorkerSeatView}
use Rattle.like_board.specs.Known.{coord_view_of, worker_view_of}
use Rattle.like_board.specs.declared.{board.Board.Board, post.PostAt.PostAt}
use Rattle.like_board.specs.declared.{coord_seat.CoordSeat.CoordSeat, worker_seat.WorkerSeat.WorkerSeat}

-- what tells a board from others
abbrev pub BoardId : Type 0
BoardId = TableId

-- which board it is
abbrev pub board_id : Board → TableId
board_id board = board.table.shared.table_id

-- the board of the coordinator's seat
abbrev pub coord_board : CoordSeat → TableId
coord_board seat = seat.access.table_id

-- what the coordinator's seat knows
abbrev pub coord_view : CoordSeat → CoordSeatView
coord_view seat = coord_view_of seat.access.me.0

-- the board of a worker's seat
abbrev pub seat_board : WorkerSeat → TableId
seat_board seat = seat.access.table_id

-- what a worker's seat knows
abbrev pub seat_view : WorkerSeat → WorkerSeatView
seat_view seat = worker_view_of seat.access.me.0

-- the board of a post
abbrev pub post_board : {B : Type 0} {held : _} → PostAt B held → TableId
post_board post = seat_board post.seat

-- what a post knows
abbrev pub post_view : {B : Type 0} {held : _} → PostAt B held → WorkerSeatView
post_view post = seat_view post.seat

-- the numbers that tell boards apart
abbrev pub board_numbers : TableId → List ℕ
board_numbers id =
    id.words ∷ id.slots ∷ id.views_name ∷ id.atom ∷ id.block ∷ id.offset ∷ id.slot_names

-- the numbers of a post's board
abbrev pub post_numbers : {B : Type 0} {held : _} → PostAt B held → List ℕ
post_numbers post = board_numbers (post_board post)

-- the seats of a board's workers, in order; none has made a step yet
abbrev pub AreFresh : TableId → Opening → List WorkerSeat → Type 0
AreFresh board z seats =
    (i : ℕ) (seat : WorkerSeat) → slice_get seats i ≡ Some seat
    → (seat_board seat ≡ board) × (seat_view seat ≡ fresh z i)

-- each worker's seat is in the list once
abbrev pub AreAll : ℕ → List WorkerSeat → Type 0
AreAll workers seats =
    (i : ℕ) → i < workers → count_by (λ seat. (seat_view seat).worker == i) seats ≡ 1
