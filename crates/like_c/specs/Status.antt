-- The status of each answer. The numbers are those of likes.h.
use Rattle.std.specs.Prelude.{◌≡◌, ℕ, Bool, true, false, Option, Some, None, Result, Ok, Err}
use Rattle.like_requests.specs.Types.{Accepted, OtherHome, UnknownPage, UnknownUser, Verdict}
use Rattle.like_live.specs.Types.{DriverAnswer, DriverAnswer as drive, LikeAnswer, LikeAnswer as like, OpenError}
use Rattle.like_live.specs.Types.{OpenError as open_error, TurnAnswer, TurnAnswer as turn}

-- the version of likes.h
abbrev pub version : ℕ
version = 6

-- what is told, as likes.h names it
pub data Status : Type 0 where
  ok liked seen waits runs between no_room like_limit gone goes_on announced : Status
  not_all_in released ended counted no_moment not_ended all_taken glimpsed busy no_found : Status
  empty in_use no_memory unknown_user other_seat unknown_page unknown_op unknown_end wrong_range : Status
  wrong_reserved wrong_pages wrong_marks wrong_count wrong_seats wrong_users wrong_room wrong_hot : Status
  wrong_lasts open_client unknown_seat : Status

abbrev pub status : Status → ℕ
status ok = 0
status liked = 1
status seen = 2
status waits = 3
status runs = 4
status between = 5
status no_room = 6
status like_limit = 7
status gone = 8
status goes_on = 9
status announced = 10
status not_all_in = 11
status released = 12
status ended = 13
status counted = 14
status no_moment = 15
status not_ended = 16
status all_taken = 17
status glimpsed = 18
status busy = 19
status no_found = 20
status empty = 100
status in_use = 101
status no_memory = 102
status unknown_user = 103
status other_seat = 104
status unknown_page = 105
status unknown_op = 106
status unknown_end = 107
status wrong_range = 108
status wrong_reserved = 109
status wrong_pages = 110
status wrong_marks = 111
status wrong_count = 112
status wrong_seats = 113
status wrong_users = 114
status wrong_room = 115
status wrong_hot = 116
status wrong_lasts = 117
status open_client = 119
status unknown_seat = 1003

abbrev pub verdict_status : Verdict → ℕ
verdict_status Accepted = status ok
verdict_status UnknownUser = status unknown_user
verdict_status OtherHome = status other_seat
verdict_status UnknownPage = status unknown_page

abbrev pub like_status : LikeAnswer → ℕ
like_status like.Liked = status liked
like_status like.Between = status between
like_status (like.Refused verdict) = verdict_status verdict
like_status like.Full = status like_limit
like_status like.Gone = status gone

abbrev pub turn_status : TurnAnswer → ℕ
turn_status turn.Runs = status runs
turn_status turn.Between = status between
turn_status turn.Gone = status gone

abbrev pub driver_status : DriverAnswer → ℕ
driver_status drive.Running = status goes_on
driver_status drive.Announced = status announced
driver_status drive.Waiting = status not_all_in
driver_status drive.Released = status released
driver_status drive.Ended = status ended

-- a snapshot was taken in a phase, or not
abbrev pub snapshot_status : Option ℕ → ℕ
snapshot_status (Some phase) = status counted
snapshot_status None = status no_moment

-- last counts were written, or not
abbrev pub last_status : Bool → ℕ
last_status true = status counted
last_status false = status not_ended

-- last likes were written, or there are not so many users
abbrev pub lasts_status : Bool → ℕ
lasts_status true = status ok
lasts_status false = status wrong_range

abbrev pub open_status : OpenError → ℕ
open_status open_error.Memory = status no_memory
open_status open_error.Pages = status wrong_pages
open_status open_error.Marks = status wrong_marks
open_status open_error.Counts = status wrong_count
open_status open_error.Seats = status wrong_seats
open_status open_error.Users = status wrong_users
open_status open_error.Lasts = status wrong_lasts
open_status open_error.Room = status wrong_room
open_status open_error.Hot = status wrong_hot

-- of what has one answer: it is done
abbrev pub done_status : {A : Type 0} → A → ℕ
done_status answer = status ok

-- an answer is told by its status, or by the status that came in its place
abbrev pub HasStatus : {A : Type 0} → (A → ℕ) → ℕ → Result A ℕ → Type 0
HasStatus status_of result (Ok answer) = result ≡ status_of answer
HasStatus status_of result (Err why) = result ≡ why
