-- A client's passes of seats.
use Rattle.std.specs.Prelude.{List, MatchBool}
use Rattle.told_lock.specs.Rights.{IsHolding, IsIdle, log_of, seen_of}
use Rattle.told_lock.specs.{Deeds.Named, declared.lock.Lock.Lock}
use Rattle.like_live.specs.LiveView.{LiveView}
use Rattle.like_shared.specs.declared.{deed.SeatDeed.SeatDeed, deed.SeatDeeds.SeatDeeds, seat_call.SeatPass.SeatPass}

-- a pass of this lock: it holds the seat, and has told all that was done, or it doesn't hold it
abbrev pub IsReady : Lock LiveView SeatDeed SeatDeeds → SeatPass → Type 0
IsReady lock p = MatchBool p.is_held ((v : LiveView) × IsHolding lock p.pass v v) (IsIdle lock p.pass)

-- its log
abbrev pub log_at : SeatPass → List SeatDeed
log_at p = log_of p.pass

-- what it has seen of the seat: the order of all deeds there, up to its last step
abbrev pub seen_at : SeatPass → Named SeatDeed
seen_at p = seen_of p.pass
