-- Which users have their home at one seat of a service, and how they are found without a division.
use Rattle.std.specs.Prelude.{◌≡◌, ℕ, ◌+◌, ◌*◌, ◌/◌, ◌%◌, ◌^◌, ◌<◌}
use Rattle.like_tables.specs.Share.{Share}

-- how many seats there are, and the number of one of them
pub record Home : Type 0 where
  pub seats : ℕ
  pub seat : ℕ

-- the seat with these numbers
abbrev pub home_of : ℕ → ℕ → Home
home_of seats seat = record { seats = seats; seat = seat }

-- the user has its home at the seat
abbrev pub IsAtHome : Home → ℕ → Type 0
IsAtHome h user = user % h.seats ≡ h.seat

-- the user with a rank at the seat
abbrev pub user_at : Home → ℕ → ℕ
user_at h rank = rank * h.seats + h.seat

-- the number of seats without its factors of two; `turn` is how many there are
abbrev pub odd_part : ℕ → ℕ → ℕ
odd_part seats turn = seats / 2 ^ turn

-- 2 ^ turn divides the number of seats, and modulo 2 ^ 32 the inverse is the quotient's
pub record IsTurned (h : Home) (inverse turn : ℕ) : Type 0 where
  pub there : h.seat < h.seats
  pub fits : h.seats < 2 ^ 32
  pub few : turn < 32
  pub whole : odd_part h.seats turn * 2 ^ turn ≡ h.seats
  pub undoes : odd_part h.seats turn * inverse % 2 ^ 32 ≡ 1

-- the share is the seat's: each seat is a worker, and serves the submitter with its number
pub record IsHomeOf (h : Home) (s : Share) : Type 0 where
  pub submitters : s.submitters ≡ h.seats
  pub workers : s.workers ≡ h.seats
  pub worker : s.worker ≡ h.seat
