-- Joined and split phases, and which pages are split in a phase.
use Rattle.std.specs.Prelude.{◌≡◌, ℕ, ◌%◌, ◌==◌, nat_lt, Bool, false, ◌&&◌, ◌||◌, List, slice_index_or}
use Rattle.like_limits.specs.Limits.{hot_pages}
use Rattle.like_core.specs.Functions.{has_bit}

-- the last phase of a run, and the greatest number in its phase word
abbrev pub last_phase : ℕ
last_phase = 16777214

-- an even phase is joined
abbrev pub IsJoined : ℕ → Type 0
IsJoined phase = phase % 2 ≡ 0

-- an odd phase is split
abbrev pub IsSplit : ℕ → Type 0
IsSplit phase = phase % 2 ≡ 1

-- whether a page is marked as split
abbrev pub is_marked : List Bool → ℕ → Bool
is_marked marks page = slice_index_or marks page false

-- whether a page is hot by a mask, where those below a bound may be: its bit is set
abbrev pub is_hot_by : ℕ → ℕ → ℕ → Bool
is_hot_by bound mask page = nat_lt page bound && has_bit mask page

-- whether a page is hot by a mask in a run, where the first 64 may be
abbrev pub is_hot : ℕ → ℕ → Bool
is_hot mask page = is_hot_by hot_pages mask page

-- whether a page is split in a phase, where those below a bound may be hot: `marked` says which pages are marked as
-- split, and `hot` is each phase's mask of hot pages
abbrev pub split_by : ℕ → (ℕ → Bool) → (ℕ → ℕ) → ℕ → ℕ → Bool
split_by bound marked hot phase page =
    (phase % 2 == 1) && (marked page || is_hot_by bound (hot phase) page)
