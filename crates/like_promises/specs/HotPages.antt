-- Which pages are hot in a split phase.
use Rattle.std.specs.Prelude.{ℕ, ◌%◌, ◌^◌, ◌==◌, nat_lt, nat_le, min, if◌then◌else◌, List, length, map, filter, Option, Some, None, sum_by}
use Rattle.std.specs.List.{range_with_len}
use Rattle.like_limits.specs.Limits.{hot_pages}
use Rattle.like_promises.specs.Types.{Chosen}

-- at most this many phases have hot pages
abbrev pub max_chosen : ℕ
max_chosen = 1024

-- the phases below this one that have pages by these masks, in order, each with its mask
abbrev pub chosen_below : (ℕ → ℕ) → ℕ → List Chosen
chosen_below masks phase =
    filter (λ c. nat_lt 0 c.mask)
    (map (λ k. record { phase = k; mask = masks k }) (range_with_len 0 phase))

-- the mask of those of the first 64 pages that got at least this many likes before a split phase; 0 in a joined one
abbrev pub liked_pages : ℕ → ℕ → (ℕ → ℕ → ℕ) → ℕ → ℕ
liked_pages least pages got phase =
    if phase % 2 == 1 then sum_by (λ page. if nat_le least (got phase page) then 2 ^ page else 0)
    (range_with_len 0 (min hot_pages pages)) else 0

-- the mask of a phase's hot pages: those that got enough likes before it, unless 1,024 earlier phases had some
abbrev pub hot_by : Option ℕ → ℕ → (ℕ → ℕ → ℕ) → ℕ → ℕ
hot_by None pages got phase = 0
hot_by (Some least) pages got phase =
    let liked = liked_pages least pages got in
    if nat_lt (length (chosen_below liked phase)) max_chosen then liked phase else 0
