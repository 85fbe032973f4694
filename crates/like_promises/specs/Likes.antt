-- Likes and looks among entries: how many likes of a page, and which count a look shows.
use Rattle.std.specs.Prelude.{ℕ, ◌-◌, ◌==◌, Bool, false, List, length, filter, count_by, slice_get, Option, Some, None, option_and_then, sum_by}
use Rattle.std.specs.Option.{option_map_or}
use Rattle.like_requests.specs.Pages.{Page}
use Rattle.like_promises.specs.Store.{Ask, like, look}
use Rattle.like_promises.specs.{Asked.asked, Asked.asks, Types.Ran, Types.Reply, Types.Seen, Workload.Workload}

-- whether what is asked is a like of the page
abbrev pub is_like_of : ℕ → Ask → Bool
is_like_of page (like user liked) = liked == page
is_like_of page given = false

-- how many likes of the page entries ask for
abbrev pub likes_among : Workload → ℕ → List Ran → ℕ
likes_among workload page entries = count_by (is_like_of page) (asks workload entries)

-- how many do in all workers' run lists
abbrev pub likes : Workload → ℕ → List (List Ran) → ℕ
likes workload page runs = sum_by (likes_among workload page) runs

-- how many entries of this phase do
abbrev pub likes_within : Workload → ℕ → List Ran → ℕ → ℕ
likes_within workload page ran phase = count_by (is_like_of page) (asks workload (filter (λ e. e.phase == phase) ran))

-- the last element of a list, if there is one
abbrev pub last_in : {X : Type 0} → List X → Option X
last_in xs = slice_get xs (length xs - 1)

-- the initial count of a page
abbrev pub initial_count : List Page → ℕ → ℕ
initial_count pages page = option_map_or (λ p. p.count) (slice_get pages page) 0

-- the page of a look that is asked
abbrev pub page_asked : Ask → Option ℕ
page_asked (look user page) = Some page
page_asked _ = None

-- the page of the look that an entry ran, if it ran one
abbrev pub look_ran : Workload → Ran → Option ℕ
look_ran workload e = option_and_then page_asked (asked workload e.submitter e.number)

-- the count in a reply, and 0 where it has none
abbrev pub count_in : Reply → ℕ
count_in (Seen last count) = count
count_in _ = 0
