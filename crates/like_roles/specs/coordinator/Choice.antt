-- How the coordinator chooses hot pages: by how much the counts of pages rose since its last choice.
use Rattle.std.specs.Prelude.{◌≡◌, ℕ, ◌+◌, ◌-◌, ◌%◌, ◌<◌, ◌≤◌, ◌==◌, nat_lt, if◌then◌else◌, List, [], ◌∷◌, ◌++◌, filter, length, min, slice_index, All, Option, Some, None}
use Rattle.std.specs.{List.range_with_len, Option.option_map_or}
use Rattle.like_limits.specs.Limits.{hot_pages}
use Rattle.like_core.specs.views.Views.{published_coord, released_coord}
use Rattle.like_core.specs.{Phase.IsJoined, Phase.IsSplit, PhaseMasks.mask_of, Types.CoordSeatView, Types.PageCount}
use Rattle.like_seat.specs.Lead.{LeadView, counted_from, of_hot_pages, risen}
use Rattle.like_promises.specs.HotPages.{chosen_below, hot_by, max_chosen}
use Rattle.like_promises.specs.{Likes.last_in, Types.Chosen}

-- what the coordinator chooses by: how many likes make a page hot, if any do; the counts at its last choice of the pages
-- that may be hot; and the choices of some page, in order
pub record ChoiceView : Type 0 where
  pub hot : Option ℕ
  pub before : List ℕ
  pub chosen : List Chosen

-- what it begins with, where these are the pages' counts at the start
abbrev pub first_choice : Option ℕ → List ℕ → ChoiceView
first_choice hot counts = record { hot = hot; before = of_hot_pages counts; chosen = [] }

-- what the coordinator with this lead and these choices chooses by
abbrev pub choice_of : LeadView → List Chosen → ChoiceView
choice_of lead chosen = record { hot = lead.hot; before = lead.before; chosen = chosen }

-- the mask that is published: that one, as long as fewer than 1,024 choices were of some page
abbrev pub within_limit : List Chosen → ℕ → ℕ
within_limit chosen m = (if nat_lt (length chosen) max_chosen then m else 0)

-- the choices, with the one of this mask if that has some page
abbrev pub with_chosen : List Chosen → ℕ → ℕ → List Chosen
with_chosen chosen phase m =
    chosen ++ (if nat_lt 0 m then record { phase = phase; mask = m } ∷ [] else [])

-- the coordinator chooses the hot pages of the split phase that comes next and publishes them: none where none are to be
-- hot; else it reads the counts of the pages that may be, and chooses those whose counts rose enough
pub data Chooses (c : CoordSeatView) (v : ChoiceView) (d : CoordSeatView) (w : ChoiceView) : Type 0 where
  chooses_none : v.hot ≡ None → d ≡ published_coord c 0 → w ≡ v → Chooses c v d w
  chooses_risen : (least : ℕ) (counts : List ℕ) → v.hot ≡ Some least → length counts ≡ length v.before
      → (m : ℕ) → m ≡ within_limit v.chosen (risen least v.before counts)
      → d ≡ published_coord (counted_from c 0 counts) m
      → w ≡ record v { before = counts; chosen = with_chosen v.chosen (c.phase + 1) m }
      → Chooses c v d w

-- the coordinator releases the next phase: before a split one it chooses that phase's hot pages
pub data ReleasesNext (c : CoordSeatView) (v : ChoiceView) (d : CoordSeatView) (w : ChoiceView) : Type 0 where
  releases_split : IsJoined c.phase → (ready : CoordSeatView) → Chooses c v ready w
      → d ≡ released_coord ready → ReleasesNext c v d w
  releases_joined : IsSplit c.phase → d ≡ released_coord c → w ≡ v → ReleasesNext c v d w

-- each count that was read is the total of its page at the end of its phase
abbrev pub AreTotals : (ℕ → ℕ → ℕ) → List PageCount → Type 0
AreTotals total counted = All (λ r. r.count ≡ total r.phase r.page) counted

-- the joined phases before a phase
abbrev pub joined_before : ℕ → List ℕ
joined_before phase = filter (λ k. k % 2 == 0) (range_with_len 0 phase)

-- a page's total at the end of the last joined phase before this one; before any, its count at the start
abbrev pub total_before : List ℕ → (ℕ → ℕ → ℕ) → ℕ → ℕ → ℕ
total_before counts total phase page =
    option_map_or (λ k. total k page) (last_in (joined_before phase)) (slice_index counts page)

-- how many likes a page got before a split phase: its total at the end of the joined phase before it, less its total
-- before that joined phase
abbrev pub likes_counted : List ℕ → (ℕ → ℕ → ℕ) → ℕ → ℕ → ℕ
likes_counted counts total phase page =
    total (phase - 1) page - total_before counts total (phase - 1) page

-- what was chosen and released, if these are the totals: each phase has the mask of the pages that got enough likes,
-- each choice of some page is noted, and the counts that are kept are the totals before the present phase
pub record HasChosen (c : CoordSeatView) (v : ChoiceView) (total : ℕ → ℕ → ℕ) : Type 0 where
  pub masks : let got = likes_counted c.opening.counts total in
      (phase : ℕ) → phase ≤ c.phase
      → mask_of c.masks phase ≡ hot_by v.hot (length c.opening.counts) got phase
  pub chosen : let got = likes_counted c.opening.counts total in
      v.chosen ≡ chosen_below (hot_by v.hot (length c.opening.counts) got) (c.phase + 1)
  pub sized : length v.before ≡ min hot_pages (length c.opening.counts)
  pub before : (least : ℕ) → v.hot ≡ Some least → (page : ℕ) → page < length v.before
      → slice_index v.before page ≡ total_before c.opening.counts total c.phase page
