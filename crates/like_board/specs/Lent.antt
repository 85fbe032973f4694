-- What a post at a board that one thread owns is told by numbers: what all other seats know, its own place, and what its
-- own seat knew when the board was lent to it.
use Rattle.std.specs.Prelude.{◌≡◌, ℕ, ◌+◌, ◌≤◌, All, List, [], ◌∷◌, ◌++◌, drop, length, slice_set}
use base.Stored.{Coded, Gv, coded_list, coded_ℕ, coded×, gcons, gnil, gnum}
use lib.ListN.{get_elem?}
use mathlib.Core.Option.{Option, some}
use Rattle.like_core.specs.Types.{Coord, CoordSeatView, PageStep, Sight, Spent, View, WorkerSeatView}
use Rattle.like_core.specs.{PageSteps.likes_in, contracts.view.View.the_row, views.Places.count_after}

-- a value of the logic, written as numbers
unfoldable pub numbers_of : Gv → List ℕ
numbers_of gnil = 0 ∷ []
numbers_of (gnum n) = 1 ∷ n ∷ []
numbers_of (gcons a b) = 2 ∷ (numbers_of a ++ numbers_of b)

-- how views, a place and a view are stored
abbrev pub lent_code : Coded (List View × (ℕ × View))
lent_code = coded× (coded_list the_row.coded) (coded× coded_ℕ the_row.coded)

-- what all other seats know, the seat's place, and what it knew
abbrev pub lent_board : List View → ℕ → View → List ℕ
lent_board views place before = numbers_of (lent_code.code (slice_set views place Spent, (place, before)))

-- each step that a worker made at a page since its seat knew this found the page's count: the one when all seats knew
-- these, and what the worker had added since
abbrev pub HasFound : List View → WorkerSeatView → WorkerSeatView → Type 0
HasFound views before now =
    (c : CoordSeatView) (later earlier : List PageStep) (s : PageStep)
    → get_elem? views 0 ≡ some (Coord c) → now.did ≡ later ++ s ∷ earlier → length before.did ≤ length earlier
    → s.found + likes_in s.page before.did ≡ count_after c.opening.counts views s.page + likes_in s.page earlier

-- a sight shows the phase that the coordinator knows, who has the first seat, and whether it is ending
abbrev pub ShowsBy : Option View → Sight → Type 0
ShowsBy first sight =
    (c : CoordSeatView) → first ≡ some (Coord c) → (sight.number ≡ c.phase) × (sight.ending ≡ c.ending)

-- each look that a worker made since its seat knew this shows that
pub record HasLooked (first : Option View) (before now : WorkerSeatView) : Type 0 where
  pub more : length before.looks ≤ length now.looks
  pub fresh : All (λ look. ShowsBy first look.sight) (drop (length before.looks) now.looks)
