-- What leads the phases of a board, and what each of its steps does to it.
use Rattle.std.specs.Prelude.{◌≡◌, ℕ, ◌+◌, ◌-◌, nat_le, if◌then◌else◌, Bool, true, List, [], ◌∷◌, length, map, min, take, slice_index, Option, Some, None}
use Rattle.std.specs.List.{range_with_len}
use Rattle.like_limits.specs.Limits.{hot_pages}
use Rattle.like_core.specs.Types.{Coord, CoordSeatView, CoordSight}
use Rattle.like_core.specs.views.Views.{SawAllIn, announced_coord, counted_coord, looked_coord, published_coord}
use Rattle.like_core.specs.views.Views.{released_coord}
use Rattle.like_core.specs.{Functions.has_bit, Functions.mask, Slots.IsChoice, Slots.mask_of_slots}
use Rattle.like_core.specs.{OpeningLimits.has_slots, Phase.IsJoined, views.Actions.Surveys, views.Shows.IsKnown}
use Rattle.like_board.specs.{Led.IsSightOf, Seats.BoardId}

-- its board; what its seat knows; how many likes make a page hot, if any do; and the counts at its last choice of the
-- pages that may be hot
pub record LeadView : Type 0 where
  pub board : BoardId
  pub seat : CoordSeatView
  pub hot : Option ℕ
  pub before : List ℕ

-- of the counts of all pages, those of the pages that may be hot
abbrev pub of_hot_pages : List ℕ → List ℕ
of_hot_pages counts = take (min hot_pages (length counts)) counts

-- one that has done nothing yet, with this seat, where these are the pages' counts
abbrev pub new_lead : BoardId → CoordSeatView → Option ℕ → List ℕ → LeadView
new_lead board seat hot counts =
    record { board = board; seat = seat; hot = hot; before = of_hot_pages counts }

-- after a look at a word
abbrev pub saw_word : LeadView → ℕ → CoordSight → LeadView
saw_word v word sight = record v { seat = looked_coord v.seat word sight }

-- a lead looks, and sees this: the look is the core's event, and there is a moment at which its seat knows this
pub record Sees (v : LeadView) (sight : CoordSight) (after : LeadView) : Type 0 where
  pub shows : IsSightOf v.seat sight
  pub event : Surveys v.seat sight after.seat
  pub saw : after ≡ saw_word v after.seat.word sight
  pub known : IsKnown v.seat.opening (Coord after.seat)

-- after an announcement
abbrev pub announced : LeadView → LeadView
announced v = record v { seat = announced_coord v.seat }

-- after it published a mask
abbrev pub published : LeadView → ℕ → LeadView
published v m = record v { seat = published_coord v.seat m }

-- after a release
abbrev pub released : LeadView → LeadView
released v = record v { seat = released_coord v.seat }

-- what the coordinator's seat knows after it read these counts, of the pages from this one on
abbrev pub counted_from : CoordSeatView → ℕ → List ℕ → CoordSeatView
counted_from c page [] = c
counted_from c page (count ∷ counts) = counted_from (counted_coord c page count) (page + 1) counts

-- after it read the counts of the pages from this one on, which were these
abbrev pub with_counts : LeadView → ℕ → List ℕ → LeadView
with_counts v from counts = record v { seat = counted_from v.seat from counts }

-- whether a page's count rose by at least this many
abbrev pub has_risen : ℕ → List ℕ → List ℕ → ℕ → Bool
has_risen least before counts page =
    nat_le least (slice_index counts page - slice_index before page)

-- the mask of the pages whose counts rose by at least this many
abbrev pub risen : ℕ → List ℕ → List ℕ → ℕ
risen least before counts = mask (has_risen least before counts) (length before)

-- a lead chooses the hot pages of the next split phase, and this is their mask: none if none are to be hot, else those
-- whose counts rose by enough, of the counts that it reads and keeps
pub data ChoosesRisen (v : LeadView) (m : ℕ) (after : LeadView) : Type 0 where
  none_asked : v.hot ≡ None → m ≡ 0 → after ≡ v → ChoosesRisen v m after
  those_risen : (least : ℕ) (counts : List ℕ) → v.hot ≡ Some least → length counts ≡ length v.before
      → m ≡ risen least v.before counts
      → after ≡ record v { seat = counted_from v.seat 0 counts; before = counts }
      → ChoosesRisen v m after

-- these pages may be put into slots, and this word may say which are in use: it saw all in, the phase is a joined one of
-- a service, and they are a lawful choice
pub record MayPublishChoice (c : CoordSeatView) (pages : List ℕ) (bits : ℕ) : Type 0 where
  pub all_in : SawAllIn c
  pub joined : IsJoined c.phase
  pub slotted : has_slots c.opening.limits ≡ true
  pub len : length pages ≡ hot_pages
  pub choice : IsChoice c.opening.factor (length c.opening.counts) (slice_index pages) bits

-- the slots after these pages were put into those that are in use
unfoldable pub slots_with : List ℕ → List ℕ → ℕ → List ℕ
slots_with slots pages bits =
    map (λ slot. slice_index (if has_bit bits slot then pages else slots) slot) (range_with_len 0 hot_pages)

-- after it put these pages into the slots in use, and published their mask
abbrev pub published_choice : LeadView → List ℕ → ℕ → LeadView
published_choice v pages bits = record v {
  seat = record v.seat {
    slots = slots_with v.seat.slots pages bits;
    published = Some (mask_of_slots (slice_index pages) bits hot_pages);
  };
}

-- its seat put pages into slots, which are these then
abbrev pub PutsPages : CoordSeatView → List ℕ → CoordSeatView → Type 0
PutsPages c slots after = after ≡ record c { slots = slots; published = after.published }
