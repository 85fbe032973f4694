-- The turns of the coordinator, case by case.
use Rattle.std.specs.Prelude.{◌≡◌, ℕ, ◌-◌, ◌<◌, true, false, List, [], IsSomeAnd, Option}
use Rattle.like_core.specs.{Phase.IsJoined, Phase.IsSplit, Phase.last_phase, Types.CoordSeatView, Types.CoordSight}
use Rattle.like_core.specs.{views.Actions.Surveys, views.Views.announced_coord, views.Views.looked_coord}
use Rattle.like_board.specs.{Led.BoardView, Led.IsSightOf, Led.ShowsTold, Seats.BoardId}
use Rattle.like_seat.specs.Lead.{LeadView}
use Rattle.like_promises.specs.Types.{Chosen}
use Rattle.like_roles.specs.coordinator.Choice.{AreTotals, ChoiceView, HasChosen, ReleasesNext, choice_of, first_choice}
use Rattle.like_roles.specs.declared.coord_turn.CoordTurn.TheVariants.{Announced, Counted, Ended, Released, Stays}
use Rattle.like_roles.specs.declared.coord_turn.CoordTurn.TheVariants.{Waiting}
use Rattle.like_roles.specs.declared.coord_turn.CoordTurn.{CoordTurn}

-- the coordinator as contracts see it: its board; what its seat knows; how many turns it counts in each phase, and how
-- many of them the present phase has left; the phase of its last look; and what it chooses hot pages by
pub record CoordinatorView : Type 0 where
  pub board : BoardId
  pub seat : CoordSeatView
  pub turns : ℕ
  pub left : ℕ
  pub phase : ℕ
  pub choice : ChoiceView

-- the coordinator whose lead this is
abbrev pub coordinator_of : LeadView → ℕ → ℕ → ℕ → List Chosen → CoordinatorView
coordinator_of lead turns left phase chosen = record {
  board = lead.board;
  seat = lead.seat;
  turns = turns;
  left = left;
  phase = phase;
  choice = choice_of lead chosen;
}

-- a coordinator's seat has released no phase
pub record HasReleasedNone (seat : CoordSeatView) : Type 0 where
  pub phase : seat.phase ≡ 0
  pub masks : seat.masks ≡ []

-- the coordinator with this seat that has made no turn: it counts this many turns in each phase, and `hot` likes make a
-- page hot
abbrev pub new_coordinator : BoardId → CoordSeatView → ℕ → Option ℕ → CoordinatorView
new_coordinator board seat turns hot = record {
  board = board;
  seat = seat;
  turns = turns;
  left = turns;
  phase = 0;
  choice = first_choice hot seat.opening.counts;
}

-- the coordinator after a look at a word
abbrev pub surveyed : CoordinatorView → ℕ → CoordSight → CoordinatorView
surveyed v word sight = record v { seat = looked_coord v.seat word sight; phase = sight.number }

-- what the coordinator does after it saw this: the answer, and the coordinator after
pub data Acts (v : CoordinatorView) (sight : CoordSight) (answer : CoordTurn)
    (after : CoordinatorView) : Type 0 where
  ends : sight.all_gone ≡ true → answer ≡ Ended → after ≡ v → Acts v sight answer after
  counts : sight.all_gone ≡ false → sight.ending ≡ false → 0 < v.left
      → answer ≡ Counted → after ≡ record v { left = v.left - 1 } → Acts v sight answer after
  stays : sight.all_gone ≡ false → sight.ending ≡ false → v.left ≡ 0 → sight.number ≡ last_phase
      → answer ≡ Stays → after ≡ v → Acts v sight answer after
  announces : sight.all_gone ≡ false → sight.ending ≡ false → v.left ≡ 0 → sight.number < last_phase
      → answer ≡ Announced → after ≡ record v { seat = announced_coord v.seat }
      → Acts v sight answer after
  releases : sight.all_gone ≡ false → sight.ending ≡ true → sight.all_in ≡ true
      → (seat : CoordSeatView) (choice : ChoiceView) → ReleasesNext v.seat v.choice seat choice
      → answer ≡ Released → after ≡ record v { seat = seat; choice = choice; left = v.turns }
      → Acts v sight answer after
  waits : sight.all_gone ≡ false → sight.ending ≡ true → sight.all_in ≡ false
      → answer ≡ Waiting → after ≡ v → Acts v sight answer after

-- turn case of the coordinator: it looks, and does what the sight asks for; its answer, and the coordinator after
pub record CoordTurns (v : CoordinatorView) (answer : CoordTurn) (after : CoordinatorView)
    : Type 0 where
  pub word : ℕ
  pub sight : CoordSight
  pub shows : IsSightOf v.seat sight
  pub event : Surveys v.seat sight (looked_coord v.seat word sight)
  pub acts : Acts (surveyed v word sight) sight answer after

-- turn case of the coordinator at a board: where that tells what all its seats know, the look shows it
pub record TurnsAt (b : BoardView) (v : CoordinatorView) (answer : CoordTurn) (after : CoordinatorView) : Type 0 where
  pub turn : CoordTurns v answer after
  pub fresh : ShowsTold b v.seat.phase turn.sight

-- no split phase was released after a look showed all workers gone
abbrev pub IsBeforeEnd : CoordinatorView → Type 0
IsBeforeEnd v = IsSplit v.seat.phase → v.seat.gone ≡ false

-- its last look showed all workers gone, in a joined phase
pub record HasEndedJoined (v : CoordinatorView) : Type 0 where
  pub gone : IsSomeAnd v.seat.last (λ sight. sight.all_gone ≡ true)
  pub phase : v.phase ≡ v.seat.phase
  pub joined : IsJoined v.phase

-- it chose by the counts that it read
abbrev pub ChoseByCounts : CoordinatorView → Type 0
ChoseByCounts v =
    (total : ℕ → ℕ → ℕ) → AreTotals total v.seat.counted → HasChosen v.seat v.choice total

-- the same coordinator, later: of the same board, which opened in the same way, with the same number of turns in each
-- phase, and of likes that make a page hot
pub record CoordinatorGoesOn (v w : CoordinatorView) : Type 0 where
  pub board : w.board ≡ v.board
  pub opening : w.seat.opening ≡ v.seat.opening
  pub turns : w.turns ≡ v.turns
  pub hot : w.choice.hot ≡ v.choice.hot

-- what is true between two turns of a coordinator that began with its board: it released no split phase after all
-- workers were gone, and it chose by the counts that it read
pub record IsCoordinating (v : CoordinatorView) : Type 0 where
  pub before_end : IsBeforeEnd v
  pub chose : ChoseByCounts v
