-- The states that moves reach.
use Rattle.std.proofs.Common.{ℕ, List, [], ◌∷◌, ◌++◌, subst, ap, sym, ◌∙◌, refl, fold}
use Rattle.std.proofs.lemmas.List.Sums.{fold-append}
use Rattle.like_core.specs.declared.event.Event.{Event}
use Rattle.like_core.specs.declared.opening.Opening.{Opening}
use Rattle.like_core.specs.core.Table.{Permits}
use Rattle.like_core.specs.core.State.{CoreState, start, after, numbers}
use Rattle.like_core.specs.core.Reachable.{Reachable, PermitsAll}
use Rattle.like_core.specs.Functions.{MayAll}
use Rattle.like_core.specs.core.Moves.{Move, makes, comes_back, glances, LetsReturn, MayMove, MayReturn, NobodyReturns, Reached, after_move}
use Rattle.like_core.specs.core.Exclusive.{IsInPhase, AreExclusive}
use Rattle.like_core.proofs.core.InPhase.{exclusive, keeps_in_phase, return_in_phase, start_in_phase}
use Rattle.like_core.proofs.core.Reached.{MayAll-append, start_reached, goes_on_by}

-- the start is reached
pub moves_begin : (z : Opening) → Reached z (start z)
moves_begin z = record { moves = []; may = tt; reached = refl }

-- after one move more, the state is reached too
pub moves_on : (z : Opening) (s : CoreState) (move : Move)
    → Reached z s
    → MayMove z s move
    → Reached z (after_move z s move)
moves_on z s move r may = record {
  moves = r.moves ++ move ∷ [];
  may =
      MayAll-append (after_move z) (MayMove z) (start z) r.moves (move ∷ []) r.may
      (subst (λ (t : CoreState). MayAll (after_move z) (MayMove z) t (move ∷ [])) (sym r.reached) (may, tt));
  reached = fold-append (after_move z) (start z) r.moves (move ∷ []) ∙ ap (λ (t : CoreState). after_move z t move) r.reached;
}

-- after one permitted event more
pub moves_by : (z : Opening) (s : CoreState) (event : Event)
    → Reached z s
    → Permits (numbers z s) event
    → Reached z (after z s event)
moves_by z s event r may = moves_on z s (makes event) r may

-- after more of them
pub moves_by_all : (z : Opening) (s : CoreState) (events : List Event)
    → Reached z s
    → PermitsAll z s events
    → Reached z (fold (after z) s events)
moves_by_all z s [] r may = r
moves_by_all z s (event ∷ events) r may =
    moves_by_all z (after z s event) events (moves_by z s event r may.0) may.1

-- each move keeps the state in phase
move_in_phase : (z : Opening) (s : CoreState) (move : Move)
    → IsInPhase z s
    → MayMove z s move
    → IsInPhase z (after_move z s move)
move_in_phase z s (makes event) p may = keeps_in_phase z s event p may
move_in_phase z s (comes_back i) p may = return_in_phase z s i p may
move_in_phase z s (glances i page) p may = p

moves_in_phase : (z : Opening) (s : CoreState) (moves : List Move)
    → IsInPhase z s
    → MayAll (after_move z) (MayMove z) s moves
    → IsInPhase z (fold (after_move z) s moves)
moves_in_phase z s [] p may = p
moves_in_phase z s (move ∷ moves) p may =
    moves_in_phase z (after_move z s move) moves (move_in_phase z s move p may.0) may.1

-- every state that moves reach is in phase
pub moved_in_phase : (z : Opening) (s : CoreState) → Reached z s → IsInPhase z s
moved_in_phase z s r =
    subst (IsInPhase z) r.reached (moves_in_phase z (start z) r.moves (start_in_phase z) r.may)

-- so it is exclusive
pub reached_is_exclusive : AreExclusive Reached
reached_is_exclusive z s r = let p = moved_in_phase z s r in (exclusive z s p, p)

-- where nobody comes back, each move is an event or changes nothing
events_alone : (z : Opening) (s : CoreState) (moves : List Move)
    → ¬ LetsReturn z.limits
    → Reachable z s
    → MayAll (after_move z) (MayMove z) s moves
    → Reachable z (fold (after_move z) s moves)
events_alone z s [] nobody r may = r
events_alone z s (makes event ∷ moves) nobody r may =
    events_alone z (after z s event) moves nobody (goes_on_by z s event r may.0) may.1
events_alone z s (glances i page ∷ moves) nobody r may = events_alone z s moves nobody r may.1
events_alone z s (comes_back i ∷ moves) nobody r may = let back : MayReturn z s i = may.0 in absurd (nobody back.lets)

pub nobody_returns : NobodyReturns
nobody_returns z s = (
  λ r. subst (Reached z) r.reached (moves_by_all z (start z) r.events (moves_begin z) r.permitted),
  λ nobody r. subst (Reachable z) r.reached (events_alone z (start z) r.moves nobody (start_reached z) r.may),
)
