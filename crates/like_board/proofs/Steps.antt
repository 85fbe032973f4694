-- A step of a seat is its move, where the words and the views show the state after it.
use Rattle.std.proofs.Common.{◌≡◌, ℕ, ◌≤◌, List, [], ◌++◌, fold, set, subst, sym}
use mathlib.Core.Option.{some}
use lib.ListN.{get_elem?}
use Rattle.like_core.specs.declared.event.Event.{Event}
use Rattle.like_core.specs.declared.log.LogEntry.{LogEntry}
use Rattle.like_core.specs.declared.shown.Shown.{Shown}
use Rattle.like_core.specs.declared.opening.Opening.{Opening}
use Rattle.like_core.specs.declared.view.View.{View}
use Rattle.like_core.specs.core.State.{CoreState, after}
use Rattle.like_core.specs.core.Moves.{Move, makes, Reached, after_move}
use Rattle.like_core.specs.views.Order.{IsOrder, SaysSame}
use Rattle.like_core.specs.views.Tallies.{Tallied, room}
use Rattle.like_core.specs.views.Shows.{Happen, IsStep, IsSteps, Shows, ShowsSome}
use Rattle.like_core.proofs.core.Moved.{moves_by_all, moves_on}
use Rattle.like_core.proofs.views.KeptOrder.{other_step_keeps_order}
use Rattle.like_board.proofs.worker.Moves.{moment_of}
use Rattle.like_board.proofs.Tallying.{tallied_on}

-- a step at which these events happen and then the move, which lead to the state t
pub steps : (z : Opening) (words : List ℕ) (views : List View) (place changed word : ℕ) (a b : View)
    (events : List Event) (move : Move) (shown : Shown) (entries : List LogEntry) (t : CoreState)
    → (some_state : ShowsSome z words views)
    → get_elem? views place ≡ some a
    → Happen z some_state.state events move shown
    → after_move z (fold (after z) some_state.state events) move ≡ t
    → Shows z t (set words changed word) (set views place b)
    → IsOrder z t (set views place b) (entries ++ some_state.log)
    → Tallied z.limits t (set views place b)
    → IsSteps z events move shown entries a b × ShowsSome z (set words changed word) (set views place b)
steps z words views place changed word a b events move shown entries t some_state at happen leads shows order tallied =
    let s : CoreState = some_state.state in
    let last : CoreState = after_move z (fold (after z) s events) move in
    let back : t ≡ last = sym {a = last} {b = t} leads in
    let reached : Reached z last =
    moves_on z (fold (after z) s events) move (moves_by_all z s events some_state.reachable happen.before) happen.permits
    in (
      record {
        moment = moment_of z words views some_state;
        place = place;
        mine = at;
        happen = happen;
        changed = changed;
        word = word;
        shows_after = subst (λ (u : CoreState). Shows z u (set words changed word) (set views place b))
            {x = t} {y = last} back shows;
        goes_on = subst (λ (u : CoreState). IsOrder z u (set views place b) (entries ++ some_state.log))
            {x = t} {y = last} back order;
      },
      record {
        state = t;
        reachable = subst (Reached z) {x = last} {y = t} leads reached;
        shows = shows;
        tallied = tallied;
        log = entries ++ some_state.log;
        order = order;
      },
    )

-- an event that applies no like and has no entry
pub steps_by : (z : Opening) (words : List ℕ) (views : List View) (place changed word : ℕ) (a b : View)
    (event : Event) (shown : Shown) (t : CoreState)
    → (some_state : ShowsSome z words views)
    → get_elem? views place ≡ some a
    → Happen z some_state.state [] (makes event) shown
    → after z some_state.state event ≡ t
    → Shows z t (set words changed word) (set views place b)
    → some_state.state.phase ≤ t.phase
    → ((page : ℕ) → t.applied page ≡ some_state.state.applied page)
    → SaysSame a b
    → ((page : ℕ) → room z.limits page b ≡ room z.limits page a)
    → IsStep z event shown a b × ShowsSome z (set words changed word) (set views place b)
steps_by z words views place changed word a b event shown t some_state at happen leads shows later applied same rooms =
    let s : CoreState = some_state.state in
    steps z words views place changed word a b [] (makes event) shown [] t some_state at happen leads shows
    (other_step_keeps_order z s t views some_state.log place a b at same later applied some_state.order)
    (tallied_on z.limits s t views place a b applied at rooms some_state.tallied)
