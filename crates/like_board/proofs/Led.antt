-- What a board tells after steps of its coordinator's seat.
use Rattle.std.proofs.Common.{◌≡◌, [], ◌∷◌, refl, subst, ap, sym, ◌∙◌}
use mathlib.Core.Option.{some-injective, some-ne-none}
use Rattle.like_core.specs.declared.view.CoordSeatView.{CoordSeatView}
use Rattle.like_core.specs.declared.view.View.TheVariants.{Coord}
use Rattle.like_board.specs.Led.{BoardView, IsLedBy, led, owned, shared}
use Rattle.like_board.specs.Seats.{BoardId}

-- where the seat made no step, the board is the same
pub led-none : (b : BoardView) (board : BoardId) (c : CoordSeatView) → IsLedBy b board c → b ≡ led b c
led-none (shared here) board c at = refl
led-none (owned z []) board c at = refl
led-none (owned z (v ∷ views)) board c at = λ m. owned z (some-injective v (Coord c) at m ∷ views)

-- after two steps it is as after the last
pub led-on : (a b d : BoardView) (x y : CoordSeatView) → b ≡ led a x → d ≡ led b y → d ≡ led a y
led-on (shared here) b d x y one two = two ∙ ap (λ (t : BoardView). led t y) one
led-on (owned z []) b d x y one two = two ∙ ap (λ (t : BoardView). led t y) one
led-on (owned z (v ∷ views)) b d x y one two = two ∙ ap (λ (t : BoardView). led t y) one

-- its seat leads it on
pub leads-on : (a b : BoardView) (board now : BoardId) (c d : CoordSeatView)
    → IsLedBy a board c
    → now ≡ board
    → b ≡ led a d
    → IsLedBy b now d
leads-on (shared here) b board now c d at same is =
    subst (λ (t : BoardView). IsLedBy t now d) (sym is) (same ∙ at)
leads-on (owned z []) b board now c d at same is = absurd (some-ne-none (Coord c) (sym at))
leads-on (owned z (v ∷ views)) b board now c d at same is =
    subst (λ (t : BoardView). IsLedBy t now d) (sym is) refl
