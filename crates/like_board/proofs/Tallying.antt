-- What the views have added, and may still add, after a step that adds nothing.
use Rattle.std.proofs.Common.{◌≡◌, ℕ, suc, ◌+◌, ◌-◌, ◌*◌, ◌<◌, List, [], ◌∷◌, ◌++◌, length, set, ap, ◌∙◌, arith}
use Rattle.std.proofs.Math.Nat.{mul-suc}
use Rattle.std.proofs.lemmas.List.Sums.{sum_by_push}
use mathlib.Core.Option.{some}
use lib.ListN.{get_elem?}
use Rattle.like_core.specs.declared.limits.Limits.{Limits}
use Rattle.like_core.specs.declared.opening.Opening.{Opening}
use Rattle.like_core.specs.declared.view.CoordSeatView.{CoordSeatView}
use Rattle.like_core.specs.declared.view.View.{View}
use Rattle.like_core.specs.declared.view.View.TheVariants.{Coord, Worker}
use Rattle.like_core.specs.core.State.{CoreState, Label}
use Rattle.like_core.specs.views.Views.{made_coord}
use Rattle.like_core.specs.views.Tallies.{Tallied, room}
use Rattle.like_core.proofs.views.ViewLists.{sum_set, sum_swap}
use Rattle.like_core.specs.Post.{fresh}

-- after a step that applies no like, with a new view that has the same additions
pub tallied_on : (l : Limits) (s t : CoreState) (views : List View) (place : ℕ) (a b : View)
    → ((page : ℕ) → t.applied page ≡ s.applied page)
    → get_elem? views place ≡ some a
    → ((page : ℕ) → room l page b ≡ room l page a)
    → Tallied l s views
    → Tallied l t (set views place b)
tallied_on l s t views place a b applied at same_rooms old = λ page.
    let sized = ap (λ (ls : List Label). length ls) (applied page) in
    let same = sum_set (room l page) views place a b at (same_rooms page) in
    let before = old page in
    omega arith

-- so much room has one more worker
room_of_one : (seats likes made : ℕ)
    → made < seats
    → likes * (seats - made) ≡ likes * (seats - (made + 1)) + likes
room_of_one seats likes made few =
    let rest : ℕ = seats - (made + 1) in
    let more : seats - made ≡ suc rest = omega arith in
    ap (λ k. likes * k) more ∙ mul-suc likes rest

-- after a worker's seat was made
pub tallied_made : (z : Opening) (s : CoreState) (views : List View) (place : ℕ) (c : CoordSeatView)
    → get_elem? views place ≡ some (Coord c)
    → c.made < z.limits.seats
    → Tallied z.limits s views
    → Tallied z.limits s (set views place (Coord (made_coord c)) ++ Worker (fresh z c.made) ∷ [])
tallied_made z s views place c at few old =
    let d : CoordSeatView = made_coord c in
    let new : View = Worker (fresh z c.made) in
    let changed : List View = set views place (Coord d) in
    λ page.
    let before = old page in
    let swap = sum_swap (room z.limits page) views place (Coord c) (Coord d) at in
    let more = sum_by_push (room z.limits page) changed new in
    let all : room z.limits page new ≡ z.limits.likes = omega arith in
    let one = room_of_one z.limits.seats z.limits.likes c.made few in
    omega arith
