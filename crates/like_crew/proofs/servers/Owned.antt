-- A server at a board that its thread owns: the board comes back, and its look is fresh.
use Rattle.std.proofs.Common.{◌≡◌, ℕ, [], ◌∷◌, length, drop, drop_at, refl, sym, ap, subst, ◌∙◌, arith}
use Rattle.std.specs.Option.{IsSomeAnd}
use Rattle.std.specs.List.{All}
use mathlib.Core.Option.{Option, some}
use Rattle.like_core.specs.declared.view.CoordSeatView.{CoordSeatView}
use Rattle.like_core.specs.declared.view.Look.{Look}
use Rattle.like_core.specs.declared.view.View.{View}
use Rattle.like_core.specs.declared.view.View.TheVariants.{Coord}
use Rattle.like_core.specs.PageSteps.{look_after}
use Rattle.like_board.specs.Lent.{HasLooked, ShowsBy}
use Rattle.like_roles.specs.declared.turn.Turn.{Turn}
use Rattle.like_crew.specs.Fresh.{LooksFresh}
use Rattle.like_crew.specs.Server.{ServerView}
use Rattle.like_crew.specs.ServerTurns.{ServerTurns}
use Rattle.like_crew.proofs.servers.Posts.{server-looks}

-- of one element each fact of all holds
of-one : {A : Type 0} (P : A → Type 0) (x : A) → All P (x ∷ []) → P x
of-one P x all = all 0 x (omega arith)

-- its look shows the phase as the coordinator knows it
pub lent-fresh : (answer : Turn) (first : Option View) (c : CoordSeatView) (s t : ServerView)
    → HasLooked first s.worker.post t.worker.post
    → first ≡ some (Coord c)
    → ServerTurns answer s t
    → LooksFresh c.phase c.ending s t
lent-fresh answer first c s t looked is turn here =
    let once = server-looks answer s t turn here in
    let before = s.worker.post.looks in
    let look : Look = look_after once.sight s.worker.post.did in
    let rest : drop (length before) t.worker.post.looks ≡ look ∷ [] =
    ap (drop (length before)) once.looks ∙ drop_at before (look ∷ []) (length before) refl in
    let shows : ShowsBy first once.sight =
    of-one (λ (k : Look). ShowsBy first k.sight) look
    (subst (All (λ (k : Look). ShowsBy first k.sight)) rest looked.fresh) in
    subst (λ o. IsSomeAnd o (λ sight. (sight.number ≡ c.phase) × (sight.ending ≡ c.ending))) (sym once.last) (shows c is)

-- what was lent by name came back
pub given-back : {A : Type 0} {n m : ℕ} {y : A} (P : A → Type 0) (given : (x : A) × (n ≡ m → x ≡ y)) → n ≡ m → P y
    → P given.0
given-back P given same h = subst P (sym (given.1 same)) h
