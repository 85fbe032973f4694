-- What a moment of a board tells of its posts.
use Rattle.std.proofs.Common.{◌≡◌, ℕ, List, slice_index, ◌∙◌, refl, inl, inr}
use Rattle.std.proofs.lemmas.Bool.{cases_eq}
use Rattle.like_core.specs.declared.opening.Opening.{Opening}
use Rattle.like_core.specs.declared.view.View.TheVariants.{Worker}
use Rattle.like_core.specs.declared.worker_state.WorkerState.{WorkerState}
use Rattle.like_core.specs.declared.worker_state.WorkerState.TheVariants as state
use Rattle.like_core.specs.Phase.{IsJoined, IsSplit}
use Rattle.like_core.specs.WorkerState.{RunsSome, RunsSplit}
use Rattle.like_core.specs.core.Exclusive.{NoneRunsSplit}
use Rattle.like_core.specs.core.State.{CoreState}
use Rattle.like_core.specs.views.Shows.{FitsWorker, Moment}
use Rattle.like_core.proofs.core.Moved.{reached_is_exclusive}
use Rattle.like_core.specs.declared.view.WorkerSeatView.{WorkerSeatView}
use Rattle.like_seat.specs.Moments.{IsPostAt, PostsAreExclusive}
use Rattle.like_seat.specs.StationView.{IsSliceInSplit}

-- a post's state is the one that the board's rule has of its worker
pub state_at : (z : Opening) (m : Moment z) (p : WorkerSeatView) (at : IsPostAt z m p)
    → m.shown.state.state p.worker ≡ p.state
state_at z m p at =
    let fits : FitsWorker z m.shown.state p = m.shown.shows.seats.each at.place (Worker p) at.there in
    fits.state

-- the phase that a worker runs
pub phase_run : (P : ℕ → Type 0) (of : WorkerState)
    → RunsSome P of
    → (phase : ℕ) × ((of ≡ state.Runs phase) × P phase)
phase_run P (state.Runs phase) runs = (phase, (refl, runs))
phase_run P (state.Answered phase) runs = absurd runs
phase_run P state.Gone runs = absurd runs

-- who runs no split phase has no like in its slice
pub none_held : (p : WorkerSeatView) (slice : List ℕ) → IsSliceInSplit p slice → ¬ RunsSplit p.state
    → (page : ℕ) → slice_index slice page ≡ 0
none_held p slice in_split apart page =
    elim (cases_eq (slice_index slice page) 0) [
      | inl none ↦ none
      | inr held ↦ absurd (apart (in_split page held).0)
    ]

pub posts_are_exclusive : PostsAreExclusive
posts_are_exclusive z m a b slice at_a at_b in_split joined =
    let s : CoreState = m.shown.state in
    let even = phase_run IsJoined a.state joined in
    let none : NoneRunsSplit s =
    ((reached_is_exclusive z s m.shown.reachable).0 a.worker even.0 (state_at z m a at_a ∙ even.1.0) even.1.1).1
    in
    let apart : ¬ RunsSplit b.state =
    λ split.
    (let odd = phase_run IsSplit b.state split in
    none b.worker odd.0 (state_at z m b at_b ∙ odd.1.0) odd.1.1)
    in
    (apart, none_held b slice in_split apart)
