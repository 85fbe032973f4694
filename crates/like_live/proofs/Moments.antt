-- What a moment of a service's board tells of its seats.
use Rattle.std.proofs.Common.{◌≡◌, ℕ, ◌+◌, List, slice_index, ap, sym, ◌∙◌, subst, arith, get_or}
use Rattle.std.specs.List.{All}
use Rattle.like_core.specs.declared.opening.Opening.{Opening}
use Rattle.like_core.specs.declared.worker_state.WorkerState.{WorkerState}
use Rattle.like_core.specs.declared.worker_state.WorkerState.TheVariants as state
use Rattle.like_core.specs.Phase.{IsSplit}
use Rattle.like_core.specs.Post.{additions_of}
use Rattle.like_core.specs.WorkerState.{RunsSplit}
use Rattle.like_core.specs.core.Exclusive.{IsInPhase}
use Rattle.like_core.specs.core.State.{CoreState}
use Rattle.like_core.specs.views.Posts.{posts_added, posts_of}
use Rattle.like_core.proofs.views.Ordered.{all_fit}
use Rattle.like_core.specs.declared.view.WorkerSeatView.{WorkerSeatView}
use Rattle.like_seat.specs.StationView.{IsStation}
use Rattle.like_seat.proofs.Moments.{none_held, posts_are_exclusive}
use Rattle.like_live.specs.LiveView.{LiveView, tally}
use Rattle.like_live.specs.Moments.{LastCountsAreTallies, SeatsAreExclusive}
use Rattle.like_live.specs.Service.{HasMergedOnceGone}
use Rattle.like_core.proofs.Lists.{sum-of-map}
use Rattle.like_live.proofs.Closing.{all-of-map, post_at, sum-equal}

-- a worker that runs a split phase runs the present one
pub split-now : (z : Opening) (s : CoreState) (i : ℕ) (of : WorkerState)
    → IsInPhase z s
    → s.state i ≡ of
    → RunsSplit of
    → IsSplit s.phase
split-now z s i (state.Runs phase) p is runs = subst IsSplit (p.runs i phase is) runs
split-now z s i (state.Answered phase) p is runs = absurd runs
split-now z s i state.Gone p is runs = absurd runs

pub seats_are_exclusive : SeatsAreExclusive
seats_are_exclusive z m a b at_a at_b live =
    posts_are_exclusive z m a.station.post b.station.post b.station.slice at_a at_b live.split

-- a seat that is gone has added all its likes
merged-once-gone : (s : LiveView) → IsStation s.station → HasMergedOnceGone s
merged-once-gone s live gone page =
    let none = none_held s.station.post s.station.slice live.split (λ split. subst RunsSplit gone split) page in
    omega arith

pub last_counts_are_tallies : LastCountsAreTallies
last_counts_are_tallies z m seats at live gone page =
    let views = posts_of m.views in
    let IsGone : WorkerSeatView → Type 0 = λ p. p.state ≡ state.Gone in
    let all_gone : All IsGone views =
    (λ k d below. let fits = all_fit z m k d below in sym fits.state ∙ gone (get_or views k d).worker fits.there) in
    let are_gone : All (λ s. s.station.post.state ≡ state.Gone) seats =
    all-of-map IsGone post_at seats (subst (All IsGone) (sym at) all_gone) in
    let merged = sum-equal (λ s. tally s page) (λ (s : LiveView). additions_of s.station.post page) seats
    (λ k d below. merged-once-gone (get_or seats k d) (live k d below) (are_gone k d below) page) in
    ap (λ n. slice_index z.counts page + n)
    (ap (λ (posts : List WorkerSeatView). posts_added posts page) (sym at)
    ∙ sum-of-map (λ (p : WorkerSeatView). additions_of p page) post_at seats ∙ sym merged)
