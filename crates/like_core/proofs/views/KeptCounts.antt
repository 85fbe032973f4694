-- What stands of the counts that the coordinator read is kept by each step.
use Rattle.std.proofs.Common.{◌≡◌, ℕ, ◌+◌, ◌≤◌, ◌==◌, List, All, get_or, slice_index, set, ap, sym, ◌∙◌, arith}
use mathlib.Core.Option.{some}
use lib.ListN.{get_elem?}
use Rattle.like_core.specs.declared.view.PageCount.{PageCount}
use Rattle.like_core.specs.declared.view.WorkerSeatView.{WorkerSeatView}
use Rattle.like_core.specs.declared.view.View.{View}
use Rattle.like_core.specs.declared.view.View.TheVariants.{Worker}
use Rattle.like_core.specs.PageSteps.{additions_among}
use Rattle.like_core.specs.WorkerState.{phase_of}
use Rattle.like_core.specs.views.Reads.{IsCounted}
use Rattle.like_core.specs.views.Posts.{posts_before, posts_of}
use Rattle.like_core.proofs.Between.{not_before}
use Rattle.like_core.proofs.core.Labels.{added_before-push}
use Rattle.like_core.proofs.views.ViewLists.{sum_set}
use Rattle.like_core.proofs.views.ViewSums.{before_in, before_posts}
use Rattle.like_core.specs.Post.{added}

-- a view that has added what the one before it had, in its place
pub same_before : (views : List View) (place : ℕ) (a b : View)
    → get_elem? views place ≡ some a
    → ((k p : ℕ) → before_in k p b ≡ before_in k p a)
    → (k p : ℕ)
    → posts_before (posts_of (set views place b)) k p ≡ posts_before (posts_of views) k p
same_before views place a b at same k p =
    sym (before_posts k p (set views place b)) ∙ sum_set (before_in k p) views place a b at (same k p)
    ∙ before_posts k p views

-- an addition counts for none before its phase, nor for one that is not later
pub addition_before : (views : List View) (place : ℕ) (v : WorkerSeatView) (page old n number k p : ℕ)
    → get_elem? views place ≡ some (Worker v)
    → k ≤ phase_of v.state
    → posts_before (posts_of (set views place (Worker (added v page old n number)))) k p ≡ posts_before (posts_of views) k p
addition_before views place v page old n number k p at past =
    let now : ℕ = phase_of v.state in
    let push = added_before-push (additions_among v.did) now page old n k p in
    let none = not_before now k n (page == p) past in
    sym (before_posts k p (set views place (Worker (added v page old n number))))
    ∙ sum_set (before_in k p) views place (Worker v) (Worker (added v page old n number)) at (omega arith)
    ∙ before_posts k p views

-- counts stay those up to their phases, where as much was added before
pub counted_on : (counts : List ℕ) (f g : ℕ → ℕ → ℕ) (rs : List PageCount)
    → All (λ r. g (r.phase + 1) r.page ≡ f (r.phase + 1) r.page) rs
    → All (IsCounted counts f) rs
    → All (IsCounted counts g) rs
counted_on counts f g rs same all = λ i d inside.
    let r : PageCount = get_or rs i d in
    all i d inside ∙ ap (λ (n : ℕ). slice_index counts r.page + n) (sym (same i d inside))

-- and where one view is replaced by one that has added as much
pub counted_same : (counts : List ℕ) (views : List View) (place : ℕ) (a b : View) (rs : List PageCount)
    → get_elem? views place ≡ some a
    → ((k p : ℕ) → before_in k p b ≡ before_in k p a)
    → All (IsCounted counts (posts_before (posts_of views))) rs
    → All (IsCounted counts (posts_before (posts_of (set views place b)))) rs
counted_same counts views place a b rs at same =
    counted_on counts (posts_before (posts_of views)) (posts_before (posts_of (set views place b))) rs
    (λ i d inside. let r : PageCount = get_or rs i d in same_before views place a b at same (r.phase + 1) r.page)
