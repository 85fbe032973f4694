-- Sums over views, each with what one view adds to it; they are those over all posts.
use Rattle.std.proofs.Common.{◌≡◌, ℕ, ◌≤◌, ◌==◌, Bool, true, false, cond, List, [], ◌∷◌, count_by, refl, arith}
use Rattle.std.specs.List.{sum_by}
use Rattle.std.proofs.lemmas.List.Sums.{sum_by-append, sum_by-cons}
use Rattle.like_core.specs.declared.view.WorkerSeatView.{WorkerSeatView}
use Rattle.like_core.specs.declared.view.View.{View}
use Rattle.like_core.specs.declared.view.View.TheVariants.{Coord, Worker, Spent}
use Rattle.like_core.specs.declared.view.Addition.{Addition}
use Rattle.like_core.specs.Additions.{added_before, added_to, all_added}
use Rattle.like_core.specs.PageSteps.{additions_among}
use Rattle.like_core.specs.views.Posts.{posts_added, posts_before, posts_of, workers_of}
use Rattle.like_core.specs.views.Views.{seats_of}
use Rattle.like_core.proofs.views.ViewLists.{sum_mono}

-- no page has more than all additions together
pub added_to-le : (additions : List Addition) (page : ℕ) → added_to page additions ≤ all_added additions
added_to-le additions page =
    sum_mono (λ (a : Addition). cond (a.page == page) a.likes 0) (λ (a : Addition). a.likes) additions
    (λ a. some_or_none (a.page == page) a.likes)
  where
    some_or_none : (b : Bool) (n : ℕ) → cond b n 0 ≤ n
    some_or_none true n = omega arith
    some_or_none false n = omega arith

-- how much a view has added to a page: the coordinator's has what the seats that were given back to it added
abbrev pub paged : ℕ → View → ℕ
paged page (Coord c) = sum_by (λ v. added_to page (additions_among v.did)) c.joined
paged page (Worker v) = added_to page (additions_among v.did)
paged page Spent = 0

-- how much in the phases before one
abbrev pub before_in : ℕ → ℕ → View → ℕ
before_in phase page (Coord c) = sum_by (λ v. added_before phase page (additions_among v.did)) c.joined
before_in phase page (Worker v) = added_before phase page (additions_among v.did)
before_in phase page Spent = 0

-- a sum over all views is one over all posts that they tell
sum_posts : (f : View → ℕ) (g : WorkerSeatView → ℕ) (views : List View)
    → ((u : View) → f u ≡ sum_by g (workers_of u))
    → sum_by f views ≡ sum_by g (posts_of views)
sum_posts f g [] each = refl
sum_posts f g (u ∷ views) each =
    let here = each u in
    let rest = sum_posts f g views each in
    omega (arith, sum_by-cons f u views, sum_by-append g (workers_of u) (posts_of views))

-- how many seats of a worker a view has is how many of its posts are
pub seats_posts : (i : ℕ) (views : List View)
    → sum_by (seats_of i) views ≡ count_by (λ v. v.worker == i) (posts_of views)
seats_posts i views = sum_posts (seats_of i) (λ v. cond (v.worker == i) 1 0) views by where
  by : (u : View) → seats_of i u ≡ sum_by (λ v. cond (v.worker == i) 1 0) (workers_of u)
  by (Coord c) = refl
  by (Worker v) = omega (arith, sum_by-cons (λ (w : WorkerSeatView). cond {A = ℕ} (w.worker == i) 1 0) v [])
  by Spent = refl

pub before_posts : (k page : ℕ) (views : List View) → sum_by (before_in k page) views ≡ posts_before (posts_of views) k page
before_posts k page views =
    sum_posts (before_in k page) (λ v. added_before k page (additions_among v.did)) views by where
      by : (u : View) → before_in k page u ≡ sum_by (λ v. added_before k page (additions_among v.did)) (workers_of u)
      by (Coord c) = refl
      by (Worker v) = omega (arith, sum_by-cons (λ (w : WorkerSeatView). added_before k page (additions_among w.did)) v [])
      by Spent = refl

pub added_posts : (page : ℕ) (views : List View) → sum_by (paged page) views ≡ posts_added (posts_of views) page
added_posts page views = sum_posts (paged page) (λ v. added_to page (additions_among v.did)) views by where
  by : (u : View) → paged page u ≡ sum_by (λ v. added_to page (additions_among v.did)) (workers_of u)
  by (Coord c) = refl
  by (Worker v) = omega (arith, sum_by-cons (λ (w : WorkerSeatView). added_to page (additions_among w.did)) v [])
  by Spent = refl
