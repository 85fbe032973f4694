-- What follows from one order of all that was done at pages.
use Rattle.std.proofs.Common.{◌≡◌, ℕ, suc, ◌+◌, ◌<◌, ◌≤◌, ◌==◌, Bool, true, false, ◌&&◌, nat_lt, cond, List, [], ◌∷◌, All, get_or, length, slice_index, subst, ap, sym, ◌∙◌, refl, arith}
use Rattle.std.specs.List.{count_by, sum_by}
use Rattle.std.proofs.lemmas.List.Elements.{All-append, All-cons, All-nil}
use mathlib.Core.Option.{some}
use lib.ListN.{get_elem?}
use Rattle.like_core.specs.declared.opening.Opening.{Opening}
use Rattle.like_core.specs.declared.log.LogEntry.{LogEntry}
use Rattle.like_core.specs.declared.log.Logged.{Logged}
use Rattle.like_core.specs.declared.page_step.PageStep.{PageStep}
use Rattle.like_core.specs.declared.view.Addition.{Addition}
use Rattle.like_core.specs.declared.view.WorkerSeatView.{WorkerSeatView}
use Rattle.like_core.specs.declared.view.View.{View}
use Rattle.like_core.specs.declared.view.View.TheVariants.{Coord, Worker, Spent}
use Rattle.like_core.specs.Additions.{added_to}
use Rattle.like_core.specs.Log.{steps_in}
use Rattle.like_core.specs.PageSteps.{additions_among, likes_in, steps_by, stretches_of}
use Rattle.like_core.specs.core.State.{CoreState, Label}
use Rattle.like_core.specs.views.Views.{seats_of}
use Rattle.like_core.specs.views.Order.{HasMade, HasOrder, IsOrder}
use Rattle.like_core.specs.views.Places.{ArePlaced, AreTiles, Counting}
use Rattle.like_core.specs.views.PostOrder.{IsOrderOf, MomentsAreOrdered, OrderGivesBounds, OrderGivesPast, OrderGivesPlaces, posts_passing}
use Rattle.like_core.specs.views.Posts.{last_count, posts_added, posts_before, posts_of, workers_of}
use Rattle.like_core.specs.views.Reads.{IsBetween}
use Rattle.like_core.proofs.views.ViewSums.{seats_posts}
use Rattle.like_core.specs.views.Shows.{Fits, FitsCoord, FitsWorker, Moment}
use Rattle.like_core.proofs.Logs.{applied-long, steps_logged, steps_of}
use Rattle.like_core.proofs.Between.{own_between, steps_before}
use Rattle.like_core.proofs.Tiled.{counting_in, own_placed, tiled}
use Rattle.like_core.proofs.Totals.{added-in, none_later, sum_alike, totals}

module _ (first : ℕ → ℕ) (phase : ℕ) (posts : List WorkerSeatView) (log : List LogEntry)
    (order : IsOrderOf first phase posts log) where
  abbrev steps : List PageStep
  steps = steps_in log

  -- a worker without a post has no step
  pub no_steps : (i : ℕ) → count_by (λ v. v.worker == i) posts ≡ 0 → steps_by i (steps_in log) ≡ []
  no_steps i none = steps_logged i log ∙ ap (λ (es : List Logged). steps_of es) (order.others i none)

  -- what all posts' additions count is what those of all steps do
  all_posts : (f : Addition → ℕ) → sum_by (λ v. sum_by f (additions_among v.did)) posts ≡ sum_by f (additions_among steps)
  all_posts f =
      sym
      (sum_alike (λ v. v.worker) (λ v. sum_by f (additions_among (steps_by v.worker steps)))
      (λ v. sum_by f (additions_among v.did)) posts
      (λ k d below. ap (λ ds. sum_by f (additions_among ds)) (order.each k d below).done))
      ∙ totals (λ v. v.worker) f posts steps order.once no_steps

  before_is : (k page : ℕ) → posts_before posts k page ≡ steps_before steps k page
  before_is k page = all_posts (λ a. cond (nat_lt a.phase k && (a.page == page)) a.likes 0)

  added_is : (page : ℕ) → posts_added posts page ≡ added_to page (additions_among steps)
  added_is page = all_posts (λ a. cond (a.page == page) a.likes 0)

pub order_gives_past : OrderGivesPast
order_gives_past first phase later page posts log order past =
    before_is first phase posts log order later page
    ∙ none_later first phase later page (steps_in log) order.in_turn past
    ∙ sym (added_is first phase posts log order page)

pub order_gives_bounds : OrderGivesBounds
order_gives_bounds counts phase posts log order k d below =
    let v : WorkerSeatView = get_or posts k d in
    let steps : List PageStep = steps_in log in
    let same : steps_before steps ≡ posts_before posts =
    λ i j page. sym (before_is (slice_index counts) phase posts log order j page) i in
    λ later s earlier is.
    subst (λ f. (s.phase ≤ phase) × IsBetween counts f later s earlier) same
    (own_between counts phase v.worker steps later s earlier order.in_turn ((order.each k d below).done ∙ is))

pub order_gives_places : OrderGivesPlaces
order_gives_places first phase posts log order =
    let steps : List PageStep = steps_in log in
    let all = tiled first phase steps order.in_turn in
    let same : counting_in (additions_among steps) ≡ posts_passing posts =
    λ i test. sym (all_posts first phase posts log order (λ a. cond (test a) 1 0)) i in
    let last : (λ page. first page + likes_in page steps) ≡ last_count first posts =
    λ i page. (ap (λ n. first page + n) (sym (added_is first phase posts log order page ∙ added-in page steps))) i in
    record {
      tiles = subst (λ f. AreTiles first f (posts_passing posts)) last
          (subst (λ (c : Counting). AreTiles first (λ page. first page + likes_in page steps) c) same all.tiles);
      each = λ k d below.
          let v : WorkerSeatView = get_or posts k d in
          subst (λ (c : Counting). ArePlaced first c (stretches_of v.did)) same
          (subst (λ ds. ArePlaced first (counting_in (additions_among steps)) (stretches_of ds))
          (order.each k d below).done (own_placed first phase v.worker steps order.in_turn));
    }

-- what is true at each place of a list is true of all that it has
pub all_at : (P : WorkerSeatView → Type 0) (vs : List WorkerSeatView)
    → ((place : ℕ) (v : WorkerSeatView) → get_elem? vs place ≡ some v → P v)
    → All P vs
all_at P [] has = All-nil P
all_at P (v ∷ vs) has = All-cons P v vs (has 0 v refl) (all_at P vs (λ place w at. has (suc place) w at))

-- what is true of all seats that each view tells is true of all that views tell
all_told : (P : WorkerSeatView → Type 0) (views : List View)
    → ((place : ℕ) (u : View) → get_elem? views place ≡ some u → All P (workers_of u))
    → All P (posts_of views)
all_told P [] has = All-nil P
all_told P (u ∷ views) has =
    All-append P (workers_of u) (posts_of views) (has 0 u refl)
    (all_told P views (λ place w at. has (suc place) w at))

-- what each view says that it made, its posts do
pub made_posts : (log : List LogEntry) (views : List View)
    → ((place : ℕ) (u : View) → get_elem? views place ≡ some u → HasOrder log u)
    → All (HasMade log) (posts_of views)
made_posts log views each =
    all_told (HasMade log) views (λ place u at. one u (each place u at)) where
      one : (u : View) → HasOrder log u → All (HasMade log) (workers_of u)
      one (Coord c) has = all_at (HasMade log) c.joined has
      one (Worker v) has = All-cons (HasMade log) v [] has (All-nil (HasMade log))
      one Spent has = All-nil (HasMade log)

-- at a moment, what each worker's seat knows is true, also of those that were given back
pub all_fit : (z : Opening) (m : Moment z) → All (FitsWorker z m.shown.state) (posts_of m.views)
all_fit z m =
    all_told (FitsWorker z m.shown.state) m.views (λ place u at. one u (m.shown.shows.seats.each place u at)) where
      one : (u : View) → Fits z m.shown.state u → All (FitsWorker z m.shown.state) (workers_of u)
      one (Coord c) fits =
          let known : FitsCoord z m.shown.state c = fits in
          all_at (FitsWorker z m.shown.state) c.joined known.seats.joined
      one (Worker v) fits =
          All-cons (FitsWorker z m.shown.state) v [] fits (All-nil (FitsWorker z m.shown.state))
      one Spent fits = All-nil (FitsWorker z m.shown.state)

-- the order of a board is one of all posts, where no worker has two seats
pub posts_ordered : (z : Opening) (s : CoreState) (views : List View) (log : List LogEntry)
    → IsOrder z s views log
    → ((i : ℕ) → sum_by (seats_of i) views ≤ 1)
    → IsOrderOf (slice_index z.counts) s.phase (posts_of views) log
posts_ordered z s views log order once = record {
  in_turn = order.in_turn;
  rising = order.rising;
  each = made_posts log views order.each;
  once = λ i. (let same = seats_posts i views in let most = once i in omega arith);
  others = λ i none. order.others i (seats_posts i views ∙ none);
}

-- a worker has one seat or none
pub one_or_none : (b : Bool) → cond {A = ℕ} b 1 0 ≤ 1
one_or_none true = omega arith
one_or_none false = omega arith

one_seat : (z : Opening) (m : Moment z) (i : ℕ) → sum_by (seats_of i) m.views ≤ 1
one_seat z m i =
    let same = m.shown.shows.seats.once i in
    let few = one_or_none (nat_lt i m.shown.shows.coord.made) in
    omega arith

pub moments_are_ordered : MomentsAreOrdered
moments_are_ordered z m = posts_ordered z m.shown.state m.views m.shown.log m.shown.order (one_seat z m)

-- so nothing was added in a later phase
pub past_now : (z : Opening) (m : Moment z) (later page : ℕ) → m.shown.state.phase < later
    → posts_before (posts_of m.views) later page ≡ posts_added (posts_of m.views) page
past_now z m later page past =
    order_gives_past (slice_index z.counts) m.shown.state.phase later page (posts_of m.views) m.shown.log
    (moments_are_ordered z m) past

-- and the likes applied to a page are all that were added to it
pub applied_now : (z : Opening) (m : Moment z) (page : ℕ)
    → length (m.shown.state.applied page) ≡ posts_added (posts_of m.views) page
applied_now z m page =
    ap (λ (ls : List Label). length ls) (m.shown.order.applied page)
    ∙ applied-long page m.shown.log
    ∙ sym (added-in page (steps_in m.shown.log))
    ∙ sym (added_is (slice_index z.counts) m.shown.state.phase (posts_of m.views) m.shown.log
    (moments_are_ordered z m) page)
