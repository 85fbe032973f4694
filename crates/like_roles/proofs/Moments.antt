-- What a moment of a run's board tells of its workers and their slices.
use Rattle.std.proofs.Common.{◌≡◌, ◌≢◌, ℕ, ◌+◌, ◌<◌, ◌≤◌, inl, inr, true, List, ◌++◌, length, slice_index, sum, subst, ap, sym, ◌∙◌, arith}
use Rattle.std.proofs.lemmas.Bool.{cases_lt}
use Rattle.std.proofs.lemmas.List.{get_or_past}
use Rattle.std.proofs.lemmas.List.Elements.{All-get_or}
use Rattle.std.proofs.lemmas.List.Sums.{get_or-le-sum_by}
use Rattle.std.specs.List.{sum_by}
use Rattle.like_limits.specs.Limits.{max_count, total_bound}
use Rattle.like_core.specs.declared.opening.Opening.{Opening}
use Rattle.like_core.specs.declared.limits.Limits.{Limits}
use Rattle.like_core.specs.declared.view.View.TheVariants.{Worker}
use Rattle.like_core.specs.declared.view.WorkerSeatView.{WorkerSeatView}
use Rattle.like_core.specs.declared.worker_state.WorkerState.TheVariants.{Runs}
use Rattle.like_core.specs.Additions.{all_added}
use Rattle.like_core.specs.Functions.{times, update}
use Rattle.like_core.specs.PageSteps.{additions_among}
use Rattle.like_core.specs.OpeningLimits.{run_limits}
use Rattle.like_core.specs.Phase.{IsSplit}
use Rattle.like_core.specs.Post.{KnowsSplit}
use Rattle.like_core.specs.WorkerState.{IsRunning}
use Rattle.like_core.specs.core.Likes.{MayLike, given}
use Rattle.like_core.specs.core.Moves.{LetsReturn}
use Rattle.like_core.specs.core.Numbers.{total}
use Rattle.like_core.specs.core.State.{CoreState, is_split_now, numbers}
use Rattle.like_core.specs.views.Shows.{FitsWorker, Moment}
use Rattle.like_core.specs.views.Tallies.{left_to}
use Rattle.like_core.proofs.Sums.{sum_below-le}
use Rattle.like_core.proofs.Updates.{update-same}
use Rattle.like_core.proofs.core.GivenLikes.{likes_stay_reachable}
use Rattle.like_core.proofs.core.Moved.{nobody_returns, reached_is_exclusive}
use Rattle.like_core.proofs.views.ViewSums.{added_to-le}
use Rattle.like_core.proofs.views.SplitPages.{split_pages_agree}
use Rattle.like_core.proofs.views.ViewLists.{sum_part}
use Rattle.like_seat.proofs.Moments.{phase_run, posts_are_exclusive, state_at}
use Rattle.like_roles.specs.worker.Moments.{AreHeldAt, HoldsAt, WorkersAreExclusive}
use Rattle.like_roles.proofs.Rooms.{of_views, room_of}

-- of a worker that holds a like of a page
module _ (z : Opening) (m : Moment z) (i page likes : ℕ) (h : HoldsAt z m i page likes) (some : 0 < likes) where
  has_some : slice_index h.of.slice page ≢ 0
  has_some none = absurd (omega (arith, none, h.slice, some))

  fits : FitsWorker z m.shown.state h.of.post
  fits = m.shown.shows.seats.each h.at.place (Worker h.of.post) h.at.there

  -- it runs the present phase
  holder_runs : m.shown.state.state i ≡ Runs m.shown.state.phase
  holder_runs =
      let s : CoreState = m.shown.state in
      let odd = phase_run IsSplit h.of.post.state (h.station.split page has_some).0 in
      let runs : s.state h.of.post.worker ≡ Runs odd.0 = state_at z m h.of.post h.at ∙ odd.1.0 in
      let present : odd.0 ≡ s.phase =
      (reached_is_exclusive z s m.shown.reachable).1.runs h.of.post.worker odd.0 runs
      in
      ap s.state (sym h.worker) ∙ runs ∙ ap Runs present

  within : page < length h.of.slice
  within =
      elim (cases_lt page (length h.of.slice)) [
        | inl below ↦ below
        | inr past ↦ absurd (has_some (get_or_past h.of.slice page 0 past))
      ]

  -- the page is there
  holder_there : page < length z.counts
  holder_there =
      let below = within in
      let sized : length h.of.slice ≡ length h.of.post.opening.marks = h.station.sized in
      let opening = ap (λ (o : Opening). length o.marks) fits.opening in
      let one_each = m.shown.shows.opening.marks in
      omega arith

  -- the page is split in it
  holder_split : is_split_now z m.shown.state page ≡ true
  holder_split =
      let in_split = h.station.split page has_some in
      let odd = phase_run IsSplit h.of.post.state in_split.0 in
      let running : IsRunning h.of.post.state = subst IsRunning (sym odd.1.0) tt in
      let knows : KnowsSplit h.of.post page = λ _ _ _. h.station.masked in_split.0 in
      sym (split_pages_agree z m h.at.place h.of.post page h.at.there running knows) ∙ in_split.1

  -- there is room for what it holds
  holder_room : likes ≤ sum_by (room_of z.limits page i) m.views
  holder_room =
      let v : WorkerSeatView = h.of.post in
      let part = sum_part (room_of z.limits page i) m.views h.at.place (Worker v) h.at.there in
      let here : room_of z.limits page i (Worker v) ≡ left_to z.limits.likes page v =
      ap (λ j. update (λ _. 0) j (left_to z.limits.likes page v) i) h.worker
      ∙ update-same (λ _. 0) i (left_to z.limits.likes page v)
      in
      let own : slice_index h.of.slice page ≤ sum h.of.slice = get_or-le-sum_by (λ x. x) h.of.slice page 0 within in
      let few : all_added (additions_among v.did) + sum h.of.slice ≤ v.opening.limits.likes = h.station.few in
      let added = added_to-le (additions_among v.did) page in
      let limit = ap (λ (o : Opening). o.limits.likes) fits.opening in
      let likes_are = h.slice in
      omega arith

-- a page's count at the start is low
first_low : (z : Opening) (m : Moment z) (page : ℕ) → slice_index z.counts page ≤ max_count
first_low z m page =
    elim (cases_lt page (length z.counts)) [
      | inl below ↦ All-get_or (λ (n : ℕ). n ≤ max_count) z.counts page 0 below m.shown.shows.opening.counts
      | inr past ↦ let none = get_or_past z.counts page 0 past in omega arith
    ]

-- with the likes in all slices each page's total stays below its bound
few_held : (z : Opening) (m : Moment z) (held : ℕ → List ℕ) → AreHeldAt z m held → (page : ℕ)
    → total (numbers z (given m.shown.state held)) page < total_bound
few_held z m held are page =
    let s : CoreState = m.shown.state in
    let each : (i : ℕ) → times page (s.unmerged i ++ held i) ≤ sum_by (room_of z.limits page i) m.views =
    λ i.
    let same : times page (s.unmerged i ++ held i) ≡ times page (held i) =
    ap (λ (l : List ℕ). times page (l ++ held i)) (m.shown.shows.merged i)
    in
    elim (cases_lt 0 (times page (held i))) [
      | inl some ↦ let room = holder_room z m i page (times page (held i)) (are i page some) some in omega arith
      | inr none ↦ omega arith
    ]
    in
    let sums =
    sum_below-le (λ i. times page (s.unmerged i ++ held i)) (λ i. sum_by (room_of z.limits page i) m.views) z.workers
    each
    in
    let rooms = of_views z.limits page z.workers m.views in
    let tallied = m.shown.tallied page in
    let low = first_low z m page in
    let bound = m.shown.shows.opening.limits.likes in
    omega arith

-- so workers may be given these likes
may_hold : (z : Opening) (m : Moment z) (held : ℕ → List ℕ) → AreHeldAt z m held → MayLike z m.shown.state held
may_hold z m held are = record {
  runs = λ i page some. holder_runs z m i page (times page (held i)) (are i page some) some;
  there = λ i page some. holder_there z m i page (times page (held i)) (are i page some) some;
  splits = λ i page some. holder_split z m i page (times page (held i)) (are i page some) some;
  totals = few_held z m held are;
}

-- in a run nobody comes back
none_returns : (l : Limits) → l ≡ run_limits → ¬ LetsReturn l
none_returns l run lets = let is : LetsReturn run_limits = subst LetsReturn run lets in cc

pub workers_are_exclusive : WorkersAreExclusive
workers_are_exclusive z m run = record {
  reachable = λ held are.
      likes_stay_reachable z m.shown.state held
      ((nobody_returns z m.shown.state).1 (none_returns z.limits run) m.shown.reachable) (may_hold z m held are);
  none = λ a b. posts_are_exclusive z m a.post b.post b.slice;
}
