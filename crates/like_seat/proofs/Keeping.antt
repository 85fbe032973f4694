-- The slice that a station keeps, and what is true of it after each step.
use Rattle.std.proofs.Common.{◌≡◌, ◌≢◌, ◌↔◌, ℕ, ◌+◌, ◌%◌, ◌==◌, ◌^◌, ◌<◌, ◌≤◌, ◌||◌, true, false, List, [], length, get_or, replicate, sum, inl, inr, refl, sym, ap, subst, ◌∙◌, arith}
use Rattle.std.proofs.lemmas.Bool.{and_parts, cases_lt, eqb-true, false_from_ne_true}
use Rattle.std.proofs.lemmas.List.{get_or_past}
use Rattle.std.proofs.lemmas.List.Folds.{sum_by-replicate}
use Rattle.std.proofs.lemmas.List.Sums.{sum_by-set}
use Rattle.like_core.specs.declared.worker_state.WorkerState.{WorkerState}
use Rattle.like_core.specs.declared.worker_state.WorkerState.TheVariants as state
use Rattle.like_core.specs.Phase.{IsSplit, is_hot_by, is_marked}
use Rattle.like_core.specs.declared.log.Logged.{Logged}
use Rattle.like_core.specs.declared.page_step.PageStep.{PageStep}
use Rattle.like_core.specs.Additions.{all_added}
use Rattle.like_core.specs.OpeningLimits.{AreLimits, has_slots}
use Rattle.like_core.specs.PhaseMasks.{mask_of}
use Rattle.like_core.specs.Post.{KnowsSplit, answered, is_split_at, pages_of}
use Rattle.like_core.specs.WorkerState.{IsRunning, RunsJoined, RunsSplit, phase_of}
use Rattle.like_core.specs.PageSteps.{additions_among}
use Rattle.like_core.specs.declared.view.WorkerSeatView.{WorkerSeatView}
use Rattle.like_limits.specs.Buckets.{bucket, buckets}
use Rattle.like_tables.specs.Liked.{AreUnliked}
use Rattle.like_tables.specs.SplitPages.{SplitPages, is_split}
use Rattle.like_tables.specs.SplitSlice.{HasNumbers, HaveNoLikes, IsNextLiked, IsSplitSlice, SplitSlice, bucket_in, by_page, has_split, likes_in, no_slice, with_likes}
use Rattle.like_tables.specs.StashView.{IsStash, StashView}
use Rattle.like_tables.proofs.ByPage.{by_page-none, by_page-with_likes, get_or-by_page, is_split-one, length-by_page, liked-split, likes_in-other}
use Rattle.like_tables.proofs.Sliced.{IsSplitSlice-none, has_split-none}
use Rattle.like_tables.proofs.Tagged.{bucket-lt}
use Rattle.like_seat.specs.declared.tables.Tables.{Tables}
use Rattle.like_seat.specs.Kept.{IsKept, IsOfRun, IsOfService, SplitsPages}
use Rattle.like_seat.specs.StationView.{HasPhaseMask, IsSliceInSplit}
use Rattle.like_seat.specs.Steps.{IsNext, NoneFrom}
use Rattle.like_core.proofs.Below.{same_truth}
use Rattle.like_seat.proofs.Filling.{number-kept}

-- who runs an odd phase runs a split one
runs-split : (s : WorkerState) → IsRunning s → IsSplit (phase_of s) → RunsSplit s
runs-split (state.Runs k) runs odd = odd
runs-split (state.Answered k) runs odd = absurd runs
runs-split state.Gone runs odd = absurd runs

-- who runs a phase knows which pages are split in it
pub knows-split : (post : WorkerSeatView) (page : ℕ) → IsRunning post.state → HasPhaseMask post → KnowsSplit post page
knows-split post page runs masked = λ odd _ _. masked (runs-split post.state runs odd)

-- its slice tells which pages are split in a phase that it runs
pub has_split-at_post : (post : WorkerSeatView) (s : SplitSlice) (page : ℕ) → SplitsPages post s → IsRunning post.state
    → page < pages_of post → has_split s page ≡ is_split_at post page
has_split-at_post post s page splits runs there =
    same_truth (has_split s page) (is_split_at post page) (λ stash. ((splits page).0 stash).2)
    (λ sliced.
    let odd = and_parts (phase_of post.state % 2 == 1)
    (is_marked post.opening.marks page || is_hot_by post.opening.limits.hot (mask_of post.masks (phase_of post.state)) page) sliced in
    (splits page).1 (runs-split post.state runs (eqb-true _ 1 odd.0), there, sliced))

-- who doesn't run a split phase has no page split
pub splits-none : (post : WorkerSeatView) (s : SplitSlice) → SplitsPages post s → (RunsSplit post.state → ⊥)
    → (page : ℕ) → has_split s page ≡ false
splits-none post s splits not_split page =
    false_from_ne_true (has_split s page) (λ stash. not_split ((splits page).0 stash).0)

-- a page that has a like is there, and is split
pub in-split : (post : WorkerSeatView) (s : SplitSlice) → SplitsPages post s → IsSliceInSplit post (by_page s (pages_of post))
in-split post s splits page some =
    elim (cases_lt page (pages_of post)) [
      | inl there ↦
          let liked : likes_in s page ≢ 0 = λ e. some (get_or-by_page s (pages_of post) page 0 there ∙ e) in
          let sliced = (splits page).0 (liked-split s page liked) in (sliced.0, sliced.2)
      | inr past ↦
          absurd (some (get_or_past (by_page s (pages_of post)) page 0
          (omega (arith, length-by_page s (pages_of post)))))
    ]

-- the likes of each page, whether it is there or not
pub likes_in-page : (post : WorkerSeatView) (s : SplitSlice) (page : ℕ) → SplitsPages post s
    → get_or (by_page s (pages_of post)) page 0 ≡ likes_in s page
likes_in-page post s page splits =
    elim (cases_lt page (pages_of post)) [
      | inl there ↦ get_or-by_page s (pages_of post) page 0 there
      | inr past ↦
          get_or_past (by_page s (pages_of post)) page 0 (omega (arith, length-by_page s (pages_of post)))
          ∙ sym (likes_in-other s page (false_from_ne_true (has_split s page)
          (λ stash. absurd (omega (arith, ((splits page).0 stash).1)))))
    ]

-- where no page of the list has a like, none has
pub likes_in-unliked : (post : WorkerSeatView) (s : SplitSlice) → SplitsPages post s
    → AreUnliked (by_page s (pages_of post)) 0 (length (by_page s (pages_of post)))
    → (page : ℕ) → likes_in s page ≡ 0
likes_in-unliked post s splits none page =
    sym (likes_in-page post s page splits)
    ∙ elim (cases_lt page (length (by_page s (pages_of post)))) [
      | inl there ↦ none page (omega arith) there
      | inr past ↦ get_or_past (by_page s (pages_of post)) page 0 past
    ]

-- the next page of the slice that has a like
pub IsNext-sliced : (post : WorkerSeatView) (s : SplitSlice) (f from page : ℕ) → IsSplitSlice s → s.splits.factor ≡ f
    → SplitsPages post s → IsNextLiked s from page → IsNext f (by_page s (pages_of post)) from page
IsNext-sliced post s f from page is factor splits next =
    let here : bucket_in s page ≡ bucket f page = ap (λ x. bucket x page) factor in
    let there : page < pages_of post = ((splits page).0 next.split).1 in
    record {
      after = omega (arith, here, next.after);
      there = omega (arith, there, length-by_page s (pages_of post));
      liked = λ e. next.liked (sym (likes_in-page post s page splits) ∙ e);
      first = λ other after within apart.
          let same : bucket_in s other ≡ bucket f other = ap (λ x. bucket x other) factor in
          likes_in-page post s other splits
          ∙ elim (cases_lt (bucket_in s other) (bucket_in s page)) [
            | inl before ↦ next.first other (omega arith) before
            | inr shared ↦
                likes_in-other s other (false_from_ne_true (has_split s other)
                (λ stash. apart (is_split-one s.splits other page stash next.split (omega arith))))
          ];
    }

pub NoneFrom-sliced : (post : WorkerSeatView) (s : SplitSlice) (f from : ℕ) → s.splits.factor ≡ f → SplitsPages post s
    → HaveNoLikes s from buckets → NoneFrom f (by_page s (pages_of post)) from
NoneFrom-sliced post s f from factor splits none page after =
    let same : bucket_in s page ≡ bucket f page = ap (λ x. bucket x page) factor in
    likes_in-page post s page splits
    ∙ none page (omega arith) (omega (arith, same, bucket-lt f page))

-- the sum of the pages' likes goes along with that of the buckets' numbers
pub sum-written : (s : SplitSlice) (n page likes total : ℕ) → IsSplitSlice s → has_split s page ≡ true → page < n
    → sum (by_page s n) ≡ sum s.counts → total + likes_in s page ≡ sum s.counts + likes
    → sum (by_page (with_likes s page likes) n) ≡ total
sum-written s n page likes total is split there sums is_total =
    let long = length-by_page s n in
    let now = ap (λ (xs : List ℕ). sum xs) (by_page-with_likes s n page likes is split there) in
    let here : get_or (by_page s n) page 0 ≡ likes_in s page = get_or-by_page s n page 0 there in
    let more = sum_by-set (λ x. x) (by_page s n) page likes 0 (omega arith) in
    omega (arith, now, here, more)

-- a slice that has no split page has no like
pub by_page-no_slice : (factor many n : ℕ) → by_page (no_slice factor many) n ≡ replicate n 0
by_page-no_slice factor many n =
    by_page-none (no_slice factor many) n
    (λ page. likes_in-other (no_slice factor many) page (has_split-none factor many page))

pub sum-zeros : (n : ℕ) → sum (replicate n 0) ≡ 0
sum-zeros n = sum_by-replicate (λ x. x) n 0 ∙ omega arith

-- the tables of a post that made a step in its phase, which leaves the split pages
pub Kept-written : {W C : Type 0} (post : WorkerSeatView) (d : List PageStep) (logged : List Logged)
    (t after : Tables W C)
    → IsKept post t
    → after.marks.items ≡ t.marks.items → after.state ≡ t.state → after.stash ≡ t.stash
    → after.slice.splits ≡ t.slice.splits → length after.slice.counts ≡ length t.slice.counts → IsSplitSlice after.slice
    → sum (by_page after.slice (pages_of post)) ≡ sum after.slice.counts
    → after.likes.likes ≡ all_added (additions_among d) + sum (by_page after.slice (pages_of post))
    → after.likes.likes ≤ post.opening.limits.likes
    → IsKept (record post { did = d; logged = logged }) after
Kept-written {W} {C} post d logged t after k marks state_is stash splits long is sums likes few =
    let now : WorkerSeatView = record post { did = d; logged = logged } in
    let split : SplitsPages now after.slice = λ page.
    subst (λ (s : SplitPages). (is_split s page ≡ true)
    ↔ (RunsSplit post.state × (page < pages_of post) × (is_split_at post page ≡ true))) (sym splits) (k.splits page) in
    record {
      run = λ plain. subst (IsOfRun post.opening) (sym marks) (k.run plain);
      service = k.service;
      state = k.state ∙ sym state_is;
      slice = is;
      factor = ap (λ (s : SplitPages). s.factor) splits ∙ k.factor;
      numbers = λ page there.
          number-kept t.slice after.slice page (ap (λ (s : SplitPages). s.factor) splits) long (k.numbers page there);
      splits = split;
      sums = sums;
      likes = likes;
      station = record {
        few_pages = k.station.few_pages;
        limits = k.station.limits;
        factor = k.station.factor;
        within = k.station.within;
        sized = length-by_page after.slice (pages_of post);
        masked = k.station.masked;
        split = in-split now after.slice split;
        few = omega (arith, likes, few);
        waiting = subst IsStash (sym stash) k.station.waiting;
      };
    }

-- the tables of a post that read or glanced
pub Kept-read : {W C : Type 0} (post now : WorkerSeatView) (d : List PageStep) (logged : List Logged) (t : Tables W C)
    → IsKept post t → now ≡ record post { did = d; logged = logged } → additions_among d ≡ additions_among post.did
    → IsKept now t
Kept-read {W} {C} post now d logged t k is same =
    subst (λ (p : WorkerSeatView). IsKept p t) (sym is)
    (Kept-written post d logged t t k refl refl refl refl refl k.slice k.sums
    (k.likes ∙ sym (ap (λ xs. all_added xs + sum (by_page t.slice (pages_of post))) same))
    (omega (arith, k.likes, k.station.few)))

-- the tables hold other requests that wait
pub Kept-stashing : {W C : Type 0} (post : WorkerSeatView) (t : Tables W C) (stash : StashView W) → IsKept post t → IsStash stash
    → IsKept post (record t { stash = stash })
Kept-stashing {W} {C} post t stash k waits = record {
  run = k.run;
  service = k.service;
  state = k.state;
  slice = k.slice;
  factor = k.factor;
  numbers = k.numbers;
  splits = k.splits;
  sums = k.sums;
  likes = k.likes;
  station = record {
    few_pages = k.station.few_pages;
    limits = k.station.limits;
    factor = k.station.factor;
    within = k.station.within;
    sized = k.station.sized;
    masked = k.station.masked;
    split = k.station.split;
    few = k.station.few;
    waiting = waits;
  };
}

-- who runs a joined phase runs no split one
joined-unsplit : (s : WorkerState) → RunsJoined s → RunsSplit s → ⊥
joined-unsplit (state.Runs k) joined split = omega (arith, joined, split)
joined-unsplit (state.Answered k) joined split = split
joined-unsplit state.Gone joined split = split

-- the tables of a post that left a joined phase: it is in this state, in which it runs none
pub Kept-left : {W C : Type 0} (post now : WorkerSeatView) (t : Tables W C) (s : WorkerState) → IsKept post t
    → RunsJoined post.state → (RunsSplit s → ⊥) → phase_of s ≤ phase_of post.state → now ≡ record post { state = s; slots = [] }
    → IsKept now (record t { state = s })
Kept-left {W} {C} post now t s k joined idle within is =
    let at : WorkerSeatView = record post { state = s; slots = [] } in
    let left : Tables W C = record t { state = s } in
    let unsplit = joined-unsplit post.state joined in
    let keeps : IsKept at left = record {
      run = k.run;
      service = k.service;
      state = refl;
      slice = k.slice;
      factor = k.factor;
      numbers = k.numbers;
      splits = λ page. (λ has. absurd (unsplit ((k.splits page).0 has).0), λ runs. absurd (idle runs.0));
      sums = k.sums;
      likes = k.likes;
      station = record {
        few_pages = k.station.few_pages;
        limits = k.station.limits;
        factor = k.station.factor;
        within = omega (arith, within, k.station.within);
        sized = k.station.sized;
        masked = λ runs. absurd (idle runs);
        split = λ page some. absurd (unsplit (k.station.split page some).0);
        few = k.station.few;
        waiting = k.station.waiting;
      };
    } in subst (λ (p : WorkerSeatView). IsKept p left) (sym is) keeps

-- and those of one that stopped at the end of it
pub Kept-answered : {W C : Type 0} (post now : WorkerSeatView) (t : Tables W C) (n : ℕ) → IsKept post t → RunsJoined post.state
    → n ≡ phase_of t.state → now ≡ answered post → IsKept now (record t { state = state.Answered n })
Kept-answered {W} {C} post now t n k joined is answer =
    let same : phase_of post.state ≡ n = ap phase_of k.state ∙ sym is in
    Kept-left post now t (state.Answered n) k joined (λ runs. runs) (omega (arith, same))
    (answer ∙ (λ i. record post { state = state.Answered (same i); slots = [] }))

-- the tables of a post that never looked, or answered: no page is split
pub Kept-unsplit : {W C : Type 0} (post : WorkerSeatView) (t : Tables W C) (factor many : ℕ)
    → (RunsSplit post.state → ⊥) → t.slice ≡ no_slice factor many → factor ≡ post.opening.factor → factor < 2 ^ 32
    → HasNumbers (no_slice factor many) (pages_of post)
    → (has_slots post.opening.limits ≡ false → IsOfRun post.opening t.marks.items)
    → (has_slots post.opening.limits ≡ true → IsOfService post.opening) → post.state ≡ t.state
    → t.likes.likes ≡ all_added (additions_among post.did) + sum (by_page t.slice (pages_of post))
    → t.likes.likes ≤ post.opening.limits.likes
    → pages_of post ≤ post.opening.limits.pages → AreLimits post.opening.limits
    → phase_of post.state ≤ post.opening.limits.last_phase → IsStash t.stash
    → IsKept post t
Kept-unsplit {W} {C} post t factor many not_split slice_is factor_is below numbers run service state_is likes few few_pages limits within stash =
    let splits : SplitsPages post t.slice = λ page. (
      λ has. absurd (cc (ap (λ (s : SplitSlice). has_split s page) slice_is, has_split-none factor many page, has)),
      λ runs. absurd (not_split runs.0),
    ) in
    record {
      run = run;
      service = service;
      state = state_is;
      slice = subst IsSplitSlice (sym slice_is) (IsSplitSlice-none factor many below);
      factor = ap (λ (s : SplitSlice). s.splits.factor) slice_is ∙ factor_is;
      numbers = subst (λ (s : SplitSlice). HasNumbers s (pages_of post)) (sym slice_is) numbers;
      splits = splits;
      sums =
          ap (λ (s : SplitSlice). sum (by_page s (pages_of post))) slice_is
          ∙ ap (λ (xs : List ℕ). sum xs) (by_page-no_slice factor many (pages_of post))
          ∙ sum-zeros (pages_of post) ∙ sym (sum-zeros many)
          ∙ sym (ap (λ (s : SplitSlice). sum s.counts) slice_is);
      likes = likes;
      station = record {
        few_pages = few_pages;
        limits = limits;
        factor = λ plain. (run plain).factor;
        within = within;
        sized = length-by_page t.slice (pages_of post);
        masked = λ runs. absurd (not_split runs);
        split = in-split post t.slice splits;
        few = omega (arith, likes, few);
        waiting = stash;
      };
    }
