-- The merge of a whole slice.
use Rattle.std.specs.Prelude.{◌≡◌, ℕ, List, [], ◌++◌, map, replicate, slice_index, All}
use Rattle.std.specs.List.Sorted.{IsStrictlyIncreasing}
use Rattle.like_limits.specs.Buckets.{bucket}
use Rattle.like_core.specs.{Additions.added_to, PageSteps.step_adding, PageSteps.then_steps, Post.answered}
use Rattle.like_core.specs.{Post.pages_of, Types.Addition, Types.Did, Types.Logged, Types.PageStep}
use Rattle.like_seat.specs.StationView.{StationView, phase_at}

-- additions merge a slice in a phase: each has all the likes of its page, and is of the phase; together they have what
-- the slice has of each page; and they go by the pages' buckets, so that no page is merged twice
pub record MergesAll (factor phase : ℕ) (slice : List ℕ) (adds : List Addition) : Type 0 where
  pub likes_are : All (λ a. a.likes ≡ slice_index slice a.page) adds
  pub phase_is : All (λ a. a.phase ≡ phase) adds
  pub sums : (page : ℕ) → added_to page adds ≡ slice_index slice page
  pub in_order : IsStrictlyIncreasing (map (λ a. bucket factor a.page) adds)

-- a station's entries in the board's log go on with these steps, one after the other, each with a number
pub record LogsSteps (steps : List PageStep) (before after : List Logged) : Type 0 where
  pub since : List Logged
  pub made : map (λ e. e.entry) since ≡ map (λ s. Did s) (then_steps [] steps)
  pub logged : after ≡ since ++ before

-- the slice is added to the board by these additions, after which these are its entries, and emptied
abbrev pub merged : {W : Type 0} → StationView W → List Addition → List Logged → StationView W
merged s adds logged = record s {
  post = record s.post {
    did = then_steps s.post.did (map (step_adding s.post.worker) adds);
    logged = logged;
  };
  slice = replicate (pages_of s.post) 0;
}

-- the slice is merged: one addition for each page that it has likes of, with all of them
abbrev pub IsMerged : {W : Type 0} → StationView W → StationView W → Type 0
IsMerged s after =
    (adds : List Addition)
    × (MergesAll s.post.opening.factor (phase_at s) s.slice adds × (after ≡ merged s adds after.post.logged)
    × LogsSteps (map (step_adding s.post.worker) adds) s.post.logged after.post.logged)

-- the slice is merged, and then its phase answered
abbrev pub MergesAndReports : {W : Type 0} → StationView W → StationView W → Type 0
MergesAndReports {W} s after =
    (now : StationView W) × (IsMerged s now × (after ≡ record now { post = answered now.post }))
