use Rattle.std.proofs.Common.{◌≡◌, ℕ, ◌≤◌, Bool, List, Result, Ok, Err, length, sum, refl, sym, ap, subst, ◌∙◌, arith, rules}
use Rattle.std.proofs.lemmas.List.{length-replicate}
use Rattle.std.specs.Result.{IfOk}
use Rattle.like_core.specs.Additions.{all_added}
use Rattle.like_core.specs.PageSteps.{additions_among}
use Rattle.like_core.specs.Post.{pages_of}
use Rattle.like_core.specs.WorkerState.{RunsSplit, phase_of}
use Rattle.like_core.specs.declared.view.WorkerSeatView.{WorkerSeatView}
use Rattle.like_limits.specs.Buckets.{run_factor}
use Rattle.like_limits.specs.Limits.{max_stash}
use Rattle.like_tables.specs.SplitSlice.{SplitSlice, by_page, no_slice}
use Rattle.like_tables.specs.UserTable.{UserTable}
use Rattle.like_tables.specs.StashView.{IsStash, StashView}
use Rattle.like_seat.specs.declared.tables.Tables.{Tables}
use Rattle.like_seat.specs.Kept.{AreNew, IsKept, IsNewOfRun, IsOfRun, view_of}
use Rattle.like_seat.specs.Steps.{IsNewStation}
use Rattle.like_seat.proofs.Filling.{bucket-run}
use Rattle.like_seat.proofs.Keeping.{Kept-unsplit, by_page-no_slice, sum-zeros}
use Rattle.like_seat.proofs.tables.Tables+W+Slice.of_run.Goals as goal

module _ {W C : Type 0} (marks : List Bool) (room : ℕ) (users : UserTable) (t : Tables W C) (some : 1 ≤ room)
    (few : room ≤ max_stash) (new : AreNew marks (no_slice run_factor (length marks)) room users t) (post : WorkerSeatView)
    (is : IsNewOfRun marks post) where
  abbrev pages : ℕ
  pages = pages_of post

  slice_is : t.slice ≡ no_slice run_factor pages
  slice_is = new.slice ∙ ap (λ (ms : List Bool). no_slice run_factor (length ms)) (sym is.run.marks)

  likes_are : by_page t.slice pages ≡ by_page (no_slice run_factor pages) pages
  likes_are = ap (λ (s : SplitSlice). by_page s pages) slice_is

  new_kept : IsKept post t
  new_kept =
      let none : sum (by_page t.slice pages) ≡ 0 =
      ap sum likes_are ∙ ap sum (by_page-no_slice run_factor pages pages) ∙ sum-zeros pages in
      let added : all_added (additions_among post.did) ≡ 0 =
      ap (λ (v : WorkerSeatView). all_added (additions_among v.did)) is.fresh in
      let runs = ap (λ (v : WorkerSeatView). v.state) is.fresh in
      let phase : phase_of post.state ≡ 0 = ap phase_of runs in
      Kept-unsplit post t run_factor pages (λ split. absurd (omega (arith, subst RunsSplit runs split))) slice_is
      (sym is.run.factor) (omega arith)
      (λ page there. omega (arith, there, is.run.small, bucket-run page, length-replicate {A = ℕ} pages 0))
      (λ plain. subst (IsOfRun post.opening) (sym new.marks_are) is.run)
      (λ slotted. absurd (cc (slotted, is.run.plain))) (runs ∙ sym new.state) (omega (arith, new.likes, none, added))
      (omega (arith, new.likes)) is.few_pages is.limits (omega (arith, phase))
      (subst (λ (w : StashView W). IsStash w) (sym new.stash) (record { some = some; few = few; within = omega arith }))

  new_station : (board : List ℕ) → IsNewStation board post room users (view_of board post t)
  new_station board = record {
    is = new_kept.station;
    at_board = refl;
    at_post = refl;
    stash = new.stash;
    slice = likes_are ∙ by_page-no_slice run_factor pages pages;
    sliced = new.sliced;
    last = new.last;
  }

-- what holds of the value holds of it with what follows
then_if_ok : {A E : Type 0} {P Q : A → Type 0} (r : Result A E) → ((a : A) → P a → Q a) → IfOk r P → IfOk r Q
then_if_ok (Ok a) follows is = follows a is
then_if_ok (Err e) follows is = tt

pub returns : goal.returns
returns g c =
    let m : List Bool = c.args.marks.items in
    let empty : SplitSlice → Type 0 = λ s. IfOk c.new.result (AreNew m s c.args.room c.args.last) in
    let many : c.len.result ≡ length m = search rules in
    let new = subst empty (c.in_ok-slice.ensures.slice ∙ ap (λ (n : ℕ). no_slice run_factor n) many) c.new.ensures in
    record {
      kept = then_if_ok c.new.result (λ t is. new_kept m c.args.room c.args.last t c.requires.some c.requires.few is) new;
      new = then_if_ok c.new.result (λ t is board post of.
          new_station m c.args.room c.args.last t c.requires.some c.requires.few is post of board) new;
    }
