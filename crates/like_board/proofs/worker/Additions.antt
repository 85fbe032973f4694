-- An addition to a page's word is its events, and keeps what the board shows.
use Rattle.std.proofs.Common.{◌≡◌, ◌≢◌, ℕ, ◌+◌, ◌-◌, ◌%◌, ◌^◌, ◌<◌, ◌≤◌, ◌==◌, Bool, true, false, cond, inl, inr, List, [], ◌∷◌, ◌++◌, All, length, get_or, set, replicate, subst, ap, sym, ◌∙◌, refl, append-nil, eq-eqb, arith, fold}
use Rattle.std.proofs.lemmas.Bool.{cases_eq, cases_lt, ne_eqb}
use Rattle.std.proofs.lemmas.List.{length-append, length-replicate}
use Rattle.std.proofs.lemmas.List.Elements.{All-get_or}
use mathlib.Core.Option.{some}
use lib.ListN.{get_elem?}
use Rattle.like_core.specs.declared.worker_state.WorkerState.TheVariants.{Runs}
use Rattle.like_core.specs.declared.shown.Shown.TheVariants.{Old}
use Rattle.like_core.specs.declared.limits.Limits.{Limits}
use Rattle.like_core.specs.declared.opening.Opening.{Opening}
use Rattle.like_core.specs.declared.log.LogEntry.TheVariants.{Did}
use Rattle.like_core.specs.declared.page_step.PageCall.TheVariants.{Add}
use Rattle.like_core.specs.declared.page_step.PageStep.{PageStep}
use Rattle.like_core.specs.declared.view.PageCount.{PageCount}
use Rattle.like_core.specs.declared.view.WorkerSeatView.{WorkerSeatView}
use Rattle.like_core.specs.declared.view.View.{View}
use Rattle.like_core.specs.declared.view.View.TheVariants.{Coord, Worker}
use Rattle.like_limits.specs.Limits.{max_count}
use Rattle.like_core.specs.Functions.{update}
use Rattle.like_core.specs.core.Table.{IsShown}
use Rattle.like_core.specs.core.State.{CoreState, Label, is_split_now, after, numbers}
use Rattle.like_core.specs.core.Moves.{makes}
use Rattle.like_core.specs.WorkerState.{IsIn, phase_of}
use Rattle.like_core.specs.Post.{MayAdd, is_split_at, added}
use Rattle.like_core.specs.Additions.{added_to}
use Rattle.like_core.specs.PageSteps.{additions_among, page_step}
use Rattle.like_core.specs.views.Views.{likes_merged, adding}
use Rattle.like_core.specs.views.Reads.{IsCounted}
use Rattle.like_core.specs.views.Posts.{posts_before, posts_of}
use Rattle.like_core.specs.views.Order.{AppliesTo}
use Rattle.like_core.specs.views.Tallies.{Tallied, room}
use Rattle.like_core.proofs.views.ViewSums.{added_posts, paged, added_to-le}
use Rattle.like_core.proofs.views.Ordered.{applied_now}
use Rattle.like_core.specs.views.Layout.{word_of}
use Rattle.like_core.specs.views.Shows.{Shows, ShowsSome, FitsWorker, FitsCoord, IsEntry}
use Rattle.like_core.proofs.Updates.{update-same, update-other}
use Rattle.like_core.proofs.core.Labels.{label, added_to_here, added_to_else}
use Rattle.like_core.proofs.core.Adding.{Adding, with_applied, adds_either}
use Rattle.like_core.proofs.views.KeptOrder.{page_step_keeps_order}
use Rattle.like_core.proofs.views.KeptCounts.{addition_before, counted_on}
use Rattle.like_core.proofs.views.ViewLists.{sum_part, sum_set, sum_swap}
use Rattle.like_board.proofs.worker.Moves.{moment_of, one_seat}
use Rattle.like_board.proofs.worker.WorkerSteps.{RunsNow, runs_now}
use Rattle.like_board.proofs.Steps.{steps}
use Rattle.like_board.proofs.worker.Pages.{split_alike, page_steps}

-- what stands of likes that worker i applied to a page in phase k
abbrev pub applied_by : CoreState → ℕ → ℕ → ℕ → ℕ → List Label
applied_by s i page n = update s.applied page (s.applied page ++ replicate n (label i s.phase))

-- the view fits after its addition
fits_added : (z : Opening) (s : CoreState) (v : WorkerSeatView) (page count n number : ℕ) (rest : ℕ → List ℕ)
    → FitsWorker z s v
    → FitsWorker z (record s { unmerged = rest; applied = applied_by s v.worker page n }) (added v page count n number)
fits_added z s v page count n number rest f = record {
  opening = f.opening;
  there = f.there;
  state = f.state;
  number = f.number;
  ending = f.ending;
  masks = f.masks;
  slots = f.slots;
}

-- how long the lists are after the addition
applied_here : (s : CoreState) (i page n : ℕ) → length (applied_by s i page n page) ≡ length (s.applied page) + n
applied_here s i page n =
    ap (λ (ls : List Label). length ls) (update-same s.applied page (s.applied page ++ replicate n (label i s.phase))) ∙
    (length-append (s.applied page) (replicate n (label i s.phase)) ∙
    ap (λ (k : ℕ). length (s.applied page) + k) (length-replicate n (label i s.phase)))

applied_else : (s : CoreState) (i page n q : ℕ) → q ≢ page → length (applied_by s i page n q) ≡ length (s.applied q)
applied_else s i page n q other =
    ap (λ (ls : List Label). length ls)
    (update-other s.applied page (s.applied page ++ replicate n (label i s.phase)) q other)

-- so the likes are applied to the page
applies_to : (s : CoreState) (i page n : ℕ) (rest : ℕ → List ℕ)
    → AppliesTo i page n s (with_applied s rest page (replicate n (label i s.phase)))
applies_to s i page n rest = record {
  phase = refl;
  likes = λ other.
      let now : List Label = s.applied page ++ replicate n (label i s.phase) in
      elim (cases_eq page other) [
        | inl here ↦
            subst (λ q. applied_by s i page n q ≡ s.applied q ++ replicate (cond (page == q) n 0) (label i s.phase)) here
            (update-same s.applied page now
            ∙ ap (λ (b : Bool). s.applied page ++ replicate (cond b n 0) (label i s.phase)) (sym (eq-eqb page page refl)))
        | inr apart ↦
            update-other s.applied page now other (λ is. apart (sym is))
            ∙ sym (append-nil (s.applied other))
            ∙ ap (λ (b : Bool). s.applied other ++ replicate (cond b n 0) (label i s.phase)) (sym (ne_eqb page other apart))
      ];
}

-- what the views have added and may still add, after an addition
tallied_added : (l : Limits) (s : CoreState) (views : List View) (place : ℕ) (v : WorkerSeatView)
    (page count n number : ℕ) (rest : ℕ → List ℕ)
    → get_elem? views place ≡ some (Worker v)
    → phase_of v.state ≡ s.phase
    → added_to page (additions_among v.did) + n ≤ l.likes
    → Tallied l s views
    → Tallied l (record s { unmerged = rest; applied = applied_by s v.worker page n })
    (set views place (Worker (added v page count n number)))
tallied_added l s views place v page count n number rest at present few old =
    let w : WorkerSeatView = added v page count n number in
    λ q.
    elim (cases_eq q page) [
      | inl same ↦
          rw same
          (let before = old page in
          let swap = sum_swap (room l page) views place (Worker v) (Worker w) at in
          let more = added_to_here (additions_among v.did) (phase_of v.state) page count n in
          let long = applied_here s v.worker page n in
          omega arith)
      | inr other ↦
          let before = old q in
          let long = applied_else s v.worker page n q other in
          let same =
          sum_set (room l q) views place (Worker v) (Worker w) at
          (ap (λ (k : ℕ). l.likes - k) (added_to_else (additions_among v.did) (phase_of v.state) page count n q other))
          in
          omega arith
    ]

-- the counts that the coordinator read have none of it: in their phases nobody runs any more
counted_added : (z : Opening) (s : CoreState) (words : List ℕ) (views : List View) (place : ℕ) (v : WorkerSeatView)
    (page count n number : ℕ)
    → (sh : Shows z s words views)
    → get_elem? views place ≡ some (Worker v)
    → s.state v.worker ≡ Runs s.phase
    → phase_of v.state ≡ s.phase
    → All (IsCounted z.counts (posts_before (posts_of (set views place (Worker (added v page count n number)))))) sh.coord.counted
counted_added z s words views place v page count n number sh at runs present =
    let old : FitsWorker z s v = sh.seats.each place (Worker v) at in
    let coord : FitsCoord z s sh.coord = sh.seats.each 0 (Coord sh.coord) sh.seats.first in
    counted_on z.counts (posts_before (posts_of views))
    (posts_before (posts_of (set views place (Worker (added v page count n number))))) sh.coord.counted
    (λ k d inside.
    let r : PageCount = get_or sh.coord.counted k d in
    let of = coord.choice.counted k d inside in
    elim (cases_lt r.phase s.phase) [
      | inl over ↦ addition_before views place v page count n number (r.phase + 1) r.page at (omega arith)
      | inr not ↦
          let within = of.0 in
          absurd (subst (IsIn s.phase) runs ((of.1 (omega arith)).0 v.worker old.there))
    ])
    sh.counted

-- a count is at most as large as counts may be at the start
pub count_low : (counts : List ℕ) (page : ℕ)
    → page < length counts
    → All (λ n. n ≤ max_count) counts
    → get_or counts page 0 ≤ max_count
count_low counts page on low = All-get_or (λ (n : ℕ). n ≤ max_count) counts page 0 on low

-- something is added
some_likes : (v : WorkerSeatView) (page n : ℕ) → MayAdd v page n → 1 ≤ n
some_likes v page n may = by_test (is_split_at v page) refl
  where
    by_test : (b : Bool) → is_split_at v page ≡ b → 1 ≤ n
    by_test true sliced = (may.merge sliced).0
    by_test false plain = let one = may.like plain in omega arith

-- an addition is its events
pub adds : (z : Opening) (words : List ℕ) (views : List View) (place : ℕ) (v : WorkerSeatView) (page n : ℕ)
    → (some_state : ShowsSome z words views)
    → get_elem? views place ≡ some (Worker v)
    → MayAdd v page n
    → IsEntry z (likes_merged v page n) (makes (adding v page)) (Old (get_or words (word_of page) 0))
    (Did (page_step v.worker (phase_of v.state) page (get_or words (word_of page) 0) (Add n))) (Worker v)
    (Worker (added v page (get_or words (word_of page) 0) n (length some_state.log)))
    × ShowsSome z (set words (word_of page) ((get_or words (word_of page) 0 + n) % 2 ^ 64))
    (set views place (Worker (added v page (get_or words (word_of page) 0) n (length some_state.log))))
    × (added_to page (additions_among v.did) ≤ get_or words (word_of page) 0)
adds z words views place v page n some_state at may =
    let s = some_state.state in
    let sh = some_state.shows in
    let i = v.worker in
    let old : FitsWorker z s v = sh.seats.each place (Worker v) at in
    let now : RunsNow (λ _. Unit {0}) z s v = runs_now (λ _. Unit {0}) z words views place v some_state at may.runs in
    let present : phase_of v.state ≡ s.phase = ap phase_of now.runs in
    let marks : length v.opening.marks ≡ length z.counts =
    ap (λ (y : Opening). length y.marks) old.opening ∙ sh.opening.marks
    in
    let may_there = may.there in
    let on : page < length z.counts = omega arith in
    let few : added_to page (additions_among v.did) + n ≤ z.limits.likes =
    (let part = added_to-le (additions_among v.did) page in
    let all = may.few in
    let same = ap (λ (y : Opening). y.limits.likes) old.opening in
    omega arith)
    in
    let own_room = sum_part (room z.limits page) views place (Worker v) at in
    let bound = sh.opening.limits.likes in
    let low = count_low z.counts page on sh.opening.counts in
    let full = some_state.tallied page in
    let sums = applied_now z (moment_of z words views some_state) page in
    let posts = added_posts page views in
    let part = sum_part (paged page) views place (Worker v) at in
    let found : get_or words (word_of page) 0 ≡ get_or z.counts page 0 + length (s.applied page) =
    sh.board.pages page on in
    let same : is_split_now z s page ≡ is_split_at v page =
    split_alike z s v page old present may.known in
    let a : Adding z s i page n (likes_merged v page n) (adding v page) =
    adds_either z s i page n (is_split_at v page) same may.like
    (λ sliced. now.ending (may.merge sliced).1)
    sh.merged old.there on now.here (omega arith)
    in
    let t : CoreState = with_applied s a.rest page (replicate n (label i s.phase)) in
    let word : ℕ = (get_or words (word_of page) 0 + n) % 2 ^ 64 in
    let count : ℕ = get_or words (word_of page) 0 in
    let number : ℕ = length some_state.log in
    let w : WorkerSeatView = added v page count n number in
    let long = applied_here s i page n in
    let word_is : word ≡ get_or z.counts page 0 + length (applied_by s i page n page) = omega arith in
    let shows : Shows z t (set words (word_of page) word) (set views place (Worker w)) =
    page_steps z s a.rest (applied_by s i page n) words views place v w page word sh at refl refl on word_is
    (λ q other. applied_else s i page n q other)
    a.merged
    (fits_added z s v page count n number a.rest old)
    (counted_added z s words views place v page count n number sh at now.here present)
    in
    let some_are : 1 ≤ n = some_likes v page n may in
    let step : PageStep = page_step v.worker (phase_of v.state) page count (Add n) in
    let told =
    steps z words views place (word_of page) word (Worker v) (Worker w) (likes_merged v page n) (makes (adding v page))
    (Old count) (Did step ∷ []) t some_state at
    (record {
      before = a.before;
      permits = a.permits;
      tells = subst (λ (k : ℕ). IsShown (numbers z (fold (after z) s (likes_merged v page n))) (adding v page) (Old k))
          (sym found) a.tells;
    })
    a.leads shows
    (page_step_keeps_order z s t views some_state.log place v page count (Add n)
    (record { mine = at; once = one_seat z s words views place v sh at; present = present; finds = found }) some_are
    (applies_to s i page n a.rest) some_state.order)
    (tallied_added z.limits s views place v page count n number a.rest at present few some_state.tallied)
    in
    (told.0, told.1, omega arith)
