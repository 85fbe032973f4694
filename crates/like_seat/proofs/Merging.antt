-- A slice that is merged.
use Rattle.std.proofs.Common.{◌≡◌, ◌≢◌, ◌+◌, ℕ, List, length, length-set, sum, true, refl, ap, sym, ◌∙◌, arith}
use Rattle.std.proofs.lemmas.List.{length-replicate}
use Rattle.like_core.specs.declared.worker_state.WorkerState.{WorkerState}
use Rattle.like_core.specs.declared.worker_state.WorkerState.TheVariants.{Answered, Gone, Runs}
use Rattle.like_core.specs.Additions.{addition, all_added}
use Rattle.like_core.specs.Post.{MayAdd, added, answered, pages_of}
use Rattle.like_core.specs.WorkerState.{IsRunning, RunsSplit, SawEnding, phase_of}
use Rattle.like_core.specs.PageSteps.{additions_among}
use Rattle.like_core.specs.declared.view.WorkerSeatView.{WorkerSeatView}
use Rattle.like_tables.specs.SplitSlice.{IsSplitSlice, SplitSlice, bucket_in, by_page, has_split, likes_in, no_slice, with_likes}
use Rattle.like_tables.proofs.ByPage.{by_page-none}
use Rattle.like_seat.specs.declared.tables.Tables.{Tables}
use Rattle.like_seat.specs.Kept.{IsKept}
use Rattle.like_seat.proofs.Keeping.{Kept-unsplit, Kept-written, by_page-no_slice, knows-split, sum-written}
use Rattle.like_seat.proofs.MergedLikes.{all_added-push}

-- a station that has merged its slice may answer
pub IsKept-reported : {W C : Type 0} (post : WorkerSeatView) (t : Tables W C) (phase : ℕ)
    → IsKept post t
    → ((page : ℕ) → likes_in t.slice page ≡ 0)
    → phase ≡ phase_of t.state
    → IsKept (answered post) (record t { state = Answered phase; slice = no_slice t.slice.splits.factor (length t.slice.counts) })
IsKept-reported post t phase k none is =
    let f : ℕ = t.slice.splits.factor in
    let m : ℕ = length t.slice.counts in
    let n : ℕ = pages_of post in
    let empty : by_page (no_slice f m) n ≡ by_page t.slice n = by_page-no_slice f m n ∙ sym (by_page-none t.slice n none) in
    let likes : t.likes.likes ≡ all_added (additions_among post.did) + sum (by_page (no_slice f m) n) =
    k.likes ∙ ap (λ (xs : List ℕ). all_added (additions_among post.did) + sum xs) (sym empty) in
    Kept-unsplit (answered post) (record t { state = Answered phase; slice = no_slice f m }) f m (λ runs. absurd runs) refl
    k.factor k.slice.pages.factor
    (λ page there. omega (arith, k.numbers page there, length-replicate {A = ℕ} m 0)) k.run
    k.service (ap (λ n. Answered n) (ap phase_of k.state ∙ sym is)) likes
    (omega (arith, k.likes, k.station.few)) k.station.few_pages k.station.limits k.station.within k.station.waiting

-- a page's likes were added to its count, and taken out of the slice
pub IsKept-merged : {W C : Type 0} (post : WorkerSeatView) (t : Tables W C) (page old likes number : ℕ)
    (after : SplitSlice)
    → IsKept post t
    → has_split t.slice page ≡ true
    → likes ≡ likes_in t.slice page
    → after ≡ with_likes t.slice page 0
    → sum after.counts + likes ≡ sum t.slice.counts
    → IsSplitSlice after
    → IsKept (added post page old likes number) (record t { slice = after })
IsKept-merged {W} {C} post t page old likes number after k split likes_are is total lawful =
    let n : ℕ = pages_of post in
    let there = ((k.splits page).0 split).1 in
    let sums : sum (by_page after n) ≡ sum after.counts =
    ap (λ (s : SplitSlice). sum (by_page s n)) is
    ∙ sum-written t.slice n page 0 (sum after.counts) k.slice split there k.sums (omega (arith, total, likes_are)) in
    let more = all_added-push (additions_among post.did) (addition (phase_of post.state) page old likes) in
    let now : WorkerSeatView = added post page old likes number in
    Kept-written post now.did now.logged t (record t { slice = after }) k refl refl refl
    (ap (λ (s : SplitSlice). s.splits) is)
    (ap (λ (s : SplitSlice). length s.counts) is ∙ length-set t.slice.counts (bucket_in t.slice page) 0) lawful sums
    (omega (arith, k.likes, k.sums, total, sums, more)) (omega (arith, k.likes, k.station.few))

-- who runs a split phase runs a phase
split-runs : (s : WorkerState) → RunsSplit s → IsRunning s
split-runs (Runs k) odd = tt
split-runs (Answered k) odd = absurd odd
split-runs Gone odd = absurd odd

-- all likes of a page in the slice may be added to its count, once the end of the phase was seen
pub may-merge : {W C : Type 0} (post : WorkerSeatView) (t : Tables W C) (page likes : ℕ) (after : SplitSlice)
    → IsKept post t
    → has_split t.slice page ≡ true
    → likes_in t.slice page ≢ 0
    → likes ≡ likes_in t.slice page
    → sum after.counts + likes ≡ sum t.slice.counts
    → SawEnding post.last
    → MayAdd post page likes
may-merge post t page likes after k split liked likes_are total ending =
    let own = (k.splits page).0 split in
    let runs = split-runs post.state own.0 in
    record {
      runs = runs;
      there = own.1;
      known = knows-split post page runs k.station.masked;
      like = λ plain. absurd (cc (plain, own.2));
      merge = λ _. (omega (arith, liked, likes_are), ending);
      few = omega (arith, k.station.few, k.sums, total);
    }
