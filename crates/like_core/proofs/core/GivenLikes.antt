-- Unmerged likes that workers are given lead to reachable states.
use Rattle.std.proofs.Common.{◌≡◌, ℕ, zero, suc, ◌+◌, ◌<◌, ◌≤◌, inl, inr, true, List, [], ◌∷◌, ◌++◌, length, append_assoc, subst, ap, sym, ◌∙◌, refl, arith}
use Rattle.std.proofs.lemmas.Bool.{cases_lt, cases_eq, cond-true}
use Rattle.std.proofs.lemmas.List.{append-nil}
use Rattle.like_core.specs.declared.worker_state.WorkerState.TheVariants.{Runs}
use Rattle.like_core.specs.declared.event.Event.{Event}
use Rattle.like_core.specs.declared.event.Event.TheVariants.{Like}
use Rattle.like_core.specs.declared.opening.Opening.{Opening}
use Rattle.like_limits.specs.Limits.{total_bound}
use Rattle.like_core.specs.Functions.{update, times}
use Rattle.like_core.specs.core.Numbers.{total}
use Rattle.like_core.specs.core.Table.{Permits}
use Rattle.like_core.specs.core.State.{CoreState, is_split_now, after, numbers}
use Rattle.like_core.specs.core.Reachable.{Reachable}
use Rattle.like_core.specs.core.Moves.{Reached}
use Rattle.like_core.specs.core.Exclusive.{IsInPhase}
use Rattle.like_core.specs.core.Likes.{given, MayLike, LikesStay}
use Rattle.like_core.proofs.Updates.{update-same, update-other, update_cases}
use Rattle.like_core.proofs.Sums.{sum_below-same, sum_below-le, sum_below-update}
use Rattle.like_core.proofs.Times.{times-append, times-cons, times-cons_same}
use Rattle.like_core.proofs.core.InPhase.{reached_in_phase, empty_from_times}
use Rattle.like_core.proofs.core.Reached.{goes_on_by}
use Rattle.like_core.proofs.core.Moved.{moved_in_phase, moves_by}

-- one worker has unmerged likes of these pages more
abbrev pub given_to : CoreState → ℕ → List ℕ → CoreState
given_to s i likes = record s { unmerged = update s.unmerged i (s.unmerged i ++ likes) }

-- what one worker is given counts for the totals
pub total-given_to : (z : Opening) (s : CoreState) (i : ℕ) (likes : List ℕ) (page : ℕ)
    → i < z.workers
    → total (numbers z (given_to s i likes)) page ≡ total (numbers z s) page + times page likes
total-given_to z s i likes page there =
    let all : ℕ → ℕ = λ j. times page (s.unmerged j) in
    let more : ℕ = times page (s.unmerged i ++ likes) in
    let P : ℕ → List ℕ → Type 0 = λ j l. times page l ≡ update all i more j in
    let each : (j : ℕ) → times page (update s.unmerged i (s.unmerged i ++ likes) j) ≡ update all i more j =
    update_cases P s.unmerged i (s.unmerged i ++ likes) (sym (update-same all i more))
    (λ j other. sym (update-other all i more j other))
    in
    let same = sum_below-same (λ j. times page (update s.unmerged i (s.unmerged i ++ likes) j))
    (update all i more) z.workers (λ j _. each j) in
    let changed = sum_below-update all i more z.workers there in
    let joined = times-append page (s.unmerged i) likes in
    omega arith

-- a worker that is given likes one by one has them all
pub given_to-cons : (s : CoreState) (i page : ℕ) (likes : List ℕ)
    → given_to (given_to s i (page ∷ [])) i likes ≡ given_to s i (page ∷ likes)
given_to-cons s i page likes =
    let one : List ℕ = s.unmerged i ++ page ∷ [] in
    let all : List ℕ = s.unmerged i ++ page ∷ likes in
    let first : ℕ → List ℕ = update s.unmerged i one in
    let P : ℕ → List ℕ → Type 0 = λ j l. l ≡ update s.unmerged i all j in
    let joined : first i ++ likes ≡ all =
    ap (λ (l : List ℕ). l ++ likes) (update-same s.unmerged i one) ∙ append_assoc (s.unmerged i) (page ∷ []) likes
    in
    let each : (j : ℕ) → update first i (first i ++ likes) j ≡ update s.unmerged i all j =
    update_cases P first i (first i ++ likes)
    (joined ∙ sym (update-same s.unmerged i all))
    (λ j other. update-other s.unmerged i one j other ∙ sym (update-other s.unmerged i all j other))
    in
    λ m. record s { unmerged = λ j. each j m }

-- a worker that is given nothing has what it had
pub given_to-nil : (s : CoreState) (i : ℕ) → given_to s i [] ≡ s
given_to-nil s i =
    let P : ℕ → List ℕ → Type 0 = λ j l. l ≡ s.unmerged j in
    let each = update_cases P s.unmerged i (s.unmerged i ++ []) (append-nil (s.unmerged i)) (λ j other. refl) in
    λ m. record s { unmerged = λ j. each j m }

-- a sliced like gives its worker one page
pub after-like : (z : Opening) (s : CoreState) (i page : ℕ)
    → is_split_now z s page ≡ true
    → after z s (Like i page) ≡ given_to s i (page ∷ [])
after-like z s i page sliced = cond-true (is_split_now z s page) _ _ sliced

-- states that permitted events don't leave, all in phase
record GoesOn (R : Opening → CoreState → Type 0) : Type 0 where
  pub in_phase : (z : Opening) (s : CoreState) → R z s → IsInPhase z s
  pub on : (z : Opening) (s : CoreState) (event : Event) → R z s → Permits (numbers z s) event → R z (after z s event)

-- likes for one worker don't leave them
reach_given_to : (R : Opening → CoreState → Type 0) (z : Opening) (s : CoreState) (i : ℕ) (likes : List ℕ)
    → GoesOn R
    → R z s
    → ((page : ℕ) → 0 < times page likes
    → (s.state i ≡ Runs s.phase) × (page < length z.counts) × (is_split_now z s page ≡ true))
    → ((page : ℕ) → total (numbers z (given_to s i likes)) page < total_bound)
    → R z (given_to s i likes)
reach_given_to R z s i [] goes r pages totals = subst (R z) (sym (given_to-nil s i)) r
reach_given_to R z s i (page ∷ likes) goes r pages totals =
    let more = times-cons_same page likes in
    let first = pages page (omega arith) in
    let there : i < z.workers =
    elim (cases_lt i z.workers) [
      | inl within ↦ within
      | inr past ↦ let gone = (goes.in_phase z s r).outside i past in let runs = first.0 in cc
    ]
    in
    let sum = total-given_to z s i (page ∷ likes) page there in
    let small = totals page in
    let may : Permits (numbers z s) (Like i page) =
    record { there = (there, first.1); suits = first.0; leaves_last = tt; room = omega arith }
    in
    let one : R z (given_to s i (page ∷ [])) =
    subst (R z) (after-like z s i page first.2) (goes.on z s (Like i page) r may)
    in
    let all = given_to-cons s i page likes in
    subst (R z) all
    (reach_given_to R z (given_to s i (page ∷ [])) i likes goes one
    (λ other stands. pages other (let step = times-cons other page likes in omega arith))
    (λ other. subst (λ (t : CoreState). total (numbers z t) other < total_bound) (sym all) (totals other)))

-- fewer likes make smaller totals
pub total-given-le : (z : Opening) (s : CoreState) (fewer more : ℕ → List ℕ) (page : ℕ)
    → ((i : ℕ) → times page (fewer i) ≤ times page (more i))
    → total (numbers z (given s fewer)) page ≤ total (numbers z (given s more)) page
total-given-le z s fewer more page each =
    let sums =
    sum_below-le (λ i. times page (s.unmerged i ++ fewer i)) (λ i. times page (s.unmerged i ++ more i)) z.workers
    (λ i.
    let less = times-append page (s.unmerged i) (fewer i) in
    let full = times-append page (s.unmerged i) (more i) in
    let here = each i in
    omega arith)
    in
    omega arith

-- nor do likes for each worker below n
reach_given : (R : Opening → CoreState → Type 0) (z : Opening) (s : CoreState) (n : ℕ) (more : ℕ → List ℕ)
    → GoesOn R
    → R z s
    → MayLike z s more
    → ((i : ℕ) → n ≤ i → more i ≡ [])
    → R z (given s more)
reach_given R z s zero more goes r may none =
    let each : (i : ℕ) → s.unmerged i ≡ s.unmerged i ++ more i =
    λ i. sym (ap (λ (l : List ℕ). s.unmerged i ++ l) (none i (omega arith)) ∙ append-nil (s.unmerged i))
    in
    let same : s ≡ given s more = λ m. record s { unmerged = λ i. each i m } in
    subst (R z) same r
reach_given R z s (suc n) more goes r may none =
    let fewer : ℕ → List ℕ = update more n [] in
    let less : (page i : ℕ) → times page (fewer i) ≤ times page (more i) =
    λ page.
    let P : ℕ → List ℕ → Type 0 = λ i l. times page l ≤ times page (more i) in
    update_cases P more n [] (omega arith) (λ i other. omega arith)
    in
    let may_less : MayLike z s fewer =
    record {
      runs = λ i page some. may.runs i page (let h = less page i in omega arith);
      there = λ i page some. may.there i page (let h = less page i in omega arith);
      splits = λ i page some. may.splits i page (let h = less page i in omega arith);
      totals =
          λ page.
          let all = may.totals page in
          let h = total-given-le z s fewer more page (less page) in
          omega arith;
    }
    in
    let none_less : (i : ℕ) → n ≤ i → fewer i ≡ [] =
    λ i above.
    elim (cases_eq i n) [
      | inl same ↦ ap fewer same ∙ update-same more n []
      | inr other ↦ update-other more n [] i other ∙ none i (omega arith)
    ]
    in
    let reached = reach_given R z s n fewer goes r may_less none_less in
    let P : ℕ → List ℕ → Type 0 = λ i l. l ≡ s.unmerged i ++ more i in
    let each =
    update_cases P (given s fewer).unmerged n ((given s fewer).unmerged n ++ more n)
    (ap (λ (l : List ℕ). (s.unmerged n ++ l) ++ more n) (update-same more n [])
    ∙ ap (λ (l : List ℕ). l ++ more n) (append-nil (s.unmerged n)))
    (λ i other. ap (λ (l : List ℕ). s.unmerged i ++ l) (update-other more n [] i other))
    in
    let same : given_to (given s fewer) n (more n) ≡ given s more = λ m. record s { unmerged = λ i. each i m } in
    subst (R z) same
    (reach_given_to R z (given s fewer) n (more n) goes reached
    (λ page some. (may.runs n page some, may.there n page some, may.splits n page some))
    (λ page. subst (λ (t : CoreState). total (numbers z t) page < total_bound) (sym same) (may.totals page)))

-- nor do likes of pages that are split
likes_stay : (R : Opening → CoreState → Type 0) (z : Opening) (s : CoreState) (more : ℕ → List ℕ)
    → GoesOn R
    → R z s
    → MayLike z s more
    → R z (given s more)
likes_stay R z s more goes r may =
    reach_given R z s z.workers more goes r may
    (λ i past.
    empty_from_times (more i)
    (λ page.
    elim (cases_lt 0 (times page (more i))) [
      | inl some ↦
          let gone = (goes.in_phase z s r).outside i past in let runs = may.runs i page some in cc
      | inr none ↦ omega arith
    ]))

-- a state that events reach, they reach with such likes too
pub likes_stay_reachable : LikesStay Reachable
likes_stay_reachable z s more r may =
    likes_stay Reachable z s more (record { in_phase = reached_in_phase; on = goes_on_by }) r may

-- and so do moves
pub likes_stay_reached : LikesStay Reached
likes_stay_reached z s more r may =
    likes_stay Reached z s more (record { in_phase = moved_in_phase; on = moves_by }) r may
