-- Each event keeps a state in phase, and a state in phase is exclusive.
use Rattle.std.proofs.Common.{◌≡◌, ◌≢◌, ℕ, ◌+◌, ◌%◌, ◌<◌, ◌≤◌, ◌==◌, nat_lt, ◌⊎◌, inl, inr, Bool, true, false, ◌||◌, cond, List, [], ◌∷◌, ◌++◌, subst, ap, sym, ◌∙◌, refl, arith, fold}
use Rattle.std.proofs.lemmas.Bool.{cases_lt, eqb-true, and_parts, cond-false, le-ltb}
use Rattle.like_core.specs.declared.worker_state.WorkerState.{WorkerState}
use Rattle.like_core.specs.declared.worker_state.WorkerState.TheVariants.{Runs, Answered, Gone}
use Rattle.like_core.specs.declared.event.Event.{Event}
use Rattle.like_core.specs.declared.event.Event.TheVariants.{Look, Acknowledge, Report, Retire, Like, Read, Merge, Hot, CoordLook, CoordRead, Announce, Release}
use Rattle.like_core.specs.declared.opening.Opening.{Opening}
use Rattle.like_core.specs.Functions.{update, times}
use Rattle.like_core.specs.Phase.{IsJoined, IsSplit, is_hot_by, is_marked, split_by}
use Rattle.like_core.specs.WorkerState.{IsIn, looked}
use Rattle.like_core.specs.core.Numbers.{Numbers}
use Rattle.like_core.specs.core.Table.{Permits}
use Rattle.like_core.specs.core.State.{CoreState, Label, start, without, is_split_now, after, numbers}
use Rattle.like_core.specs.core.Reachable.{Reachable, PermitsAll}
use Rattle.like_core.specs.core.Moves.{MayReturn, after_return}
use Rattle.like_core.specs.core.Exclusive.{IsExclusive, IsInPhase}
use Rattle.like_core.proofs.Updates.{update-other, update_cases}
use Rattle.like_core.proofs.Times.{times-cons_same}

-- a list that has no number is empty
pub empty_from_times : (xs : List ℕ) → ((x : ℕ) → times x xs ≡ 0) → xs ≡ []
empty_from_times [] none = refl
empty_from_times (x ∷ xs) none =
    let more = times-cons_same x xs in
    let here = none x in
    absurd (omega arith)

-- a page is split in no joined phase
pub split-IsSplit : (bound : ℕ) (marked : ℕ → Bool) (hot : ℕ → ℕ) (phase page : ℕ)
    → split_by bound marked hot phase page ≡ true
    → IsSplit phase
split-IsSplit bound marked hot phase page is =
    eqb-true (phase % 2) 1 (and_parts (phase % 2 == 1) (marked page || is_hot_by bound (hot phase) page) is).0

-- nor is it in the present one
split_now-IsSplit : (z : Opening) (s : CoreState) (page : ℕ) → is_split_now z s page ≡ true → IsSplit s.phase
split_now-IsSplit z s page is = split-IsSplit z.limits.hot (is_marked z.marks) s.hot s.phase page is

-- a state in phase is exclusive
pub exclusive : (z : Opening) (s : CoreState) → IsInPhase z s → IsExclusive s
exclusive z s p i phase running joined =
    let present = p.runs i phase running in (
      λ worker. elim (p.unmerged worker) [ inl none ↦ none | inr some ↦ let odd = some.1 in absurd (omega arith) ],
      λ worker other runs odd. let same = p.runs worker other runs in absurd (omega arith),
    )

-- what holds of one worker in phase: of its state and its unmerged likes
pub record Fits (phase : ℕ) (state : WorkerState) (likes : List ℕ) : Type 0 where
  pub runs : (j : ℕ) → state ≡ Runs j → j ≡ phase
  pub answered : (j : ℕ) → state ≡ Answered j → (j ≡ phase) ⊎ (j + 1 ≡ phase)
  pub unmerged : (likes ≡ []) ⊎ ((state ≡ Runs phase) × IsSplit phase)

-- in phase, it holds of each worker
fits_each : (z : Opening) (s : CoreState) → IsInPhase z s → (i : ℕ) → Fits s.phase (s.state i) (s.unmerged i)
fits_each z s p i = record { runs = p.runs i; answered = p.answered i; unmerged = p.unmerged i }

-- where it holds of each worker, and the rest stands, the state is in phase
in_phase : (z : Opening) (s : CoreState)
    → ((i : ℕ) → Fits s.phase (s.state i) (s.unmerged i))
    → ((i : ℕ) → z.workers ≤ i → s.state i ≡ Gone)
    → s.phase ≤ z.limits.last_phase
    → (s.ending ≡ true → s.phase < z.limits.last_phase)
    → IsInPhase z s
in_phase z s fits outside within last = record {
  runs = λ i. (fits i).runs;
  answered = λ i. (fits i).answered;
  unmerged = λ i. (fits i).unmerged;
  outside = outside;
  within = within;
  last = last;
}

-- a worker that is gone has no unmerged likes
fits_gone : (phase : ℕ) (likes : List ℕ) → likes ≡ [] → Fits phase Gone likes
fits_gone phase likes none = record { runs = λ j is. cc; answered = λ j is. cc; unmerged = inl none }

-- nor has one that has answered the present phase
fits_answered : (phase : ℕ) (likes : List ℕ) → likes ≡ [] → Fits phase (Answered phase) likes
fits_answered phase likes none =
    record { runs = λ j is. cc; answered = λ j is. inl (let same : j ≡ phase = cc in same); unmerged = inl none }

-- one that runs the present phase may have none
fits_runs : (phase : ℕ) (likes : List ℕ) → likes ≡ [] → Fits phase (Runs phase) likes
fits_runs phase likes none =
    record { runs = λ j is. (let same : j ≡ phase = cc in same); answered = λ j is. cc; unmerged = inl none }

-- and some, where that is split
fits_split : (phase : ℕ) (state : WorkerState) (old likes : List ℕ)
    → Fits phase state old
    → state ≡ Runs phase
    → IsSplit phase
    → Fits phase state likes
fits_split phase state old likes f runs odd =
    record { runs = f.runs; answered = f.answered; unmerged = inr (runs, odd) }

-- a worker that runs the present phase, which is joined, has no unmerged likes
none_in_joined : (phase : ℕ) (state : WorkerState) (likes : List ℕ)
    → Fits phase state likes
    → IsJoined phase
    → likes ≡ []
none_in_joined phase state likes f joined =
    elim f.unmerged [ inl none ↦ none | inr some ↦ let odd = some.1 in absurd (omega arith) ]

-- a look keeps it
fits_looked : (phase : ℕ) (state : WorkerState) (likes : List ℕ)
    → Fits phase state likes
    → Fits phase (looked phase state) likes
fits_looked phase (Runs j) likes f = f
fits_looked phase (Answered j) likes f =
    let none : likes ≡ [] = elim f.unmerged [ inl none ↦ none | inr some ↦ let runs = some.0 in cc ] in
    let P : Bool → Type 0 = λ b. Fits phase (cond b (Runs phase) (Answered j)) likes in
    elim (nat_lt j phase) as P [ true ↦ fits_runs phase likes none | false ↦ f ]
fits_looked phase Gone likes f = f

-- a release keeps it for a worker that is in
fits_released : (phase : ℕ) (state : WorkerState) (likes : List ℕ)
    → IsIn phase state
    → Fits phase state likes
    → Fits (phase + 1) state likes
fits_released phase (Runs j) likes is_in f = absurd is_in
fits_released phase (Answered j) likes is_in f =
    let none : likes ≡ [] = elim f.unmerged [ inl none ↦ none | inr some ↦ let runs = some.0 in cc ] in
    record {
      runs = λ k is. cc;
      answered = λ k is. inr (let same : j ≡ k = cc in omega arith);
      unmerged = inl none;
    }
fits_released phase Gone likes is_in f =
    let none : likes ≡ [] = elim f.unmerged [ inl none ↦ none | inr some ↦ let runs = some.0 in cc ] in
    fits_gone (phase + 1) likes none

-- the start is in phase
pub start_in_phase : (z : Opening) → IsInPhase z (start z)
start_in_phase z =
    let P : Bool → Type 0 = λ b. Fits 0 (cond b (Runs 0) Gone) [] in
    in_phase z (start z)
    (λ i. elim (nat_lt i z.workers) as P [ true ↦ fits_runs 0 [] refl | false ↦ fits_gone 0 [] refl ])
    (λ i past. cond-false (nat_lt i z.workers) (Runs 0) Gone (le-ltb i z.workers past))
    (omega arith)
    (λ ending. cc)

-- an event that changes one worker's state keeps the state in phase
moves_state : (z : Opening) (s : CoreState) (i : ℕ) (state : WorkerState)
    → i < z.workers
    → IsInPhase z s
    → Fits s.phase state (s.unmerged i)
    → IsInPhase z (record s { state = update s.state i state })
moves_state z s i state there p f =
    let P : ℕ → WorkerState → Type 0 = λ j st. Fits s.phase st (s.unmerged j) in
    in_phase z (record s { state = update s.state i state })
    (update_cases P s.state i state f (λ j other. fits_each z s p j))
    (λ j past. let other : j ≢ i = λ same. absurd (omega arith) in
    update-other s.state i state j other ∙ p.outside j past)
    p.within
    p.last

-- an event that changes one worker's unmerged likes in a split phase keeps the state in phase
moves_likes : (z : Opening) (s : CoreState) (i : ℕ) (likes : List ℕ)
    → IsInPhase z s
    → s.state i ≡ Runs s.phase
    → IsSplit s.phase
    → IsInPhase z (record s { unmerged = update s.unmerged i likes })
moves_likes z s i likes p runs odd =
    let P : ℕ → List ℕ → Type 0 = λ j l. Fits s.phase (s.state j) l in
    in_phase z (record s { unmerged = update s.unmerged i likes })
    (update_cases P s.unmerged i likes
    (fits_split s.phase (s.state i) (s.unmerged i) likes (fits_each z s p i) runs odd)
    (λ j other. fits_each z s p j))
    p.outside
    p.within
    p.last

-- a state that is one of two is in phase where both are
in_phase_either : (z : Opening) (b : Bool) (s t : CoreState)
    → (b ≡ true → IsInPhase z s)
    → IsInPhase z t
    → IsInPhase z (cond b s t)
in_phase_either z true s t p q = p refl
in_phase_either z false s t p q = q

-- each permitted event keeps the state in phase
pub keeps_in_phase : (z : Opening) (s : CoreState) (event : Event)
    → IsInPhase z s
    → Permits (numbers z s) event
    → IsInPhase z (after z s event)
keeps_in_phase z s (Look i) p may =
    moves_state z s i (looked s.phase (s.state i)) may.there p
    (fits_looked s.phase (s.state i) (s.unmerged i) (fits_each z s p i))
keeps_in_phase z s (Acknowledge i) p may =
    let none = none_in_joined s.phase (s.state i) (s.unmerged i) (fits_each z s p i) may.suits.1 in
    moves_state z s i (Answered s.phase) may.there p (fits_answered s.phase (s.unmerged i) none)
keeps_in_phase z s (Report i) p may =
    let none = empty_from_times (s.unmerged i) may.suits.3 in
    moves_state z s i (Answered s.phase) may.there p (fits_answered s.phase (s.unmerged i) none)
keeps_in_phase z s (Retire i) p may =
    let none = none_in_joined s.phase (s.state i) (s.unmerged i) (fits_each z s p i) may.suits.1 in
    moves_state z s i Gone may.there p (fits_gone s.phase (s.unmerged i) none)
keeps_in_phase z s (Like i page) p may =
    let sliced_like : CoreState = record s { unmerged = update s.unmerged i (s.unmerged i ++ page ∷ []) } in
    let label : Label = record { worker = i; phase = s.phase } in
    let plain_like : CoreState = record s { applied = update s.applied page (s.applied page ++ label ∷ []) } in
    in_phase_either z (is_split_now z s page) sliced_like plain_like
    (λ sliced. moves_likes z s i (s.unmerged i ++ page ∷ []) p may.suits
    (split_now-IsSplit z s page sliced))
    (record {
      runs = p.runs;
      answered = p.answered;
      unmerged = p.unmerged;
      outside = p.outside;
      within = p.within;
      last = p.last;
    })
keeps_in_phase z s (Read i page) p may = p
keeps_in_phase z s (Merge i page) p may =
    let odd = split_now-IsSplit z s page may.suits.1 in
    let q = moves_likes z s i (without page (s.unmerged i)) p may.suits.0 odd in
    record {
      runs = q.runs;
      answered = q.answered;
      unmerged = q.unmerged;
      outside = q.outside;
      within = q.within;
      last = q.last;
    }
keeps_in_phase z s (Hot i) p may = p
keeps_in_phase z s CoordLook p may = p
keeps_in_phase z s (CoordRead page) p may = p
keeps_in_phase z s Announce p may = record {
  runs = p.runs;
  answered = p.answered;
  unmerged = p.unmerged;
  outside = p.outside;
  within = p.within;
  last = λ _. may.leaves_last;
}
keeps_in_phase z s (Release mask) p may =
    let inside : (i : ℕ) → IsIn s.phase (s.state i) =
    λ i. elim (cases_lt i z.workers) [
      | inl there ↦ may.suits.1 i there
      | inr past ↦ subst (IsIn s.phase) (sym (p.outside i past)) tt
    ]
    in
    let below = p.last may.suits.0 in
    in_phase z (after z s (Release mask))
    (λ i. fits_released s.phase (s.state i) (s.unmerged i) (inside i) (fits_each z s p i))
    p.outside
    (omega arith)
    (λ ending. cc)

-- so does a worker that comes back: it has no unmerged likes
pub return_in_phase : (z : Opening) (s : CoreState) (i : ℕ)
    → IsInPhase z s
    → MayReturn z s i
    → IsInPhase z (after_return s i)
return_in_phase z s i p may =
    let gone = may.gone in
    let none : s.unmerged i ≡ [] = elim (p.unmerged i) [ inl none ↦ none | inr some ↦ let runs = some.0 in cc ] in
    moves_state z s i (Runs s.phase) may.there p (fits_runs s.phase (s.unmerged i) none)

-- every list of permitted events keeps the state in phase
pub keeps_in_phase_all : (z : Opening) (s : CoreState) (events : List Event)
    → IsInPhase z s
    → PermitsAll z s events
    → IsInPhase z (fold (after z) s events)
keeps_in_phase_all z s [] p may = p
keeps_in_phase_all z s (event ∷ events) p may =
    keeps_in_phase_all z (after z s event) events (keeps_in_phase z s event p may.0) may.1

-- every state that can be reached is in phase
pub reached_in_phase : (z : Opening) (s : CoreState) → Reachable z s → IsInPhase z s
reached_in_phase z s r =
    subst (IsInPhase z) r.reached (keeps_in_phase_all z (start z) r.events (start_in_phase z) r.permitted)

-- the same facts, of the numbers of a state
record AreInPhase (n : Numbers) : Type 0 where
  pub runs : (i phase : ℕ) → n.state i ≡ Runs phase → phase ≡ n.phase
  pub answered : (i phase : ℕ) → n.state i ≡ Answered phase → (phase ≡ n.phase) ⊎ (phase + 1 ≡ n.phase)
  pub unmerged : (i : ℕ) → ((page : ℕ) → n.unmerged i page ≡ 0) ⊎ ((n.state i ≡ Runs n.phase) × IsSplit n.phase)
  pub outside : (i : ℕ) → n.workers ≤ i → n.state i ≡ Gone
  pub within : n.phase ≤ n.limits.last_phase
  pub last : n.ending ≡ true → n.phase < n.limits.last_phase

-- states with equal numbers are in phase together
pub in_phase_alike : (z : Opening) (s t : CoreState) → numbers z s ≡ numbers z t → IsInPhase z s → IsInPhase z t
in_phase_alike z s t same p =
    let before : AreInPhase (numbers z s) =
    record {
      runs = p.runs;
      answered = p.answered;
      unmerged = λ i. elim (p.unmerged i) [ inl none ↦ inl (λ page. ap (times page) none) | inr some ↦ inr some ];
      outside = p.outside;
      within = p.within;
      last = p.last;
    }
    in
    let now = subst AreInPhase same before in
    record {
      runs = now.runs;
      answered = now.answered;
      unmerged = λ i. elim (now.unmerged i) [
        | inl none ↦ inl
            (empty_from_times (t.unmerged i) none)
        | inr some ↦ inr some
      ];
      outside = now.outside;
      within = now.within;
      last = now.last;
    }
