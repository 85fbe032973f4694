-- Once all are in, nothing changes before the release but that its end is announced, where none may come back.
use Rattle.std.proofs.Common.{◌≡◌, ◌≢◌, ℕ, ◌<◌, nat_lt, true, false, [], ◌∷◌, ◌⊎◌, inl, inr, subst, ap, sym, ◌∙◌, refl, arith, fold}
use Rattle.std.proofs.lemmas.Bool.{cond-false, le-ltb}
use Rattle.like_core.specs.declared.worker_state.WorkerState.{WorkerState}
use Rattle.like_core.specs.declared.worker_state.WorkerState.TheVariants.{Runs, Answered, Gone}
use Rattle.like_core.specs.declared.event.Event.{Event}
use Rattle.like_core.specs.declared.event.Event.TheVariants.{Look, Acknowledge, Report, Retire, Like, Read, Merge, Hot, CoordLook, CoordRead, Announce, Release}
use Rattle.like_core.specs.declared.opening.Opening.{Opening}
use Rattle.like_core.specs.Functions.{update}
use Rattle.like_core.specs.WorkerState.{IsIn, looked}
use Rattle.like_core.specs.core.Numbers.{AllIn}
use Rattle.like_core.specs.core.Table.{Permits}
use Rattle.like_core.specs.core.State.{CoreState, after, numbers}
use Rattle.like_core.specs.Functions.{MayAll}
use Rattle.like_core.specs.core.Moves.{AllInStays, AllStayIn, MayMove, MayReturn, Move, NoneReturns, makes, comes_back, glances, after_move}
use Rattle.like_core.specs.views.Serves.{moved}
use Rattle.like_core.proofs.Updates.{update_cases}

-- a look of one who is in changes nothing
pub looked_in : (phase : ℕ) (state : WorkerState) → IsIn phase state → looked phase state ≡ state
looked_in phase (Runs j) is = absurd is
looked_in phase (Answered j) is =
    cond-false (nat_lt j phase) (Runs phase) (Answered j) (le-ltb j phase (omega (arith, is)))
looked_in phase Gone is = refl

-- a move to the same state changes nothing
pub moved_same : (s : CoreState) (i : ℕ) (state : WorkerState) → state ≡ s.state i → moved s i state ≡ s
moved_same s i state same =
    let P : ℕ → WorkerState → Type 0 = λ j st. st ≡ s.state j in
    let each : (j : ℕ) → update s.state i state j ≡ s.state j = update_cases P s.state i state same (λ j other. refl) in
    λ m. record s { state = λ j. each j m }

-- while all are in, nobody runs
none_runs : (z : Opening) (s : CoreState) (i : ℕ)
    → AllIn (numbers z s)
    → i < z.workers
    → s.state i ≡ Runs s.phase
    → ⊥
none_runs z s i all there runs = subst (IsIn s.phase) runs (all i there)

-- what a move that is no release makes of a state where all are in: nothing, or the end of the phase is announced
abbrev Leaves : CoreState → CoreState → Type 0
Leaves s t = (t ≡ s) ⊎ (t ≡ record s { ending = true })

-- an event that is no release
event_leaves : (z : Opening) (s : CoreState) (event : Event)
    → AllIn (numbers z s)
    → Permits (numbers z s) event
    → ((mask : ℕ) → event ≢ Release mask)
    → Leaves s (after z s event)
event_leaves z s (Look i) all may keeps =
    inl (moved_same s i (looked s.phase (s.state i)) (looked_in s.phase (s.state i) (all i may.there)))
event_leaves z s (Acknowledge i) all may keeps = absurd (none_runs z s i all may.there may.suits.0)
event_leaves z s (Report i) all may keeps = absurd (none_runs z s i all may.there may.suits.0)
event_leaves z s (Retire i) all may keeps = absurd (none_runs z s i all may.there may.suits.0)
event_leaves z s (Like i page) all may keeps = absurd (none_runs z s i all may.there.0 may.suits)
event_leaves z s (Read i page) all may keeps = inl refl
event_leaves z s (Merge i page) all may keeps = absurd (none_runs z s i all may.there.0 may.suits.0)
event_leaves z s (Hot i) all may keeps = inl refl
event_leaves z s CoordLook all may keeps = inl refl
event_leaves z s (CoordRead page) all may keeps = inl refl
event_leaves z s Announce all may keeps = inr refl
event_leaves z s (Release mask) all may keeps = absurd (keeps mask refl)

-- so does each move, where none may come back
move_leaves : (z : Opening) (s : CoreState) (move : Move)
    → NoneReturns z s
    → AllIn (numbers z s)
    → MayMove z s move
    → ((mask : ℕ) → move ≢ makes (Release mask))
    → Leaves s (after_move z s move)
move_leaves z s (makes event) none all may keeps =
    event_leaves z s event all may (λ mask is. keeps mask (ap makes is))
move_leaves z s (comes_back i) none all may keeps =
    let back : MayReturn z s i = may in
    let ending : s.ending ≡ true = none back.lets in
    let running : s.ending ≡ false = back.running in
    absurd (cc)
move_leaves z s (glances i page) none all may keeps = inl refl

-- at an ending nothing is announced
stays : (s t : CoreState) → s.ending ≡ true → Leaves s t → t ≡ s
stays s t ending leaves = elim leaves [
  | inl same ↦ same
  | inr announced ↦ announced ∙ (λ m. record s { ending = sym ending m })
]

pub all_in_stays : AllInStays
all_in_stays z s [] ending all may none = refl
all_in_stays z s (move ∷ moves) ending all may none =
    let same : after_move z s move ≡ s =
    stays s (after_move z s move) ending (move_leaves z s move (λ _. ending) all may.0 none.0) in
    ap (λ (t : CoreState). fold (after_move z) t moves) same
    ∙ all_in_stays z s moves ending all (subst (λ (t : CoreState). MayAll (after_move z) (MayMove z) t moves) same may.1) none.1

-- all stay in, and none may come back still
move_keeps_in : (z : Opening) (s t : CoreState)
    → NoneReturns z s
    → AllIn (numbers z s)
    → Leaves s t
    → NoneReturns z t × AllIn (numbers z t)
move_keeps_in z s t none all leaves =
    let P : CoreState → Type 0 = λ u. NoneReturns z u × AllIn (numbers z u) in
    elim leaves [
      | inl same ↦ subst P (sym same) (none, all)
      | inr announced ↦ subst P (sym announced) (λ _. refl, all)
    ]

pub all_stay_in : AllStayIn
all_stay_in z s [] none all may keeps = all
all_stay_in z s (move ∷ moves) none all may keeps =
    let next = move_keeps_in z s (after_move z s move) none all (move_leaves z s move none all may.0 keeps.0) in
    all_stay_in z (after_move z s move) moves next.0 next.1 may.1 keeps.1
