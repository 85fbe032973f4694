-- What the numbers of the log tell.
use Rattle.std.proofs.Common.{◌≡◌, ℕ, zero, suc, ◌<◌, ◌≤◌, ◌==◌, ◌⊎◌, inl, inr, Bool, true, false, cond, List, [], ◌∷◌, ◌++◌, All, get_or, length, subst, ap, sym, ◌∙◌, refl, arith, append-nil}
use Rattle.std.specs.List.{Contains, count_by, flat_map}
use Rattle.std.proofs.lemmas.Bool.{cases_eq, cond-false, ne_eqb}
use Rattle.std.proofs.lemmas.List.{length-append}
use Rattle.std.proofs.lemmas.List.Elements.{All-append, All-cons, All-head, All-nil, All-tail, Contains-get_or}
use Rattle.std.proofs.lemmas.List.Sums.{sum_by-cons}
use mathlib.Core.Option.{some, some-injective, some-ne-none}
use lib.ListN.{get_elem?}
use Rattle.like_core.specs.declared.log.LogEntry.{LogEntry}
use Rattle.like_core.specs.declared.log.Logged.{Logged}
use Rattle.like_core.specs.declared.view.WorkerSeatView.{WorkerSeatView}
use Rattle.like_core.specs.declared.view.View.TheVariants.{Worker}
use Rattle.like_core.specs.Log.{PhasesRise, entry_phase, entry_worker, latest_number, logged_by, numbered}
use Rattle.like_core.specs.Post.{number_of}
use Rattle.like_core.specs.views.Clock.{AllGoOn, GoesOn, LaterOrdersContinue, NumbersRise, PhasesKeepTime, SeatsFixOrder, all_logged}
use Rattle.like_core.specs.views.Order.{HasMade}
use Rattle.like_core.specs.views.Posts.{posts_of}
use Rattle.like_core.proofs.Logs.{logged_own}
use Rattle.like_core.proofs.views.Ordered.{made_posts}
use Rattle.like_core.proofs.views.ViewLists.{put_here}

-- an entry stands in the log at the place that is its number
abbrev pub IsAt : List LogEntry → Logged → Type 0
IsAt [] e = ⊥
IsAt (entry ∷ log) e = ((e.number ≡ length log) × (e.entry ≡ entry)) ⊎ IsAt log e

pub at_below : (log : List LogEntry) (e : Logged) → IsAt log e → e.number < length log
at_below [] e at = absurd at
at_below (entry ∷ log) e (inl here) = let is = here.0 in omega arith
at_below (entry ∷ log) e (inr there) = let before = at_below log e there in omega arith

-- so do all of a worker's
pub logged_are : (i : ℕ) (log : List LogEntry) → All (IsAt log) (logged_by i log)
logged_are i [] = All-nil (IsAt [])
logged_are i (entry ∷ log) = by (entry_worker entry == i) (logged_are i log) where
  more : (es : List Logged) → All (IsAt log) es → All (IsAt (entry ∷ log)) es
  more es all = λ k d below. inr (all k d below)

  by : (b : Bool) → All (IsAt log) (logged_by i log)
      → All (IsAt (entry ∷ log)) (cond b (numbered (length log) entry ∷ logged_by i log) (logged_by i log))
  by true all =
      All-cons (IsAt (entry ∷ log)) (numbered (length log) entry) (logged_by i log) (inl (refl, refl))
      (more (logged_by i log) all)
  by false all = more (logged_by i log) all

-- what is true of all entries at their places is true of all that seats made
all_of : (P : Logged → Type 0) (log : List LogEntry) (vs : List WorkerSeatView) → ((i : ℕ) → All P (logged_by i log))
    → All (HasMade log) vs → All P (flat_map (λ v. v.logged) vs)
all_of P log [] each all = All-nil P
all_of P log (v ∷ vs) each all =
    All-append P v.logged (flat_map (λ (w : WorkerSeatView). w.logged) vs)
    (subst (All P) (All-head (HasMade log) v vs all).logged (each v.worker))
    (all_of P log vs each (All-tail (HasMade log) v vs all))

all_numbered : (log : List LogEntry) (posts : List WorkerSeatView) → All (HasMade log) posts
    → All (IsAt log) (all_logged posts)
all_numbered log posts = all_of (IsAt log) log posts (λ i. logged_are i log)

pub numbers_rise : NumbersRise
numbers_rise z events move shown entry v w step own =
    let m = step.moment in
    let log = m.shown.log in
    let has : HasMade (entry ∷ log) w =
    step.goes_on.each step.place (Worker w) (put_here m.views step.place (Worker v) (Worker w) step.mine) in
    let number : number_of w ≡ length log =
    ap (λ (es : List Logged). latest_number es) (sym has.logged ∙ logged_own w.worker entry log own) in
    λ k d below.
    let posts : List WorkerSeatView = posts_of m.views in
    let less = at_below log (get_or (all_logged posts) k d)
    (all_numbered log posts (made_posts log m.views m.shown.order.each) k d below) in
    omega (arith, less, number)

-- a list of no length
empty : (xs : List LogEntry) → length xs ≡ 0 → xs ≡ []
empty [] e = refl
empty (y ∷ ys) e = absurd (omega (arith, e))

-- an entry that stands in a longer log right behind the end of another goes on with that
goes_on : (front log : List LogEntry) (entry : LogEntry) → IsAt (front ++ log) (numbered (length log) entry)
    → (later : List LogEntry) × (front ++ log ≡ later ++ entry ∷ log)
goes_on [] log entry at = let none = at_below log (numbered (length log) entry) at in absurd (omega (arith, none))
goes_on (x ∷ front) log entry (inl here) =
    let long = here.0 in
    let sum = length-append front log in
    let none : front ≡ [] = empty front (omega (arith, long, sum)) in
    ([], λ m. sym here.1 m ∷ (none m ++ log))
goes_on (x ∷ front) log entry (inr there) =
    let rest = goes_on front log entry there in (x ∷ rest.0, ap (λ (es : List LogEntry). x ∷ es) rest.1)

-- a log that has all entries of another, with the same numbers, continues it
continues : (log later : List LogEntry) → ((i : ℕ) → All (IsAt later) (logged_by i log))
    → (more : List LogEntry) × (later ≡ more ++ log)
continues [] later has = (later, sym (append-nil later))
continues (entry ∷ log) later has =
    let before = continues log later (λ i. rest i (entry_worker entry == i) (has i)) in
    let own : All (IsAt later) (numbered (length log) entry ∷ logged_by (entry_worker entry) log) =
    subst (All (IsAt later)) (logged_own (entry_worker entry) entry log refl) (has (entry_worker entry)) in
    let at : IsAt (before.0 ++ log) (numbered (length log) entry) =
    subst (λ (es : List LogEntry). IsAt es (numbered (length log) entry)) before.1
    (All-head (IsAt later) (numbered (length log) entry) (logged_by (entry_worker entry) log) own) in
    let on = goes_on before.0 log entry at in
    (on.0, before.1 ∙ on.1) where
      rest : (i : ℕ) (b : Bool)
          → All (IsAt later) (cond b (numbered (length log) entry ∷ logged_by i log) (logged_by i log))
          → All (IsAt later) (logged_by i log)
      rest i true all = All-tail (IsAt later) (numbered (length log) entry) (logged_by i log) all
      rest i false all = all

-- a worker has a seat in a list, or none
find_seat : (i : ℕ) (vs : List WorkerSeatView)
    → ((place : ℕ) × ((v : WorkerSeatView) × (get_elem? vs place ≡ some v) × (v.worker ≡ i)))
    ⊎ (count_by (λ v. v.worker == i) vs ≡ 0)
find_seat i [] = inr refl
find_seat i (v ∷ vs) = elim (cases_eq v.worker i) [
  | inl is ↦ inl (zero, (v, refl, is))
  | inr other ↦ elim (find_seat i vs) [
    | inl there ↦ inl (suc there.0, there.1)
    | inr none ↦
        let here = cond-false {A = ℕ} (v.worker == i) 1 0 (ne_eqb v.worker i other) in
        inr (omega (arith, here, none, sum_by-cons (λ (u : WorkerSeatView). cond {A = ℕ} (u.worker == i) 1 0) v vs))
  ]
]

all_here : {A : Type 0} (P : A → Type 0) (xs : List A) (place : ℕ) (x : A) → All P xs → get_elem? xs place ≡ some x → P x
all_here P [] place x all at = absurd (some-ne-none x (sym at))
all_here P (y ∷ xs) zero x all at = subst P (some-injective y x at) (All-head P y xs all)
all_here P (y ∷ xs) (suc place) x all at = all_here P xs place x (All-tail P y xs all) at

all_behind : {A : Type 0} (P : A → Type 0) (front xs : List A) → All P (front ++ xs) → All P xs
all_behind P [] xs all = all
all_behind P (y ∷ front) xs all = all_behind P front xs (All-tail P y (front ++ xs) all)

pub later_orders_continue : LaterOrdersContinue
later_orders_continue first phase next posts later log more order then_order on = continues log more each where
  each : (i : ℕ) → All (IsAt more) (logged_by i log)
  each i = elim (find_seat i posts) [
    | inl found ↦
        let v : WorkerSeatView = found.1.0 in
        let has : HasMade log v = all_here (HasMade log) posts found.0 v order.each found.1.1 in
        let goes = all_here (λ u. (w : WorkerSeatView) × Contains later w × GoesOn u w) posts found.0 v on found.1.1 in
        let w : WorkerSeatView = goes.0 in
        let made : HasMade more w = subst (HasMade more) goes.1.2 (then_order.each goes.1.0 w goes.1.1) in
        let all : All (IsAt more) (goes.2.since ++ v.logged) =
        subst (All (IsAt more)) (made.logged ∙ goes.2.logged) (logged_are w.worker more) in
        subst (All (IsAt more)) (sym (ap (λ k. logged_by k log) (sym found.1.2) ∙ has.logged))
        (all_behind (IsAt more) goes.2.since v.logged all)
    | inr none ↦ subst (All (IsAt more)) (sym (order.others i none)) (All-nil (IsAt more))
  ]

-- each seat goes on as it is
same_seats : (posts : List WorkerSeatView) → AllGoOn posts posts
same_seats posts k d below =
    (get_or posts k d, Contains-get_or posts k d below, record { worker = refl; since = []; logged = refl })

pub seats_fix_order : SeatsFixOrder
seats_fix_order first phase next posts log other order also =
    let on = later_orders_continue first phase next posts posts log other order also (same_seats posts) in
    let back = later_orders_continue first next phase posts posts other log also order (same_seats posts) in
    let none : on.0 ≡ [] = empty on.0 (omega (
      arith,
      ap (λ (es : List LogEntry). length es) on.1,
      ap (λ (es : List LogEntry). length es) back.1,
      length-append on.0 log,
      length-append back.0 other,
    )) in
    on.1 ∙ ap (λ (es : List LogEntry). es ++ log) none

-- of phases that never fall none is later than the last
pub at_phase : (phase : ℕ) (log : List LogEntry) (e : Logged) → PhasesRise phase log → IsAt log e
    → entry_phase e.entry ≤ phase
at_phase phase [] e rise at = absurd at
at_phase phase (entry ∷ log) e rise (inl here) =
    let is = ap entry_phase here.1 in let most = rise.0 in omega arith
at_phase phase (entry ∷ log) e rise (inr there) =
    let most = rise.0 in let rest = at_phase (entry_phase entry) log e rise.1 there in omega arith

pub phases : (phase : ℕ) (log : List LogEntry) (a b : Logged) → PhasesRise phase log → IsAt log a → IsAt log b
    → entry_phase a.entry < entry_phase b.entry → a.number < b.number
phases phase [] a b rise at_a at_b less = absurd at_a
phases phase (entry ∷ log) a b rise (inl here) (inl there) less =
    let one = ap entry_phase here.1 in let two = ap entry_phase there.1 in absurd (omega arith)
phases phase (entry ∷ log) a b rise (inl here) (inr before) less =
    let one = ap entry_phase here.1 in
    let most = at_phase (entry_phase entry) log b rise.1 before in
    absurd (omega arith)
phases phase (entry ∷ log) a b rise (inr before) (inl there) less =
    let below = at_below log a before in let is = there.0 in omega arith
phases phase (entry ∷ log) a b rise (inr before) (inr also) less =
    phases (entry_phase entry) log a b rise.1 before also less

pub phases_keep_time : PhasesKeepTime
phases_keep_time first phase posts log order a b in_a in_b less =
    let numbered_all = all_numbered log posts order.each in
    phases phase log a b order.rising (subst (IsAt log) in_a.2 (numbered_all in_a.0 a in_a.1))
    (subst (IsAt log) in_b.2 (numbered_all in_b.0 b in_b.1)) less
