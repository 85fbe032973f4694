-- What a look at a board shows, whose views are known: the phase, whether it is ending, who is in and who is gone; and
-- what count a page has.
use Rattle.std.proofs.Common.{◌≡◌, ℕ, suc, ◌+◌, ◌<◌, ◌≤◌, ◌==◌, nat_lt, ◌≢◌, Bool, cond, inl, inr, List, [], ◌∷◌, length, get_or, slice_index, subst, ap, sym, ◌∙◌, refl, arith}
use Rattle.std.specs.List.{sum_by}
use Rattle.std.specs.Prelude.{count_by}
use Rattle.std.proofs.lemmas.List.Sums.{sum_by-cons}
use Rattle.std.proofs.lemmas.Bool.{cases_eq, cases_lt, cond-true, lt-ltb, ne_eqb}
use mathlib.Core.Option.{some, some-injective}
use lib.ListN.{get_elem?}
use Rattle.like_core.specs.declared.form.Form.{Form}
use Rattle.like_core.specs.declared.limits.Limits.{Limits}
use Rattle.like_core.specs.declared.opening.Opening.{Opening}
use Rattle.like_core.specs.declared.worker_state.WorkerState.{WorkerState}
use Rattle.like_core.specs.declared.worker_state.WorkerState.TheVariants.{Gone}
use Rattle.like_core.specs.declared.view.WorkerSeatView.{WorkerSeatView}
use Rattle.like_core.specs.declared.view.CoordSeatView.{CoordSeatView}
use Rattle.like_core.specs.declared.view.View.{View}
use Rattle.like_core.specs.declared.view.View.TheVariants.{Coord, Worker, Spent}
use Rattle.like_core.specs.WorkerState.{IsIn, turn_of}
use Rattle.like_core.specs.word.Forms.{form_of}
use Rattle.like_core.specs.core.Numbers.{AllIn, AllGone, CoordSees, Sees}
use Rattle.like_core.specs.core.State.{CoreState, numbers}
use Rattle.like_core.proofs.views.Ordered.{applied_now}
use Rattle.like_core.specs.views.Layout.{word_of}
use Rattle.like_core.specs.views.Places.{count_after}
use Rattle.like_core.specs.views.Sights.{sight_in, coord_sight_in}
use Rattle.like_core.specs.views.Views.{seats_of}
use Rattle.like_core.specs.views.Shows.{FitsCoord, FitsWorker, Shows, ShowsSome}
use Rattle.like_core.proofs.core.Moved.{moved_in_phase}
use Rattle.like_core.proofs.word.Serving.{coord_sees, serves, worker_sees}
use Rattle.like_board.specs.Known.{coord_view_of}
use Rattle.like_board.specs.Own.{IsPresentCount, ShowsPhase, ShowsWorkers}
use Rattle.like_board.specs.Plays.{coord_sight_at, sight_at}
use Rattle.like_board.proofs.worker.Moves.{coord_opens, moment_of}

-- a worker's look shows the phase and its end, as the coordinator knows them
pub shows_phase : (z : Opening) (words : List ℕ) (views : List View) (place : ℕ) (v : WorkerSeatView)
    → ShowsSome z words views
    → get_elem? views place ≡ some (Worker v)
    → v.state ≢ Gone
    → ShowsPhase views (sight_at z (get_or words 0 0) v.state)
shows_phase z words views place v some_state at there c first =
    let s = some_state.state in
    let sh = some_state.shows in
    let old : FitsWorker z s v = sh.seats.each place (Worker v) at in
    let lead : FitsCoord z s c = sh.seats.each 0 (Coord c) first in
    let sees : Sees (numbers z s) v.worker (sight_at z (get_or words 0 0) v.state) =
    subst (Sees (numbers z s) v.worker) (λ m. sight_at z (sym sh.board.phase m) (old.state m))
    (worker_sees (form_of z.limits.form) z s v.worker (serves z s sh.opening some_state.reachable)
    (moved_in_phase z s some_state.reachable) (λ gone. there (sym old.state ∙ gone))) in
    (sees.number ∙ sym lead.phase.present, sees.ending ∙ sym lead.phase.ending)

-- the sight by what the seat keeps is that one
pub sight_is : (z y : Opening) (form : Form) (turn word found : ℕ) (state : WorkerState)
    → form ≡ y.limits.form
    → y ≡ z
    → turn ≡ turn_of state
    → found ≡ word
    → sight_in (form_of form) turn found ≡ sight_at z word state
sight_is z y form turn word found state formed opened turned same =
    λ m. sight_in (form_of ((formed ∙ ap (λ (x : Opening). x.limits.form) opened) m)) (turned m) (same m)

-- and so is the coordinator's
pub coord_sight_is : (z y : Opening) (limits : Limits) (workers word found : ℕ)
    → limits ≡ y.limits
    → y ≡ z
    → workers ≡ y.workers
    → found ≡ word
    → coord_sight_in (form_of limits.form) workers found ≡ coord_sight_at z word
coord_sight_is z y limits workers word found limited opened all same =
    λ m. coord_sight_in (form_of ((limited ∙ ap (λ (x : Opening). x.limits) opened) m).form)
    ((all ∙ ap (λ (x : Opening). x.workers) opened) m) (same m)

-- where a sum is not 0, a part is not
part_of : {A : Type 0} (f : A → ℕ) (l : List A) → 1 ≤ sum_by f l
    → (place : ℕ) × (x : A) × (get_elem? l place ≡ some x) × (1 ≤ f x)
part_of f [] some_ = absurd (omega arith)
part_of f (x ∷ l) some_ =
    let both = sum_by-cons f x l in
    elim (cases_lt 0 (f x)) [
      | inl here ↦ (0, x, refl, here)
      | inr none ↦ let later = part_of f l (omega (arith, both, none, some_)) in (suc later.0, later.1, later.2, later.3)
    ]

-- a worker whose seat is counted in a view has that view
seat_in : (i : ℕ) (views : List View) (place : ℕ) (v : View)
    → ((d : CoordSeatView) → get_elem? views place ≡ some (Coord d) → d.joined ≡ [])
    → get_elem? views place ≡ some v
    → 1 ≤ seats_of i v
    → (w : WorkerSeatView) × (get_elem? views place ≡ some (Worker w)) × (w.worker ≡ i)
seat_in i views place (Coord d) none at some_ =
    let empty : count_by (λ (w : WorkerSeatView). w.worker == i) d.joined ≡ 0 =
    ap (λ (l : List WorkerSeatView). count_by (λ (w : WorkerSeatView). w.worker == i) l) (none d at) in
    absurd (omega arith)
seat_in i views place (Worker w) none at some_ = (
  w,
  at,
  elim (cases_eq w.worker i) [
    | inl same ↦ same
    | inr other ↦
        let not_one : cond (w.worker == i) 1 0 ≡ 0 =
        ap (λ (b : Bool). cond {A = ℕ} b 1 0) (ne_eqb w.worker i other) in
        absurd (omega arith)
  ],
)
seat_in i views place Spent none at some_ = absurd (omega arith)

-- the coordinator's view is what the rule says that the coordinator knows
coord_is : (z : Opening) (s : CoreState) (words : List ℕ) (views : List View) (place : ℕ) (c : CoordSeatView)
    (sh : Shows z s words views)
    → get_elem? views place ≡ some (Coord c)
    → (place ≡ 0) × (sh.coord ≡ c)
coord_is z s words views place c sh at =
    let first : place ≡ 0 = sh.seats.only place c at in
    let here : get_elem? views 0 ≡ some (Coord c) = subst (λ (p : ℕ). get_elem? views p ≡ some (Coord c)) first at in
    (first, ap coord_view_of (some-injective (Coord sh.coord) (Coord c) (sym sh.seats.first ∙ here)))

-- each worker has a view, where all seats were made and none was given back
holder : (z : Opening) (s : CoreState) (words : List ℕ) (views : List View) (c : CoordSeatView) (i : ℕ)
    → Shows z s words views
    → get_elem? views 0 ≡ some (Coord c)
    → c.made ≡ z.workers
    → c.joined ≡ []
    → i < z.workers
    → (place : ℕ) × (w : WorkerSeatView) × (get_elem? views place ≡ some (Worker w)) × (w.worker ≡ i)
holder z s words views c i sh at made none below =
    let same = (coord_is z s words views 0 c sh at).1 in
    let one : sum_by (seats_of i) views ≡ 1 =
    sh.seats.once i ∙ ap (λ (d : CoordSeatView). cond {A = ℕ} (nat_lt i d.made) 1 0) same
    ∙ cond-true {A = ℕ} (nat_lt i c.made) 1 0 (lt-ltb i c.made (omega (arith, made, below))) in
    let found = part_of (seats_of i) views (omega (arith, one)) in
    let seat = seat_in i views found.0 found.1
    (λ d there. let is = (coord_is z s words views found.0 d sh there).1 in
    ap (λ (e : CoordSeatView). e.joined) (sym is ∙ same) ∙ none) found.2 found.3 in
    (found.0, seat.0, seat.1, seat.2)

-- a look of the coordinator shows who is in and who is gone, by what the workers know
pub shows_workers : (z : Opening) (words : List ℕ) (views : List View) (c : CoordSeatView)
    → ShowsSome z words views
    → get_elem? views 0 ≡ some (Coord c)
    → c.made ≡ z.workers
    → c.joined ≡ []
    → ShowsWorkers c.phase views (coord_sight_at z (get_or words 0 0))
shows_workers z words views c some_state at made none =
    let s = some_state.state in
    let sh = some_state.shows in
    let f = form_of z.limits.form in
    let lead : FitsCoord z s c = sh.seats.each 0 (Coord c) at in
    let sees : CoordSees (numbers z s) (coord_sight_at z (get_or words 0 0)) =
    subst (λ (w : ℕ). CoordSees (numbers z s) (coord_sight_at z w)) (sym sh.board.phase)
    (coord_sees f z s (serves z s sh.opening some_state.reachable)) in
    let state_is : (place : ℕ) (v : WorkerSeatView) → get_elem? views place ≡ some (Worker v)
    → (s.state v.worker ≡ v.state) × (v.worker < z.workers) =
    λ place v there. (let fits : FitsWorker z s v = sh.seats.each place (Worker v) there in (fits.state, fits.there)) in
    record {
      all_in = (
        λ is place v there.
            let all : AllIn (numbers z s) = sees.all_in.0 is in
            let own = state_is place v there in
            subst (λ (p : ℕ). IsIn p v.state) (sym lead.phase.present)
            (subst (IsIn s.phase) own.0 (all v.worker own.1)),
        λ all. sees.all_in.1 (λ i below.
            let w = holder z s words views c i sh at made none below in
            let own = state_is w.0 w.1 w.2 in
            subst (λ (p : ℕ). IsIn p (s.state i)) lead.phase.present
            (subst (λ (j : ℕ). IsIn c.phase (s.state j)) w.3
            (subst (IsIn c.phase) (sym own.0) (all w.0 w.1 w.2)))),
      );
      all_gone = (
        λ is place v there.
            let all : AllGone (numbers z s) = sees.all_gone.0 is in
            let own = state_is place v there in
            sym own.0 ∙ all v.worker own.1,
        λ all. sees.all_gone.1 (λ i below.
            let w = holder z s words views c i sh at made none below in
            let own = state_is w.0 w.1 w.2 in
            ap s.state (sym w.3) ∙ own.0 ∙ all w.0 w.1 w.2),
      );
    }

-- a page's word is its count at the start and all that the views have added
pub present_count : (z : Opening) (words : List ℕ) (views : List View) (page : ℕ)
    → ShowsSome z words views
    → page < length z.counts
    → IsPresentCount views page (get_or words (word_of page) 0)
present_count z words views page some_state below c first =
    some_state.shows.board.pages page below
    ∙ ap (λ n. slice_index z.counts page + n) (applied_now z (moment_of z words views some_state) page)
    ∙ ap (λ (y : Opening). count_after y.counts views page) (sym (coord_opens z words views 0 c some_state first))
