-- Each step of a worker is the event, and keeps what the board shows.
use Rattle.std.proofs.Common.{◌≡◌, ◌≢◌, ℕ, ◌+◌, ◌%◌, ◌<◌, ◌≤◌, nat_lt, Bool, true, false, cond, ◌⊎◌, inl, inr, IsTrue, ◌↔◌, MatchBool, List, [], ◌∷◌, length, get_or, set, subst, ap, sym, ◌∙◌, refl, arith}
use Rattle.std.proofs.lemmas.Bool.{cond-true, cond-false, lt-ltb, le-ltb}
use mathlib.Core.Option.{some}
use lib.ListN.{get_elem?}
use Rattle.like_core.specs.declared.worker_state.WorkerState.{WorkerState}
use Rattle.like_core.specs.declared.worker_state.WorkerState.TheVariants.{Runs, Answered, Gone}
use Rattle.like_core.specs.declared.log.LogEntry.TheVariants.{Saw}
use Rattle.like_core.specs.declared.sight.Sight.{Sight}
use Rattle.like_core.specs.declared.event.Event.{Event}
use Rattle.like_core.specs.declared.event.Event.TheVariants.{Look, Acknowledge, Report, Retire}
use Rattle.like_core.specs.declared.shown.Shown.TheVariants.{Seen, Done}
use Rattle.like_core.specs.declared.opening.Opening.{Opening}
use Rattle.like_core.specs.declared.view.WorkerSeatView.{WorkerSeatView}
use Rattle.like_core.specs.declared.view.View.{View}
use Rattle.like_core.specs.declared.view.View.TheVariants.{Worker}
use Rattle.like_core.specs.Functions.{times}
use Rattle.like_core.specs.Phase.{IsJoined, IsSplit}
use Rattle.like_core.specs.WorkerState.{IsIn, looked, RunsSome, IsSightOf, seen, phase_of, IsRunning, RunsJoined, RunsSplit, SawEnding, running_sight}
use Rattle.like_core.specs.word.Forms.{WordForm, form_of}
use Rattle.like_core.specs.core.Numbers.{Sees}
use Rattle.like_core.specs.core.Exclusive.{NoneUnmerged}
use Rattle.like_core.specs.core.State.{CoreState, after, numbers}
use Rattle.like_core.specs.core.Moves.{LetsReturn, MayReturn, after_return, comes_back, makes}
use Rattle.like_core.specs.word.ShownWord.{shown_word}
use Rattle.like_core.specs.views.Order.{IsOrder}
use Rattle.like_core.specs.views.Shows.{Happen, Shows, ShowsSome, FitsWorker, IsEntry, IsStep}
use Rattle.like_core.specs.views.Serves.{Serves, moved}
use Rattle.like_core.proofs.Updates.{update-same}
use Rattle.like_core.proofs.core.Moved.{moved_in_phase}
use Rattle.like_core.proofs.core.Staying.{looked_in}
use Rattle.like_core.proofs.word.Serving.{even_runs, serves, worker_sees}
use Rattle.like_core.proofs.views.KeptOrder.{look_keeps_order, same_worker}
use Rattle.like_core.specs.Post.{looked_at, answered, retired, returned}
use Rattle.like_board.specs.Plays.{Looked, phase_at, sight_at}
use Rattle.like_board.proofs.worker.Moves.{one_seat, worker_moves}
use Rattle.like_board.proofs.Steps.{steps, steps_by}
use Rattle.like_board.proofs.Tallying.{tallied_on}

-- the phase that a worker runs
pub running_is : (P : ℕ → Type 0) (state : WorkerState)
    → RunsSome P state
    → (phase : ℕ) × (state ≡ Runs phase) × P phase
running_is P (Runs phase) h = (phase, refl, h)
running_is P (Answered phase) h = absurd h
running_is P Gone h = absurd h

-- a worker that runs a phase of this kind runs the present one
pub record RunsNow (P : ℕ → Type 0) (z : Opening) (s : CoreState) (v : WorkerSeatView) : Type 0 where
  pub there : v.worker < z.workers
  pub runs : v.state ≡ Runs s.phase
  pub here : s.state v.worker ≡ Runs s.phase
  pub kind : P s.phase
  pub ending : SawEnding v.last → s.ending ≡ true

pub runs_now : (P : ℕ → Type 0) (z : Opening) (words : List ℕ) (views : List View) (place : ℕ) (v : WorkerSeatView)
    → (some_state : ShowsSome z words views)
    → get_elem? views place ≡ some (Worker v)
    → RunsSome P v.state
    → RunsNow P z some_state.state v
runs_now P z words views place v some_state at running =
    let s = some_state.state in
    let old : FitsWorker z s v = some_state.shows.seats.each place (Worker v) at in
    let is = running_is P v.state running in
    let now : is.0 ≡ s.phase =
    (moved_in_phase z s some_state.reachable).runs v.worker is.0 (old.state ∙ is.1) in
    let runs : v.state ≡ Runs s.phase = is.1 ∙ ap Runs now in
    record {
      there = old.there;
      runs = runs;
      here = old.state ∙ runs;
      kind = subst P now is.2;
      ending = old.ending (subst (RunsSome (λ _. Unit {0})) (sym runs) tt);
    }

not_true : (b : Bool) → (IsTrue b → ⊥) → b ≡ false
not_true true no_ = absurd (no_ refl)
not_true false no_ = refl

-- what a look shows to a worker in this state, and where it takes the worker
pub record LooksAt (last phase : ℕ) (state : WorkerState) (sight : Sight) : Type 0 where
  pub can : IsSightOf state sight
  pub within : phase_of (seen state sight) ≤ last
  pub goes : seen state sight ≡ looked phase state

-- whoever is not gone looks so
looks_at : (last phase : ℕ) (state : WorkerState) (sight : Sight)
    → ((j : ℕ) → state ≡ Runs j → j ≡ phase)
    → ((j : ℕ) → state ≡ Answered j → (j ≡ phase) ⊎ (j + 1 ≡ phase))
    → state ≢ Gone
    → phase ≤ last
    → sight.number ≡ phase
    → (IsTrue sight.waits ↔ (state ≡ Answered phase))
    → LooksAt last phase state sight
looks_at last phase (Runs j) sight runs answered there within number waits = record {
  can = (number ∙ sym (runs j refl), not_true sight.waits (λ is. let e = waits.0 is in cc));
  within = (let same = runs j refl in omega arith);
  goes = refl;
}
looks_at last phase (Answered j) sight runs answered there within number waits = elim (answered j refl) [
  | inl now ↦
      let is : sight.waits ≡ true = waits.1 (ap Answered now) in
      record {
        can = subst (λ (b : Bool). MatchBool b (sight.number ≡ j) (sight.number ≡ j + 1))
            (sym is) (number ∙ sym now);
        within = subst (λ (st : WorkerState). phase_of st ≤ last)
            (sym (cond-true sight.waits (Answered j) (Runs (j + 1)) is)) (omega arith);
        goes =
            cond-true sight.waits (Answered j) (Runs (j + 1)) is ∙
            sym (cond-false (nat_lt j phase) (Runs phase) (Answered j) (le-ltb j phase (omega arith)));
      }
  | inr before ↦
      let not : sight.waits ≡ false =
      not_true sight.waits (λ is. let e = waits.0 is in let same : j ≡ phase = cc in omega arith) in
      record {
        can = subst (λ (b : Bool). MatchBool b (sight.number ≡ j) (sight.number ≡ j + 1))
            (sym not) (number ∙ sym before);
        within = subst (λ (st : WorkerState). phase_of st ≤ last)
            (sym (cond-false sight.waits (Answered j) (Runs (j + 1)) not)) (omega arith);
        goes =
            cond-false sight.waits (Answered j) (Runs (j + 1)) not ∙
            (ap Runs before
            ∙ sym (cond-true (nat_lt j phase) (Runs phase) (Answered j) (lt-ltb j phase (omega arith))));
      }
]
looks_at last phase Gone sight runs answered there within number waits = absurd (there refl)

-- nor does a look make anyone gone
looked_gone : (phase : ℕ) (state : WorkerState) → looked phase state ≡ Gone → state ≡ Gone
looked_gone phase (Runs j) is = absurd (cc)
looked_gone phase (Answered j) is =
    let P : Bool → Type 0 = λ b. cond b (Runs phase) (Answered j) ≡ Gone → ⊥ in
    let Q : P (nat_lt j phase) = elim (nat_lt j phase) as P [ true ↦ λ e. cc | false ↦ λ e. cc ] in
    absurd (Q is)
looked_gone phase Gone is = refl

-- a look of a worker that is not gone is the event
pub looks : (z : Opening) (words : List ℕ) (views : List View) (place : ℕ) (v : WorkerSeatView)
    → (some_state : ShowsSome z words views)
    → get_elem? views place ≡ some (Worker v)
    → v.state ≢ Gone
    → Looked z (get_or words 0 0) (length some_state.log) v
    × ShowsSome z (set words 0 (get_or words 0 0))
    (set views place (Worker (looked_at v (sight_at z (get_or words 0 0) v.state) (length some_state.log))))
looks z words views place v some_state at there =
    let s = some_state.state in
    let sh = some_state.shows in
    let i = v.worker in
    let p = moved_in_phase z s some_state.reachable in
    let serving = serves z s sh.opening some_state.reachable in
    let old : FitsWorker z s v = sh.seats.each place (Worker v) at in
    let sight : Sight = sight_at z (get_or words 0 0) v.state in
    let not_gone : s.state i ≢ Gone = λ gone. there (sym old.state ∙ gone) in
    let same : sight_at z (shown_word z s) (s.state i) ≡ sight =
    λ m. sight_at z (sym sh.board.phase m) (old.state m) in
    let sees : Sees (numbers z s) i sight =
    subst (Sees (numbers z s) i) same (worker_sees (form_of z.limits.form) z s i serving p not_gone) in
    let la : LooksAt z.limits.last_phase s.phase (s.state i) sight =
    looks_at z.limits.last_phase s.phase (s.state i) sight (p.runs i) (p.answered i) not_gone p.within sees.number sees.waits in
    let state : WorkerState = looked s.phase (s.state i) in
    let t : CoreState = moved s i state in
    let w : WorkerSeatView = looked_at v sight (length some_state.log) in
    let found : ℕ = get_or words 0 0 in
    let fits : FitsWorker z t w =
    record {
      opening = old.opening;
      there = old.there;
      state = update-same s.state i state ∙ (sym la.goes ∙ ap (λ st. seen st sight) old.state);
      number = (let e = sees.number in omega arith);
      ending = λ _ saw. sym sees.ending ∙ saw;
      masks = old.masks;
      slots = λ _. refl;
    }
    in
    let shows_after : Shows z t (set words 0 found) (set views place (Worker w)) =
    worker_moves z s words views place v w state found sh at refl
    (sh.board.phase ∙ sym (serving.looks i))
    fits
    refl
    (λ _. looked_in s.phase (s.state i))
    (λ _. looked_gone s.phase (s.state i))
    in
    let order : IsOrder z t (set views place (Worker w)) (Saw i sight.number ∷ some_state.log) =
    look_keeps_order z s t views some_state.log place v w sight.number at (one_seat z s words views place v sh at)
    sees.number (record { worker = refl; did = refl; logged = refl }) refl (λ _. refl) some_state.order
    in
    let step =
    steps z words views place 0 found (Worker v) (Worker w) [] (makes (Look i)) (Seen sight) (Saw i sight.number ∷ []) t
    some_state at
    (record {
      before = tt;
      permits = record { there = old.there; suits = not_gone; leaves_last = tt; room = tt };
      tells = (sight, refl, sees);
    })
    refl shows_after order
    (tallied_on z.limits s t views place (Worker v) (Worker w) (λ _. refl) at (λ _. refl) some_state.tallied)
    in (
      record {
        can = subst (λ (st : WorkerState). IsSightOf st sight) old.state la.can;
        within = subst (λ (st : WorkerState). phase_of (seen st sight) ≤ z.limits.last_phase) old.state la.within;
        ending = λ runs saw. sees.ending ∙ old.ending runs saw;
        step = step.0;
      },
      step.1,
    )

-- what a worker with this view puts into the phase word is the event, and its view after is the next
pub record PutsIn (puts : WordForm → ℕ → ℕ) (event : ℕ → Event) (next : WorkerSeatView → WorkerSeatView)
    (v : WorkerSeatView) : Type 0 where
  pub each : (z : Opening) (words : List ℕ) (views : List View) (place : ℕ)
      → ShowsSome z words views
      → get_elem? views place ≡ some (Worker v)
      → IsStep z (event v.worker) Done (Worker v) (Worker (next v))
      × ShowsSome z
      (set words 0 ((form_of z.limits.form).put (get_or words 0 0) (puts (form_of z.limits.form) v.worker)))
      (set views place (Worker (next v)))

-- by the event a worker ends its run of a phase of this kind, and goes into this state
ends_run : (P : ℕ → Type 0) (puts : WordForm → ℕ → ℕ) (event : ℕ → Event) (goes : ℕ → WorkerState) (v : WorkerSeatView)
    → RunsSome P v.state
    → ((z : Opening) (s : CoreState) → RunsNow P z s v → NoneUnmerged s → Happen z s [] (makes (event v.worker)) Done)
    → ((z : Opening) (s : CoreState) → after z s (event v.worker) ≡ moved s v.worker (goes s.phase))
    → ((z : Opening) (s : CoreState) → Serves (form_of z.limits.form) z s → RunsNow P z s v
    → shown_word z (moved s v.worker (goes s.phase))
    ≡ (form_of z.limits.form).put (shown_word z s) (puts (form_of z.limits.form) v.worker))
    → ((phase : ℕ) → ¬ IsRunning (goes phase))
    → ((phase : ℕ) → P phase → IsSplit phase → goes phase ≢ Gone)
    → PutsIn puts event (λ u. record u { state = goes (phase_of u.state); slots = [] }) v
ends_run P puts event goes v running happens leads serving ends stays = record {
  each = λ z words views place some_state at.
      let s = some_state.state in
      let sh = some_state.shows in
      let f = form_of z.limits.form in
      let now : RunsNow P z s v = runs_now P z words views place v some_state at running in
      let old : FitsWorker z s v = sh.seats.each place (Worker v) at in
      let state : WorkerState = goes s.phase in
      let w : WorkerSeatView = record v { state = goes (phase_of v.state); slots = [] } in
      let word : ℕ = f.put (get_or words 0 0) (puts f v.worker) in
      let fits : FitsWorker z (moved s v.worker state) w =
      record {
        opening = old.opening;
        there = old.there;
        state = update-same s.state v.worker state ∙ ap (λ (u : WorkerState). goes (phase_of u)) (sym now.runs);
        number = old.number;
        ending = λ runs _. absurd (ends (phase_of v.state) runs);
        masks = old.masks;
        slots = λ _. refl;
      }
      in
      steps_by z words views place 0 word (Worker v) (Worker w) (event v.worker) Done (moved s v.worker state) some_state at
      (happens z s now sh.merged) (leads z s)
      (worker_moves z s words views place v w state word sh at refl
      (ap (λ n. f.put n (puts f v.worker)) sh.board.phase ∙ sym (serving z s (serves z s sh.opening some_state.reachable) now))
      fits
      refl
      (λ _ is. absurd (subst (IsIn s.phase) now.here is))
      (λ split gone. absurd (stays s.phase now.kind split gone)))
      (omega arith) (λ _. refl) (same_worker v w refl refl refl) (λ _. refl);
}

-- an acknowledgement is the event
pub acknowledges : (v : WorkerSeatView)
    → RunsJoined v.state
    → SawEnding v.last
    → PutsIn (λ f. f.answer) Acknowledge answered v
acknowledges v joined saw =
    ends_run IsJoined (λ f. f.answer) Acknowledge Answered v joined
    (λ z s now merged. record {
      before = tt;
      permits = record {
        there = now.there;
        suits = (now.here, now.kind, now.ending saw);
        leaves_last = tt;
        room = tt;
      };
      tells = refl;
    })
    (λ z s. refl) (λ z s serving now. serving.answers v.worker s.phase now.there now.here) (λ phase runs. runs)
    (λ phase _ _ gone. cc)

-- a report is the event
pub reports : (v : WorkerSeatView) → RunsSplit v.state → SawEnding v.last → PutsIn (λ f. f.answer) Report answered v
reports v split saw =
    ends_run IsSplit (λ f. f.answer) Report Answered v split
    (λ z s now merged. record {
      before = tt;
      permits = record {
        there = now.there;
        suits = (now.here, now.kind, now.ending saw, λ page. ap (times page) (merged v.worker));
        leaves_last = tt;
        room = tt;
      };
      tells = refl;
    })
    (λ z s. refl) (λ z s serving now. serving.answers v.worker s.phase now.there now.here) (λ phase runs. runs)
    (λ phase _ _ gone. cc)

-- a retirement is the event
pub retires : (v : WorkerSeatView) → RunsJoined v.state → PutsIn (λ f. f.retirement) Retire retired v
retires v joined =
    ends_run IsJoined (λ f. f.retirement) Retire (λ _. Gone) v joined
    (λ z s now merged. record {
      before = tt;
      permits = record { there = now.there; suits = (now.here, now.kind); leaves_last = tt; room = tt };
      tells = refl;
    })
    (λ z s. refl) (λ z s serving now. serving.retires v.worker s.phase now.there now.here) (λ phase runs. runs)
    (λ phase joined split _. omega arith)

-- a word without what was taken off it
taken_word : (word taken after new found : ℕ) → after + taken ≡ word → new + taken ≡ found → found ≡ word → new ≡ after
taken_word word taken after new found back new_is is = omega arith

-- what a worker makes of the board that comes back
pub record BackAt (z : Opening) (words : List ℕ) (views : List View) (place : ℕ) (v : WorkerSeatView)
    (new number phase : ℕ) : Type 0 where
  pub within : phase ≤ z.limits.last_phase
  pub step : IsEntry z [] (comes_back v.worker) (Seen (running_sight phase)) (Saw v.worker phase) (Worker v)
      (Worker (returned v phase number))
  pub shows : ShowsSome z (set words 0 new) (set views place (Worker (returned v phase number)))

-- a worker that is gone comes back, where the word is that of a phase that isn't ending
pub returns : (z : Opening) (words : List ℕ) (views : List View) (place : ℕ) (v : WorkerSeatView) (new : ℕ)
    → (some_state : ShowsSome z words views)
    → get_elem? views place ≡ some (Worker v)
    → v.state ≡ Gone
    → LetsReturn z.limits
    → get_or words 0 0 % 2 ≡ 0
    → new + (form_of z.limits.form).retirement v.worker ≡ get_or words 0 0
    → BackAt z words views place v new (length some_state.log) (phase_at z (get_or words 0 0))
returns z words views place v new some_state at gone lets even new_is =
    let s = some_state.state in
    let sh = some_state.shows in
    let i = v.worker in
    let f = form_of z.limits.form in
    let p = moved_in_phase z s some_state.reachable in
    let serving = serves z s sh.opening some_state.reachable in
    let old : FitsWorker z s v = sh.seats.each place (Worker v) at in
    let here : s.state i ≡ Gone = old.state ∙ gone in
    let phase : ℕ = phase_at z (get_or words 0 0) in
    let present : phase ≡ s.phase = ap f.phase_in sh.board.phase ∙ serving.phase in
    let running : s.ending ≡ false = even_runs f z s serving (ap (λ n. n % 2) (sym sh.board.phase) ∙ even) in
    let may : MayReturn z s i = record { lets = lets; there = old.there; gone = here; running = running } in
    let t : CoreState = after_return s i in
    let w : WorkerSeatView = returned v phase (length some_state.log) in
    let fits : FitsWorker z t w =
    record {
      opening = old.opening;
      there = old.there;
      state = update-same s.state i (Runs s.phase) ∙ ap Runs (sym present);
      number = omega (arith, present);
      ending = λ _ saw. (let clash : false ≡ true = saw in absurd (cc));
      masks = old.masks;
      slots = λ _. refl;
    }
    in
    let shows_after : Shows z t (set words 0 new) (set views place (Worker w)) =
    worker_moves z s words views place v w (Runs s.phase) new sh at refl
    (taken_word (shown_word z s) (f.retirement i) (shown_word z t) new (get_or words 0 0)
    (serving.returns i old.there here) new_is sh.board.phase)
    fits
    refl
    (λ none _. let ending = none lets in absurd (cc))
    (λ _ gone_now. absurd (cc))
    in
    let order : IsOrder z t (set views place (Worker w)) (Saw i phase ∷ some_state.log) =
    look_keeps_order z s t views some_state.log place v w phase at (one_seat z s words views place v sh at) present
    (record { worker = refl; did = refl; logged = refl }) refl (λ _. refl) some_state.order
    in
    let step =
    steps z words views place 0 new (Worker v) (Worker w) [] (comes_back i) (Seen (running_sight phase))
    (Saw i phase ∷ []) t some_state at
    (record { before = tt; permits = may; tells = ap (λ n. Seen (running_sight n)) present })
    refl shows_after order
    (tallied_on z.limits s t views place (Worker v) (Worker w) (λ _. refl) at (λ _. refl) some_state.tallied)
    in
    record { within = subst (λ n. n ≤ z.limits.last_phase) (sym present) p.within; step = step.0; shows = step.1 }
