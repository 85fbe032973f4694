-- What workers made keeps its order with each step.
use Rattle.std.proofs.Common.{◌≡◌, ◌≢◌, ℕ, zero, suc, ◌≤◌, ◌==◌, ◌⊎◌, inl, inr, cond, List, [], ◌∷◌, ◌++◌, length, replicate, slice_index, set, subst, ap, sym, ◌∙◌, refl, arith, append-nil, eq-eqb}
use Rattle.std.specs.List.{count_by, sum_by}
use Rattle.std.proofs.lemmas.Bool.{cond-true}
use Rattle.std.proofs.lemmas.List.Sums.{sum_by-cons, sum_by_push}
use mathlib.Core.Option.{some, some-injective, some-ne-none}
use lib.ListN.{get_elem?}
use Rattle.like_core.specs.declared.log.LogEntry.{LogEntry}
use Rattle.like_core.specs.declared.log.LogEntry.TheVariants.{Saw, Did}
use Rattle.like_core.specs.declared.log.Logged.{Logged}
use Rattle.like_core.specs.declared.opening.Opening.{Opening}
use Rattle.like_core.specs.declared.page_step.PageStep.{PageStep}
use Rattle.like_core.specs.declared.view.WorkerSeatView.{WorkerSeatView}
use Rattle.like_core.specs.declared.view.CoordSeatView.{CoordSeatView}
use Rattle.like_core.specs.declared.view.View.{View}
use Rattle.like_core.specs.declared.view.View.TheVariants.{Coord, Worker, Spent}
use Rattle.like_core.specs.Log.{PhasesRise, entry_worker, logged_by, numbered, steps_in}
use Rattle.like_core.specs.PageSteps.{AreInTurn, adds_to, page_step, steps_by}
use Rattle.like_core.specs.WorkerState.{phase_of}
use Rattle.like_core.specs.core.State.{CoreState, Label}
use Rattle.like_core.specs.views.Views.{gathered_coord, made_coord, seats_of}
use Rattle.like_core.specs.views.Order.{AppliesTo, HasMade, HasOrder, IsOrder, JoinKeepsOrder, LookKeepsOrder, NewSeatKeepsOrder, OtherStepKeepsOrder, PageStepKeepsOrder, SaysSame}
use Rattle.like_core.proofs.core.Labels.{label}
use Rattle.like_core.proofs.Totals.{cond_none}
use Rattle.like_core.proofs.Logs.{applied-long, by_own, logged_other, logged_own, steps_logged, steps_of, steps_other}
use Rattle.like_core.proofs.views.ViewLists.{joined_other, kept, replaced, sum_gathered, sum_part, sum_set, sum_two, worker_other}
use Rattle.like_core.specs.Post.{fresh, stepped}

-- what another worker made has its order after an entry
made_other : (entry : LogEntry) (log : List LogEntry) (v : WorkerSeatView)
    → v.worker ≢ entry_worker entry
    → HasMade log v
    → HasMade (entry ∷ log) v
made_other entry log v other has = record {
  logged = logged_other v.worker entry log (λ same. other (sym same)) ∙ has.logged;
  done = steps_other v.worker entry log (λ same. other (sym same)) ∙ has.done;
}

-- and what a view made that has no seat of the entry's worker
order_other : (entry : LogEntry) (log : List LogEntry) (u : View)
    → seats_of (entry_worker entry) u ≡ 0
    → HasOrder log u
    → HasOrder (entry ∷ log) u
order_other entry log (Coord c) none has =
    λ place v at. made_other entry log v (joined_other c (entry_worker entry) place v none at) (has place v at)
order_other entry log (Worker v) none has = made_other entry log v (worker_other (entry_worker entry) v none) has
order_other entry log Spent none has = tt

-- steps in turn are so where the phase is a later one
in_turn_later : (first : ℕ → ℕ) (phase later : ℕ) (steps : List PageStep)
    → phase ≤ later
    → AreInTurn first phase steps
    → AreInTurn first later steps
in_turn_later first phase later [] on turn = tt
in_turn_later first phase later (s ∷ before) on turn =
    let within = turn.1 in (turn.0, omega arith, turn.2, turn.3)

-- phases that never fall up to one do so up to a later one
rise_later : (phase later : ℕ) (log : List LogEntry) → phase ≤ later → PhasesRise phase log → PhasesRise later log
rise_later phase later [] on rise = tt
rise_later phase later (entry ∷ log) on rise = let within = rise.0 in (omega arith, rise.1)

-- a view of a worker has its seat
seat_of_own : (v : WorkerSeatView) → seats_of v.worker (Worker v) ≡ 1
seat_of_own v = cond-true (v.worker == v.worker) 1 0 (eq-eqb v.worker v.worker refl)

-- after an entry of a worker with one seat, whose view is then w, the other views have what they made, and workers
-- without a seat have made nothing
module _ (z : Opening) (s : CoreState) (views : List View) (log : List LogEntry) (place : ℕ) (v w : WorkerSeatView)
    (entry : LogEntry)
    (mine : get_elem? views place ≡ some (Worker v)) (once : sum_by (seats_of v.worker) views ≡ 1)
    (its : entry_worker entry ≡ v.worker) (same : w.worker ≡ v.worker) (old : IsOrder z s views log) where
  each_made : HasMade (entry ∷ log) w → (j : ℕ) (u : View) → get_elem? (set views place (Worker w)) j ≡ some u
      → HasOrder (entry ∷ log) u
  each_made own j u at = elim (replaced views place j (Worker w) u at) [
    | inl here ↦ subst (HasOrder (entry ∷ log)) here.1 own
    | inr there ↦
        let two = sum_two (seats_of v.worker) views place j (Worker v) u (λ is. there.0 (sym is)) mine there.1 in
        let one = seat_of_own v in
        order_other entry log u (ap (λ n. seats_of n u) its ∙ omega (arith, two, one, once)) (old.each j u there.1)
  ]

  others_made : (i : ℕ) → sum_by (seats_of i) (set views place (Worker w)) ≡ 0 → logged_by i (entry ∷ log) ≡ []
  others_made i none =
      let kept = sum_set (seats_of i) views place (Worker v) (Worker w) mine
      (ap (λ (n : ℕ). cond {A = ℕ} (n == i) 1 0) same) in
      let part = sum_part (seats_of i) views place (Worker v) mine in
      let other : v.worker ≢ i =
      λ is.
      (let one : seats_of i (Worker v) ≡ 1 = cond-true (v.worker == i) 1 0 (eq-eqb v.worker i is) in
      absurd (omega arith))
      in
      logged_other i entry log (λ is. other (sym its ∙ is)) ∙ old.others i (omega arith)

-- a step at a page keeps the order
pub page_step_keeps_order : PageStepKeepsOrder
page_step_keeps_order z s t views log place v page found call next some_likes applies old =
    let w : WorkerSeatView = stepped v page found call (length log) in
    let step : PageStep = page_step v.worker (phase_of v.state) page found call in
    let mine : HasMade log v = old.each place (Worker v) next.mine in
    let phase = applies.phase in
    let present = next.present in
    let finds = next.finds in
    let long = ap (λ (ls : List Label). length ls) (old.applied page) ∙ applied-long page log in
    let own : HasMade (Did step ∷ log) w =
    record {
      logged = logged_own v.worker (Did step) log refl
          ∙ ap (λ (es : List Logged). numbered (length log) (Did step) ∷ es) mine.logged;
      done = by_own v.worker step (steps_in log) refl ∙ ap (λ (ds : List PageStep). step ∷ ds) mine.done;
    }
    in
    record {
      in_turn = (
        omega arith,
        omega arith,
        some_likes,
        subst (λ (k : ℕ). AreInTurn (slice_index z.counts) k (steps_in log)) (sym present) old.in_turn,
      );
      rising = (omega arith, subst (λ (k : ℕ). PhasesRise k log) (sym present) old.rising);
      applied = λ other.
          applies.likes other
          ∙ ap (λ (k : ℕ). s.applied other ++ replicate (adds_to other step) (label v.worker k)) (sym present)
          ∙ ap (λ (ls : List Label). ls ++ replicate (adds_to other step) (label v.worker (phase_of v.state)))
          (old.applied other);
      each = each_made z s views log place v w (Did step) next.mine next.once refl refl old own;
      others = others_made z s views log place v w (Did step) next.mine next.once refl refl old;
    }

-- a look keeps it
pub look_keeps_order : LookKeepsOrder
look_keeps_order z s t views log place v w k at once sees look phase applied old =
    let entry : LogEntry = Saw v.worker k in
    let mine : HasMade log v = old.each place (Worker v) at in
    let own : HasMade (entry ∷ log) w =
    record {
      logged = logged_own w.worker entry log (sym look.worker)
          ∙ ap (λ (es : List Logged). numbered (length log) entry ∷ es)
          (ap (λ (n : ℕ). logged_by n log) look.worker ∙ mine.logged)
          ∙ sym look.logged;
      done = ap (λ (n : ℕ). steps_by n (steps_in log)) look.worker ∙ mine.done ∙ sym look.did;
    }
    in
    record {
      in_turn = subst (λ (n : ℕ). AreInTurn (slice_index z.counts) n (steps_in log)) (sym phase) old.in_turn;
      rising = (omega (arith, sees, phase), subst (λ (n : ℕ). PhasesRise n log) (sym sees) old.rising);
      applied = λ page. applied page ∙ old.applied page;
      each = each_made z s views log place v w entry at once refl look.worker old own;
      others = others_made z s views log place v w entry at once refl look.worker old;
    }

-- what applies no like leaves the state
pub applies_none : (i page : ℕ) (s : CoreState) → AppliesTo i page 0 s s
applies_none i page s = record {
  phase = refl;
  likes = λ other.
      sym (append-nil (s.applied other))
      ∙ ap (λ (n : ℕ). s.applied other ++ replicate n (label i s.phase)) (sym (cond_none (page == other)));
}

-- a worker's view that made the same says the same
pub same_worker : (v w : WorkerSeatView)
    → w.worker ≡ v.worker
    → w.did ≡ v.did
    → w.logged ≡ v.logged
    → SaysSame (Worker v) (Worker w)
same_worker v w worker did logged = record {
  seats = λ i. ap (λ (n : ℕ). cond {A = ℕ} (n == i) 1 0) worker;
  made = λ log has. record {
    logged = ap (λ (n : ℕ). logged_by n log) worker ∙ has.logged ∙ sym logged;
    done = ap (λ (n : ℕ). steps_by n (steps_in log)) worker ∙ has.done ∙ sym did;
  };
}

-- so does a coordinator's to which the same seats were given back
pub same_coord : (c d : CoordSeatView) → d.joined ≡ c.joined → SaysSame (Coord c) (Coord d)
same_coord c d joined = record {
  seats = λ i. ap (λ (vs : List WorkerSeatView). count_by (λ w. w.worker == i) vs) joined;
  made = λ log has place v at. has place v (ap (λ (vs : List WorkerSeatView). get_elem? vs place) (sym joined) ∙ at);
}

-- another step
pub other_step_keeps_order : OtherStepKeepsOrder
other_step_keeps_order z s t views log place a b at same on applied old = record {
  in_turn = in_turn_later (slice_index z.counts) s.phase t.phase (steps_in log) on old.in_turn;
  rising = rise_later s.phase t.phase log on old.rising;
  applied = λ page. applied page ∙ old.applied page;
  each = λ j u found. elim (replaced views place j b u found) [
    | inl here ↦ subst (HasOrder log) here.1 (same.made log (old.each place a at))
    | inr there ↦ old.each j u there.1
  ];
  others = λ i none. old.others i (sym (sum_set (seats_of i) views place a b at (same.seats i)) ∙ none);
}

-- a seat that is given back
pub join_keeps_order : JoinKeepsOrder
join_keeps_order z s views log place other c v at mine old =
    let d : CoordSeatView = gathered_coord c v in
    let apart : other ≢ place = λ same.
    let both : some (Coord c) ≡ some (Worker v) = sym at ∙ (ap (get_elem? views) (sym same) ∙ mine) in
    let inner : Coord c ≡ Worker v = some-injective (Coord c) (Worker v) both in
    absurd (cc)
    in
    let changed : List View = set views place (Coord d) in
    let there : get_elem? changed other ≡ some (Worker v) = kept views place other (Coord d) apart ∙ mine in
    let has : HasOrder log (Coord d) = gathered (old.each other (Worker v) mine) (old.each place (Coord c) at) in
    record {
      in_turn = old.in_turn;
      rising = old.rising;
      applied = old.applied;
      each = λ j u found. elim (replaced changed other j Spent u found) [
        | inl spent ↦ subst (HasOrder log) spent.1 tt
        | inr before ↦ elim (replaced views place j (Coord d) u before.1) [
          | inl first ↦ subst (HasOrder log) first.1 has
          | inr rest ↦ old.each j u rest.1
        ]
      ];
      others = λ i none.
          old.others i
          (sym (sum_gathered (seats_of i) views place other c v at there refl
          (sum_by-cons (λ (w : WorkerSeatView). cond (w.worker == i) 1 0) v c.joined)) ∙ none);
    }
  where
    gathered : HasOrder log (Worker v) → HasOrder log (Coord c) → HasOrder log (Coord (gathered_coord c v))
    gathered own back zero w found =
        subst (λ (x : WorkerSeatView). HasMade log x) (some-injective v w found) own
    gathered own back (suc j) w found = back j w found

-- a new seat
pub new_seat_keeps_order : NewSeatKeepsOrder
new_seat_keeps_order z s views log place c at none old =
    let d : CoordSeatView = made_coord c in
    let new : View = Worker (fresh z c.made) in
    let changed : List View = set views place (Coord d) in
    let none_made = old.others c.made none in
    let has : HasOrder log new = record {
      logged = none_made;
      done = steps_logged c.made log ∙ ap (λ (es : List Logged). steps_of es) none_made;
    }
    in
    let same : (i : ℕ) → sum_by (seats_of i) changed ≡ sum_by (seats_of i) views =
    λ i. sum_set (seats_of i) views place (Coord c) (Coord d) at refl
    in
    record {
      in_turn = old.in_turn;
      rising = old.rising;
      applied = old.applied;
      each = λ j u found. elim (pushed changed new u j found) [
        | inl before ↦ elim (replaced views place j (Coord d) u before) [
          | inl here ↦ subst (HasOrder log) here.1 (old.each place (Coord c) at)
          | inr there ↦ old.each j u there.1
        ]
        | inr last ↦ subst (HasOrder log) last has
      ];
      others = λ i lone.
          let more = sum_by_push (seats_of i) changed new in
          let before = same i in
          old.others i (omega arith);
    }
  where
    pushed : (views : List View) (new u : View) (j : ℕ)
        → get_elem? (views ++ new ∷ []) j ≡ some u
        → (get_elem? views j ≡ some u) ⊎ (new ≡ u)
    pushed [] new u zero found = inr (some-injective new u found)
    pushed [] new u (suc j) found = absurd (some-ne-none u (sym found))
    pushed (x ∷ xs) new u zero found = inl found
    pushed (x ∷ xs) new u (suc j) found = pushed xs new u j found
