-- What each call shows, right after it.
use Rattle.std.proofs.Common.{◌≡◌, ℕ, ◌+◌, ◌≤◌, Bool, true, false, List, [], ◌∷◌, cond, drop, get_or, Option, Some, None, refl, ap, sym, ◌∙◌, subst, inr, arith}
use Rattle.std.specs.List.{All, slice_get}
use Rattle.std.proofs.lemmas.Bool.{and_parts, eqb-true}
use Rattle.std.proofs.lemmas.List.Elements.{All-head}
use Rattle.like_core.specs.declared.page_step.PageCall.TheVariants.{Glance}
use Rattle.like_core.specs.declared.page_step.PageStep.{PageStep}
use Rattle.like_core.specs.declared.worker_state.WorkerState.{WorkerState}
use Rattle.like_core.specs.declared.worker_state.WorkerState.TheVariants as state
use Rattle.like_core.specs.Additions.{added_in}
use Rattle.like_core.specs.Phase.{IsSplit}
use Rattle.like_core.specs.Post.{is_split_at}
use Rattle.like_core.specs.WorkerState.{IsRunning, RunsSplit, phase_of}
use Rattle.like_core.specs.PageSteps.{additions_among}
use Rattle.like_core.specs.declared.view.WorkerSeatView.{WorkerSeatView}
use Rattle.like_seat.specs.StationView.{phase_at}
use Rattle.like_live.specs.declared.answer.GlanceAnswer.{GlanceAnswer}
use Rattle.like_live.specs.declared.answer.GlanceAnswer.TheVariants as glanced
use Rattle.like_live.specs.declared.answer.LookAnswer.{LookAnswer}
use Rattle.like_live.specs.declared.answer.LookAnswer.TheVariants as looked
use Rattle.like_live.specs.declared.answer.TurnAnswer.{TurnAnswer}
use Rattle.like_live.specs.declared.answer.TurnAnswer.TheVariants as turned
use Rattle.like_live.specs.declared.asked.Found.{Found}
use Rattle.like_live.specs.LiveView.{LiveView, with_station}
use Rattle.like_live.specs.Answers.{HasCalled, IfShown, IsRead, Shown, counted_now, found_count}
use Rattle.like_live.specs.Calls as calls
use Rattle.like_live.specs.Calls.{GlanceCase, GlancesNow, LookCase, LooksNow, TakesFound}
use Rattle.like_live.specs.History.{Does, Told, come_back, glance, like, like_on, look, retire, take_found, turn}
use Rattle.like_live.specs.Moves as moves
use Rattle.like_live.specs.Moves.{Moves, Works}
use Rattle.like_live.proofs.Finding.{running}
use Rattle.like_live.proofs.Keeping.{AreFound, AreHeld}

-- what follows from a fact on each count that was told holds too
pub IfShown-map : (P Q R S : Shown → Type 0) → ((s : Shown) → P s → R s) → ((s : Shown) → Q s → S s)
    → (now : LiveView) (t : Told)
    → IfShown P Q now t
    → IfShown R S now t
IfShown-map P Q R S p q now (look user page tag (looked.Seen shown)) h = p _ h
IfShown-map P Q R S p q now (glance user page (glanced.Seen shown)) h = p _ h
IfShown-map P Q R S p q now (glance user page (glanced.Glimpsed shown)) h = q _ h
IfShown-map P Q R S p q now (take_found (Some f)) h = p _ h
IfShown-map P Q R S p q now t h = tt

-- who is told that it runs a phase runs one
runs-works : (v now : LiveView) (ending : Bool) → Works v ending turned.Runs now → IsRunning now.station.post.state
runs-works v now ending (moves.runs_joined joined e a found) =
    subst (λ (w : LiveView). IsRunning w.station.post.state) (sym found.rest) (running v.station.post.state joined)
runs-works v now ending (moves.acknowledges then joined e a found is) = absurd (cc a)
runs-works v now ending (moves.runs_split split e a is) =
    subst (λ (w : LiveView). IsRunning w.station.post.state) (sym is) (some v.station.post.state split)
  where
    some : (s : WorkerState) → RunsSplit s → IsRunning s
    some (state.Runs k) h = tt
    some (state.Answered k) h = absurd h
    some state.Gone h = absurd h
runs-works v now ending (moves.reports s split e a merges is) = absurd (cc a)

-- so does one that is given that answer
pub runs-after : (v now : LiveView) (ending : Bool) (answer : TurnAnswer) → Works v ending answer now
    → answer ≡ turned.Runs → IsRunning now.station.post.state
runs-after v now ending answer does is =
    runs-works v now ending (subst (λ (a : TurnAnswer). Works v ending a now) is does)

runs-moves : (v now : LiveView) → Moves v turned.Runs now → IsRunning now.station.post.state
runs-moves v now (moves.is_gone gone a is) = absurd (cc a)
runs-moves v now (moves.waits sight mask can w a is) = absurd (cc a)
runs-moves v now (moves.works sight mask number can w does) = runs-works (moves.looked v sight mask number) now sight.ending does

-- the phase that it runs
runs_this : (s : WorkerState) → IsRunning s → s ≡ state.Runs (phase_of s)
runs_this (state.Runs k) h = refl
runs_this (state.Answered k) h = absurd h
runs_this state.Gone h = absurd h

-- a page is split in a split phase alone
pub split_phase : (post : WorkerSeatView) (page : ℕ) → is_split_at post page ≡ true → IsSplit (phase_of post.state)
split_phase post page split = eqb-true _ _ ((and_parts _ _ split).0)

-- right after a glance at a split page: what it was told is a count on the board and the slice, which is held
pub record IsJustGlanced (now : LiveView) (s : Shown) : Type 0 where
  pub split : is_split_at now.station.post s.page ≡ true
  pub earlier : List PageStep
  pub board : ℕ
  pub glanced : HasCalled now s.phase s.page board Glance [] earlier
  pub count_is : s.count ≡ board + get_or now.station.slice s.page 0
  pub own : s.own ≤ added_in s.phase s.page (additions_among earlier) + get_or now.station.slice s.page 0
  pub held : AreHeld now s.phase s.page [] (get_or now.station.slice s.page 0)

-- what a seat has counted in its phase, by whether the page is split
counted-is : (v : LiveView) (page : ℕ) (split : Bool)
    → is_split_at v.station.post page ≡ split
    → counted_now v page
    ≡ added_in (phase_at v.station) page (additions_among v.station.post.did) + cond split (get_or v.station.slice page 0) 0
counted-is v page split is =
    ap (λ (b : Bool). added_in (phase_at v.station) page (additions_among v.station.post.did)
    + cond b (get_or v.station.slice page 0) 0) is

-- right after the call: what a look was told
shows-look : (v after : LiveView) (user page tag : ℕ) (answer : LookAnswer)
    → LookCase v user page tag answer after
    → IfShown (IsRead after) (IsJustGlanced after) after (look user page tag answer)
shows-look v after user page tag answer d = by_case d
  where
    P : LookAnswer → Type 0
    P x = IfShown (IsRead after) (IsJustGlanced after) after (look user page tag x)

    now_case : (now : LiveView) → LooksNow now user page tag answer after → P answer
    now_case now (calls.refused fails a is) = subst P (sym a) tt
    now_case now (calls.no_room accepted split none a is) = subst P (sym a) tt
    now_case now (calls.waits accepted split room a is) = subst P (sym a) tt
    now_case now (calls.seen shown s accepted plain a reads is) =
        subst P (sym a)
        (subst (λ w. IfShown (IsRead w) (IsJustGlanced w) w (look user page tag (looked.Seen shown)))
        (sym (is ∙ ap (with_station now) reads.read))
        (let own = counted-is now page false plain in
        ([], now.station.post.did, refl, omega arith)))

    by_case : LookCase v user page tag answer after → P answer
    by_case (calls.gone m a) = subst P (sym a) tt
    by_case (calls.between m a) = subst P (sym a) tt
    by_case (calls.runs now m l) = now_case now l

-- and what a glance was told
shows-glance : (v after : LiveView) (user page : ℕ) (answer : GlanceAnswer)
    → GlanceCase v user page answer after
    → IfShown (IsRead after) (IsJustGlanced after) after (glance user page answer)
shows-glance v after user page answer d = by_case d
  where
    P : GlanceAnswer → Type 0
    P x = IfShown (IsRead after) (IsJustGlanced after) after (glance user page x)

    now_case : (now : LiveView) → IsRunning now.station.post.state → GlancesNow now user page answer after → P answer
    now_case now runs (calls.refused fails a is) = subst P (sym a) tt
    now_case now runs (calls.plain shown s accepted plain a reads is) =
        subst P (sym a)
        (subst (λ w. IfShown (IsRead w) (IsJustGlanced w) w (glance user page (glanced.Seen shown)))
        (sym (is ∙ ap (with_station now) reads.read))
        (let own = counted-is now page false plain in
        ([], now.station.post.did, refl, omega arith)))
    now_case now runs (calls.split shown s accepted split a glances is) =
        subst P (sym a)
        (subst (λ w. IfShown (IsRead w) (IsJustGlanced w) w (glance user page (glanced.Glimpsed shown)))
        (sym (is ∙ ap (with_station now) glances.glanced))
        (record {
          split = split;
          earlier = now.station.post.did;
          board = glances.count;
          glanced = refl;
          count_is = glances.counts;
          own = let own = counted-is now page true split in omega arith;
          held = (
            split_phase now.station.post page split,
            inr (runs_this now.station.post.state runs, omega arith),
          );
        }))

    by_case : GlanceCase v user page answer after → P answer
    by_case (calls.gone m a) = subst P (sym a) tt
    by_case (calls.between m a) = subst P (sym a) tt
    by_case (calls.runs now m l) = now_case now (runs-moves v now m) l

-- and what a found look was shown
first_found : (v after : LiveView) (fs : List Found) (taken : Option Found)
    → All (λ f. IsRead v (found_count f)) fs
    → taken ≡ slice_get fs 0
    → IfShown (IsRead v) (IsJustGlanced v) after (take_found taken)
first_found v after [] taken all is =
    subst (λ o. IfShown (IsRead v) (IsJustGlanced v) after (take_found o)) (sym is) tt
first_found v after (f ∷ fs) taken all is =
    subst (λ o. IfShown (IsRead v) (IsJustGlanced v) after (take_found o)) (sym is)
    (All-head (λ x. IsRead v (found_count x)) f fs all)

shows-take : (v after : LiveView) (taken : Option Found)
    → AreFound v
    → TakesFound v taken after
    → IfShown (IsRead after) (IsJustGlanced after) after (take_found taken)
shows-take v after taken found takes =
    subst (λ w. IfShown (IsRead w) (IsJustGlanced w) w (take_found taken)) (sym takes.1)
    (by_case taken (first_found v v v.found taken found takes.0))
  where
    now : LiveView
    now = record v { found = drop 1 v.found }

    by_case : (o : Option Found) → IfShown (IsRead v) (IsJustGlanced v) v (take_found o)
        → IfShown (IsRead now) (IsJustGlanced now) now (take_found o)
    by_case (Some f) h = h
    by_case None h = tt

-- right after a call
pub shows : (t : Told) (v after : LiveView)
    → AreFound v
    → Does v t after
    → IfShown (IsRead after) (IsJustGlanced after) after t
shows (turn answer) v after found d = tt
shows (like user page answer) v after found d = tt
shows (like_on user page answer) v after found d = tt
shows (look user page tag answer) v after found d = shows-look v after user page tag answer d
shows (glance user page answer) v after found d = shows-glance v after user page answer d
shows (take_found taken) v after found d = shows-take v after taken found d
shows (retire answer) v after found d = tt
shows (come_back answer) v after found d = tt
