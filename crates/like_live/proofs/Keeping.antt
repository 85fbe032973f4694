-- What a seat keeps of what it did at pages, whatever it does next.
use Rattle.std.proofs.Common.{◌≡◌, ℕ, ◌<◌, ◌≤◌, ◌==◌, ◌&&◌, Bool, List, [], ◌∷◌, ◌++◌, cond, get_or, length, map, Option, Some, None, refl, ap, sym, ◌∙◌, subst, inl, inr, arith, append_assoc}
use Rattle.std.specs.List.{All}
use Rattle.std.proofs.lemmas.Bool.{eq-eqb}
use Rattle.std.proofs.lemmas.List.Elements.{All-append}
use Rattle.like_core.specs.declared.log.Logged.{Logged}
use Rattle.like_core.specs.declared.sight.Sight.{Sight}
use Rattle.like_core.specs.declared.view.Addition.{Addition}
use Rattle.like_core.specs.declared.page_step.PageCall.{PageCall}
use Rattle.like_core.specs.declared.page_step.PageCall.TheVariants.{Add, Glance, Read}
use Rattle.like_core.specs.declared.page_step.PageStep.{PageStep}
use Rattle.like_core.specs.declared.worker_state.WorkerState.{WorkerState}
use Rattle.like_core.specs.declared.worker_state.WorkerState.TheVariants as state
use Rattle.like_core.specs.Additions.{added_in, added_to}
use Rattle.like_core.specs.Phase.{IsSplit}
use Rattle.like_core.specs.Post.{answered, has_glanced, has_read, number_of, stepped}
use Rattle.like_core.specs.WorkerState.{RunsJoined, phase_of, seen}
use Rattle.like_core.specs.PageSteps.{additions_among, page_step, step_adding, then_steps}
use Rattle.like_core.proofs.Between.{sum_parts}
use Rattle.like_core.proofs.Steps.{then-additions, then-behind}
use Rattle.like_seat.specs.Merge.{MergesAndReports, merged}
use Rattle.like_seat.specs.StationView.{StationView, phase_at}
use Rattle.like_seat.specs.Steps.{CountsLike}
use Rattle.like_seat.proofs.MergedLikes.{added_in-phase}
use Rattle.like_tables.specs.UserTable.{UserTable}
use Rattle.like_live.specs.declared.answer.TurnAnswer.{TurnAnswer}
use Rattle.like_live.specs.declared.asked.Asked.{Asked}
use Rattle.like_live.specs.LiveView.{LiveView, with_station}
use Rattle.like_live.specs.Answers.{AreKept, HasCalled, IsRead, Shown, found_count}
use Rattle.like_live.specs.Moves.{FindsAll, Moves, MovesBy, Works, acknowledges, is_gone, looked, reports, runs_joined, runs_split, step_for, waits, with_found, works}
use Rattle.like_live.proofs.FoundSteps.{found-among}
use Rattle.like_live.proofs.Calling.{slice-more}
use Rattle.like_live.proofs.Moving.{IsSized}

-- n likes of a page, which the seat had in its slice in a split phase, are kept
abbrev pub AreHeld : LiveView → (phase page : ℕ) → (later : List PageStep) → (n : ℕ) → Type 0
AreHeld v phase page later n = IsSplit phase × AreKept v phase page later n

-- each found look was shown a count that the seat read
abbrev pub AreFound : LiveView → Type 0
AreFound v = All (λ f. IsRead v (found_count f)) v.found

-- what the seat did stays, behind what it did since, and what is kept stays kept
pub record Keeps (v after : LiveView) : Type 0 where
  pub more : List PageStep
  pub did : after.station.post.did ≡ more ++ v.station.post.did
  pub worker : after.station.post.worker ≡ v.station.post.worker
  pub held : (phase page : ℕ) (later : List PageStep) (n : ℕ)
      → AreHeld v phase page later n → AreHeld after phase page (more ++ later) n
  pub found : AreFound v → AreFound after

pub Keeps-all : (v : LiveView) → Keeps v v
Keeps-all v = record {
  more = [];
  did = refl;
  worker = refl;
  held = λ phase page later n h. h;
  found = λ all. all;
}

pub Keeps-both : (v now after : LiveView) → Keeps v now → Keeps now after → Keeps v after
Keeps-both v now after a b = record {
  more = b.more ++ a.more;
  did = b.did ∙ ap (λ ds. b.more ++ ds) a.did ∙ sym (append_assoc b.more a.more v.station.post.did);
  worker = b.worker ∙ a.worker;
  held = λ phase page later n h.
      subst (λ xs. AreHeld after phase page xs n) (sym (append_assoc b.more a.more later))
      (b.held phase page (a.more ++ later) n (a.held phase page later n h));
  found = λ all. b.found (a.found all);
}

-- a call is one still, after more steps
pub called-later : (v after : LiveView) (more : List PageStep) (phase page count : ℕ) (call : PageCall)
    (later earlier : List PageStep)
    → after.station.post.did ≡ more ++ v.station.post.did
    → after.station.post.worker ≡ v.station.post.worker
    → HasCalled v phase page count call later earlier
    → HasCalled after phase page count call (more ++ later) earlier
called-later v after more phase page count call later earlier did worker called =
    let step : ℕ → PageStep = λ w. page_step w phase page count call in
    did ∙ ap (λ ds. more ++ ds) called
    ∙ sym (append_assoc more later (step v.station.post.worker ∷ earlier))
    ∙ ap (λ w. (more ++ later) ++ step w ∷ earlier) (sym worker)

-- and a count that was read is
read-later : (v after : LiveView) (more : List PageStep) (s : Shown)
    → after.station.post.did ≡ more ++ v.station.post.did
    → after.station.post.worker ≡ v.station.post.worker
    → IsRead v s
    → IsRead after s
read-later v after more s did worker r =
    (more ++ r.0, r.1, called-later v after more s.phase s.page s.count Read r.0 r.1 did worker r.2, r.3)

pub IsRead-later : (v after : LiveView) (s : Shown) → Keeps v after → IsRead v s → IsRead after s
IsRead-later v after s keeps r = read-later v after keeps.more s keeps.did keeps.worker r

-- with more steps, no fewer likes were added
added-later : (phase page : ℕ) (more later : List PageStep) (n : ℕ)
    → n ≤ added_in phase page (additions_among later)
    → n ≤ added_in phase page (additions_among (more ++ later))
added-later phase page more later n few =
    let both = sum_parts (λ (a : Addition). cond ((a.phase == phase) && (a.page == page)) a.likes 0) more later in
    omega arith

-- a look at the phase word
Keeps-looked : (v : LiveView) (sight : Sight) (mask number : ℕ) → Keeps v (looked v sight mask number)
Keeps-looked v sight mask number = record {
  more = [];
  did = refl;
  worker = refl;
  held = λ phase page later n h. (
    h.0,
    elim h.1 [
      | inl added ↦ inl added
      | inr still ↦ inr (ap (λ (s : WorkerState). seen s sight) still.0, still.1)
    ],
  );
  found = λ all. all;
}

-- the seat in another state
abbrev stopped : LiveView → WorkerState → LiveView
stopped v s = with_station v (record v.station { post = record v.station.post { state = s; slots = [] } })

-- the end of a joined phase, for the seat
pub Keeps-stopped : (v : LiveView) (s : WorkerState) → RunsJoined v.station.post.state → Keeps v (stopped v s)
Keeps-stopped v s joined = record {
  more = [];
  did = refl;
  worker = refl;
  held = λ phase page later n h. (
    h.0,
    elim h.1 [
      | inl added ↦ inl added
      | inr still ↦
          let odd : IsSplit phase = h.0 in
          let even : RunsJoined (state.Runs phase) = subst RunsJoined still.0 joined in
          absurd (omega arith)
    ],
  );
  found = λ all. all;
}

-- looks that are found
pub Keeps-finds : (v after : LiveView) → FindsAll v after → Keeps v after
Keeps-finds v after f = subst (Keeps v) (sym f.rest) (record {
  more = more;
  did = did;
  worker = refl;
  held = λ phase page later n h. (
    h.0,
    elim h.1 [ inl added ↦ inl (added-later phase page more later n added) | inr still ↦ inr still ],
  );
  found = λ all.
      All-append (λ x. IsRead now (found_count x)) v.found f.found
      (λ k d below. read-later v now more (found_count (get_or v.found k d)) did refl (all k d below))
      (λ k d below.
      let r = found-among worker v.station.post.did f.found k d below in
      (r.0, r.1, r.2, omega arith));
})
  where
    worker : ℕ
    worker = v.station.post.worker

    now : LiveView
    now = with_found v f.found after.station.post.logged

    more : List PageStep
    more = then_steps [] (map (step_for worker) f.found)

    did : now.station.post.did ≡ more ++ v.station.post.did
    did = then-behind [] v.station.post.did (map (step_for worker) f.found)

-- a merge and a report
Keeps-merged : (v : LiveView) (s : StationView Asked) → IsSized v → MergesAndReports v.station s → Keeps v (with_station v s)
Keeps-merged v s sized m =
    let adds = m.1.0.0 in
    let worker = v.station.post.worker in
    let more : List PageStep = then_steps [] (map (step_adding worker) adds) in
    let did = then-behind [] v.station.post.did (map (step_adding worker) adds) in
    let logged : List Logged = m.0.post.logged in
    let is : s ≡ record (merged v.station adds logged) { post = answered (merged v.station adds logged).post } =
    m.1.1 ∙ ap (λ (t : StationView Asked). record t { post = answered t.post }) m.1.0.1.1 in
    subst (λ (t : StationView Asked). Keeps v (with_station v t)) (sym is) (record {
      more = more;
      did = did;
      worker = refl;
      held = λ phase page later n h. (
        h.0,
        elim h.1 [
          | inl added ↦ inl (added-later phase page more later n added)
          | inr still ↦
              let here : phase_at v.station ≡ phase = ap phase_of still.0 in
              let all : added_in phase page adds ≡ get_or v.station.slice page 0 =
              added_in-phase (phase_at v.station) page phase adds m.1.0.1.0.phase_is
              ∙ ap (λ (b : Bool). cond b (added_to page adds) 0) (eq-eqb _ _ here)
              ∙ m.1.0.1.0.sums page in
              let new = ap (added_in phase page) (then-additions worker [] adds) in
              let both = sum_parts (λ (a : Addition). cond ((a.phase == phase) && (a.page == page)) a.likes 0) more later in
              let few : n ≤ get_or v.station.slice page 0 = still.1 in
              inl (omega arith)
        ],
      );
      found = λ all k d below.
          read-later v
          (with_station v (record (merged v.station adds logged) {
            post = answered (merged v.station adds logged).post;
          })) more
          (found_count (get_or v.found k d)) did refl (all k d below);
    })

-- a step at a page
Keeps-step : (v : LiveView) (last : UserTable) (page count : ℕ) (call : PageCall) (number : ℕ)
    → Keeps v (with_station v (record v.station { post = stepped v.station.post page count call number; last = last }))
Keeps-step v last page count call number =
    let step : PageStep = page_step v.station.post.worker (phase_at v.station) page count call in
    record {
      more = step ∷ [];
      did = refl;
      worker = refl;
      held = λ phase other later n h. (
        h.0,
        elim h.1 [ inl added ↦ inl (added-later phase other (step ∷ []) later n added) | inr still ↦ inr still ],
      );
      found = λ all k d below.
          read-later v
          (with_station v (record v.station { post = stepped v.station.post page count call number; last = last }))
          (step ∷ []) (found_count (get_or v.found k d)) refl refl (all k d below);
    }

-- a like that is counted
pub Keeps-counts : (v : LiveView) (s : StationView Asked) (user page : ℕ) (old : Option ℕ)
    → page < length v.station.slice
    → CountsLike v.station user page old s
    → Keeps v (with_station v s)
Keeps-counts v s user page None there c = subst (λ (t : StationView Asked). Keeps v (with_station v t)) (sym c.1) (record {
  more = [];
  did = refl;
  worker = refl;
  held = λ phase other later n h. (
    h.0,
    elim h.1 [
      | inl added ↦ inl added
      | inr still ↦
          let few : n ≤ get_or v.station.slice other 0 = still.1 in
          let more = slice-more v.station.slice page other there in
          inr (still.0, omega arith)
    ],
  );
  found = λ all. all;
})
Keeps-counts v s user page (Some count) there c =
    subst (λ (t : StationView Asked). Keeps v (with_station v t)) (sym c.1)
    (Keeps-step v _ page count (Add 1) (number_of s.post))

-- a read
pub Keeps-read : (v : LiveView) (page count number : ℕ)
    → Keeps v (with_station v (record v.station { post = has_read v.station.post page count number }))
Keeps-read v page count number = Keeps-step v v.station.last page count Read number

-- a glance
pub Keeps-glanced : (v : LiveView) (page count number : ℕ)
    → Keeps v (with_station v (record v.station { post = has_glanced v.station.post page count number }))
Keeps-glanced v page count number = Keeps-step v v.station.last page count Glance number

-- phase work
pub Keeps-works : (v after : LiveView) (ending : Bool) (answer : TurnAnswer)
    → IsSized v
    → Works v ending answer after
    → Keeps v after
Keeps-works v after ending answer sized (runs_joined joined e a found) = Keeps-finds v after found
Keeps-works v after ending answer sized (acknowledges now joined e a found is) =
    subst (Keeps v) (sym is)
    (Keeps-both v now _ (Keeps-finds v now found)
    (Keeps-stopped now _ (subst (λ (w : LiveView). RunsJoined w.station.post.state) (sym found.rest) joined)))
Keeps-works v after ending answer sized (runs_split split e a is) = subst (Keeps v) (sym is) (Keeps-all v)
Keeps-works v after ending answer sized (reports s split e a merges is) =
    subst (Keeps v) (sym is) (Keeps-merged v s sized merges)

-- a look keeps that, and so does all that is done by it
pub Keeps-by : (Runs : LiveView → Bool → TurnAnswer → LiveView → Type 0)
    → ((v after : LiveView) (ending : Bool) (answer : TurnAnswer) → IsSized v → Runs v ending answer after → Keeps v after)
    → (v after : LiveView) (answer : TurnAnswer)
    → IsSized v
    → MovesBy Runs v answer after
    → Keeps v after
Keeps-by Runs does v after answer sized (is_gone gone a is) = subst (Keeps v) (sym is) (Keeps-all v)
Keeps-by Runs does v after answer sized (waits sight mask can w a is) =
    subst (Keeps v) (sym is) (Keeps-looked v sight mask (number_of after.station.post))
Keeps-by Runs does v after answer sized (works sight mask number can w runs) =
    Keeps-both v (looked v sight mask number) after (Keeps-looked v sight mask number)
    (does (looked v sight mask number) after sight.ending answer sized runs)

pub Keeps-moves : (v after : LiveView) (answer : TurnAnswer) → IsSized v → Moves v answer after → Keeps v after
Keeps-moves v after answer sized m = Keeps-by Works Keeps-works v after answer sized m
