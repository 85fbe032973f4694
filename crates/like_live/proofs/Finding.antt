-- How the looks that wait are found, one after the other.
use Rattle.std.proofs.Common.{◌≡◌, ℕ, ◌+◌, ◌%◌, ◌<◌, ◌≤◌, ◌⊎◌, ◌||◌, inl, inr, Bool, false, List, [], ◌∷◌, ◌++◌, length, map, drop, Some, refl, ap, sym, ◌∙◌, subst, arith, append-nil, append_assoc, length-append, IsTrue}
use Rattle.std.specs.List.{All, slice_get}
use Rattle.std.proofs.lemmas.Bool.{ne_eqb, and_left, cases_eq}
use Rattle.std.proofs.lemmas.List.{get_or-map, get_or_append_left, map-append, length-map}
use Rattle.std.proofs.lemmas.List.Elements.{All-append, All-nil, All-push, All-head, All-drop}
use Rattle.like_core.specs.declared.log.Logged.{Logged}
use Rattle.like_core.specs.declared.page_step.PageStep.{PageStep}
use Rattle.like_core.specs.declared.log.LogEntry.TheVariants.{Did}
use Rattle.like_core.specs.Log.{numbered}
use Rattle.like_seat.specs.Merge.{LogsSteps}
use Rattle.like_core.specs.declared.view.Addition.{Addition}
use Rattle.like_core.specs.declared.page_step.PageCall.TheVariants.{Read}
use Rattle.like_core.specs.Additions.{added_to}
use Rattle.like_core.specs.PageSteps.{additions_among, page_step, then_steps}
use Rattle.like_core.specs.declared.worker_state.WorkerState.{WorkerState}
use Rattle.like_core.specs.declared.worker_state.WorkerState.TheVariants as state
use Rattle.like_core.specs.Post.{has_read, is_split_at, number_of}
use Rattle.like_core.specs.Phase.{IsJoined, is_hot_by, is_marked}
use Rattle.like_core.specs.PhaseMasks.{mask_of}
use Rattle.like_core.specs.WorkerState.{IsRunning, RunsJoined, RunsSplit, phase_of}
use Rattle.like_tables.specs.Share.{owns}
use Rattle.like_tables.specs.StashView.{StashView}
use Rattle.like_tables.specs.UserTable.{UserTable, last_of}
use Rattle.like_core.proofs.Steps.{then-push}
use Rattle.like_core.specs.declared.view.WorkerSeatView.{WorkerSeatView}
use Rattle.like_seat.specs.declared.seen.Seen.{Seen}
use Rattle.like_seat.specs.StationView.{StationView, phase_at}
use Rattle.like_seat.specs.Steps.{Reads, without_first}
use Rattle.like_live.specs.declared.asked.Asked.{Asked}
use Rattle.like_live.specs.declared.asked.Found.{Found}
use Rattle.like_live.specs.declared.answer.TurnAnswer.TheVariants as turn
use Rattle.like_live.specs.LiveView.{LiveView, IsOwn, RanNext, waiting}
use Rattle.like_live.specs.Moves.{FindsAll, IsFoundAt, Works, runs_joined, runs_split, step_for}
use Rattle.like_core.proofs.Lists.{first_of}
use Rattle.like_live.proofs.FoundSteps.{found-additions}

-- who runs a joined phase runs a phase
pub running : (s : WorkerState) → RunsJoined s → IsRunning s
running (state.Runs k) h = tt
running (state.Answered k) h = absurd h
running state.Gone h = absurd h

-- who runs a phase of an even number runs a joined one
pub joined_since : (s : WorkerState) (phase : ℕ) → IsRunning s → phase ≡ phase_of s → phase % 2 ≡ 0 → RunsJoined s
joined_since (state.Runs k) phase h is even = ap (λ n. n % 2) (sym is) ∙ even
joined_since (state.Answered k) phase h is even = absurd h
joined_since state.Gone phase h is even = absurd h

-- who runs a phase that is not joined runs a split one
pub split_since : (s : WorkerState) (phase : ℕ) → IsRunning s → phase ≡ phase_of s → (phase % 2 ≡ 0 → ⊥) → RunsSplit s
split_since (state.Runs k) phase h is odd = let some : phase % 2 ≡ 1 = omega arith in ap (λ n. n % 2) (sym is) ∙ some
split_since (state.Answered k) phase h is odd = absurd h
split_since state.Gone phase h is odd = absurd h

-- in a joined phase
pub joined_phase : (s : WorkerState) → RunsJoined s → IsJoined (phase_of s)
joined_phase (state.Runs k) h = h
joined_phase (state.Answered k) h = absurd h
joined_phase state.Gone h = absurd h

-- no page is split in a joined phase
pub plain : (post : WorkerSeatView) (page : ℕ) → RunsJoined post.state → is_split_at post page ≡ false
plain post page joined =
    let even = joined_phase post.state joined in
    and_left _ (is_marked post.opening.marks page || is_hot_by post.opening.limits.hot (mask_of post.masks (phase_of post.state)) page)
    (ne_eqb _ 1 (λ odd. absurd (omega arith)))

-- what is true of all that waited is true of what each found look was
all_asked : (P : Asked → Type 0) (fs : List Found) → All P (map (λ f. f.asked) fs) → All (λ f. P f.asked) fs
all_asked P fs all = λ k d below.
    subst P (get_or-map (λ (f : Found). f.asked) fs k d d.asked below)
    (all k d.asked (subst (λ n. k < n) (sym (length-map fs (λ (f : Found). f.asked))) below))

-- some of the looks that waited are found, and these wait still
pub record Finding (v now : LiveView) : Type 0 where
  pub found : List Found
  pub order : map (λ f. f.asked) found ++ waiting now ≡ waiting v
  pub shown : All (IsFoundAt v.station) found
  pub station : now.station ≡ record v.station {
    post = record v.station.post {
      did = then_steps v.station.post.did (map (step_for v.station.post.worker) found);
      logged = now.station.post.logged;
    };
    stash = now.station.stash;
  }
  pub logs : LogsSteps (map (step_for v.station.post.worker) found) v.station.post.logged now.station.post.logged
  pub capacity : now.station.stash.capacity ≡ v.station.stash.capacity
  pub found_is : now.found ≡ v.found ++ found

-- none is found at first
pub Finding-start : (v : LiveView) → Finding v v
Finding-start v = record {
  found = [];
  order = refl;
  shown = All-nil (IsFoundAt v.station);
  station = refl;
  logs = record { since = []; made = refl; logged = refl };
  capacity = refl;
  found_is = sym (append-nil v.found);
}

-- all are found once none waits
pub Finding-end : (v now : LiveView) → Finding v now → waiting now ≡ [] → FindsAll v now
Finding-end v now f none = record {
  found = f.found;
  order = sym (append-nil (map (λ (x : Found). x.asked) f.found))
      ∙ ap (λ ws. map (λ (x : Found). x.asked) f.found ++ ws) (sym none) ∙ f.order;
  shown = f.shown;
  rest = λ m. record { station = (f.station ∙ empty) m; found = f.found_is m };
  logs = f.logs;
}
  where
    at : StashView Asked → StationView Asked
    at stash = record v.station {
      post = record v.station.post {
        did = then_steps v.station.post.did (map (step_for v.station.post.worker) f.found);
        logged = now.station.post.logged;
      };
      stash = stash;
    }

    empty : at now.station.stash ≡ at (record v.station.stash { looks = [] })
    empty = λ m. at (record { looks = none m; capacity = f.capacity m })

-- the looks that wait still are the seat's
pub Finding-own : (v now : LiveView) → Finding v now → All (IsOwn v.station) (waiting v) → All (IsOwn v.station) (waiting now)
Finding-own v now f own =
    subst (All (IsOwn v.station)) (drop_front (map (λ (x : Found). x.asked) f.found) (waiting now))
    (All-drop (IsOwn v.station) (length (map (λ (x : Found). x.asked) f.found))
    (map (λ (x : Found). x.asked) f.found ++ waiting now) (subst (All (IsOwn v.station)) (sym f.order) own))
  where
    drop_front : {X : Type 0} (xs ys : List X) → drop (length xs) (xs ++ ys) ≡ ys
    drop_front [] ys = refl
    drop_front (x ∷ xs) ys = drop_front xs ys

-- what is true of all of a list is true of all of its front
front : {X : Type 0} (P : X → Type 0) (xs ys : List X) → All P (xs ++ ys) → All P xs
front P xs ys all =
    λ k d below. subst P (get_or_append_left xs ys d k below) (all k d (omega (arith, length-append xs ys)))

-- looks that were asked in the phase before and are found ran in the next phase
pub Finding-ran : (v now : LiveView)
    → Finding v now
    → All (λ a. phase_at v.station ≡ a.phase + 1) (waiting v)
    → All RanNext v.found
    → All RanNext now.found
Finding-ran v now f before next =
    let Before : Asked → Type 0 = λ a. phase_at v.station ≡ a.phase + 1 in
    let asked = all_asked Before f.found
    (front Before (map (λ (x : Found). x.asked) f.found) (waiting now) (subst (All Before) (sym f.order) before)) in
    subst (All RanNext) (sym f.found_is)
    (All-append RanNext v.found f.found next (λ k d below. (f.shown k d below).phase ∙ asked k d below))

-- one look more is found, which was the first that waited still
pub Finding-more : (v now next : LiveView) (a : Asked) (f : Found) (number : ℕ) → Finding v now
    → waiting now ≡ a ∷ waiting next → f.asked ≡ a → IsFoundAt v.station f
    → next.station ≡ record now.station {
      post = record now.station.post {
        did = step_for v.station.post.worker f ∷ now.station.post.did;
        logged = numbered number (Did (step_for v.station.post.worker f)) ∷ now.station.post.logged;
      };
      stash = next.station.stash;
    }
    → next.station.stash.capacity ≡ now.station.stash.capacity
    → next.found ≡ now.found ++ f ∷ [] → Finding v next
Finding-more v now next a f number d first is shown station capacity found = record {
  found = d.found ++ f ∷ [];
  order =
      ap (λ (xs : List Asked). xs ++ waiting next) (map-append (λ (x : Found). x.asked) d.found (f ∷ []))
      ∙ append_assoc (map (λ (x : Found). x.asked) d.found) (f.asked ∷ []) (waiting next)
      ∙ ap (λ (x : Asked). map (λ (x : Found). x.asked) d.found ++ x ∷ waiting next) is
      ∙ ap (λ ws. map (λ (x : Found). x.asked) d.found ++ ws) (sym first)
      ∙ d.order;
  shown = All-push (IsFoundAt v.station) d.found f d.shown shown;
  station =
      station
      ∙ ap (λ (t : StationView Asked). record t {
        post = record t.post { did = step_for v.station.post.worker f ∷ t.post.did; logged = entry ∷ now.station.post.logged };
        stash = next.station.stash;
      }) d.station
      ∙ (λ m. record v.station {
        post = record v.station.post { did = did m; logged = sym logged_is m };
        stash = next.station.stash;
      });
  logs = record {
    since = entry ∷ d.logs.since;
    made = (λ m. Did (step_for v.station.post.worker f) ∷ d.logs.made m) ∙ ap (λ (ds : List PageStep). map (λ s. Did s) ds) made;
    logged = logged_is ∙ ap (λ (es : List Logged). entry ∷ es) d.logs.logged;
  };
  capacity = capacity ∙ d.capacity;
  found_is = found ∙ ap (λ xs. xs ++ f ∷ []) d.found_is ∙ append_assoc v.found d.found (f ∷ []);
}
  where
    entry : Logged
    entry = numbered number (Did (step_for v.station.post.worker f))

    logged_is : next.station.post.logged ≡ entry ∷ now.station.post.logged
    logged_is = ap (λ (t : StationView Asked). t.post.logged) station

    made : step_for v.station.post.worker f ∷ then_steps [] (map (step_for v.station.post.worker) d.found)
        ≡ then_steps [] (map (step_for v.station.post.worker) (d.found ++ f ∷ []))
    made =
        sym (then-push [] (map (step_for v.station.post.worker) d.found) (step_for v.station.post.worker f))
        ∙ ap (then_steps []) (sym (map-append (step_for v.station.post.worker) d.found (f ∷ [])))

    did : step_for v.station.post.worker f ∷ then_steps v.station.post.did (map (step_for v.station.post.worker) d.found)
        ≡ then_steps v.station.post.did (map (step_for v.station.post.worker) (d.found ++ f ∷ []))
    did =
        sym (then-push v.station.post.did (map (step_for v.station.post.worker) d.found) (step_for v.station.post.worker f))
        ∙ ap (then_steps v.station.post.did) (sym (map-append (step_for v.station.post.worker) d.found (f ∷ [])))

-- they are no more than there is room for
pub Finding-room : (v now : LiveView) → Finding v now
    → length (waiting now) + length now.found ≡ length (waiting v) + length v.found
Finding-room v now f =
    let asked = map (λ (x : Found). x.asked) f.found in
    omega (
      arith,
      ap (λ (xs : List Asked). length xs) f.order,
      length-append asked (waiting now),
      length-map f.found (λ (x : Found). x.asked),
      ap (λ (xs : List Found). length xs) f.found_is,
      length-append v.found f.found,
    )

-- the seat runs its joined phase still, once the first that waits is taken out
pub Finding-joined : (v now : LiveView) (s : StationView Asked) → Finding v now
    → RunsJoined v.station.post.state → s ≡ without_first now.station → RunsJoined s.post.state
Finding-joined v now s f joined is =
    subst (λ (p : WorkerSeatView). RunsJoined p.state)
    (sym (ap (λ (t : StationView Asked). t.post) is ∙ ap (λ (t : StationView Asked). t.post) f.station)) joined

-- the first that waits still is the seat's, once it is taken out
pub Finding-first : (v now : LiveView) (s : StationView Asked) (a : Asked) → Finding v now → All (IsOwn v.station) (waiting v)
    → slice_get (waiting now) 0 ≡ Some a → s ≡ without_first now.station → IsOwn s a
Finding-first v now s a d own first is =
    let mine : IsOwn v.station a =
    All-head (IsOwn v.station) a (drop 1 (waiting now))
    (subst (All (IsOwn v.station)) (first_of (waiting now) a first) (Finding-own v now d own)) in
    let marks : s.post.opening.marks ≡ v.station.post.opening.marks =
    ap (λ (t : StationView Asked). t.post.opening.marks) is ∙ ap (λ (t : StationView Asked). t.post.opening.marks) d.station in
    let last : s.last ≡ v.station.last =
    ap (λ (t : StationView Asked). t.last) is ∙ ap (λ (t : StationView Asked). t.last) d.station in
    record {
      there = subst (λ (m : List Bool). a.page < length m) (sym marks) mine.there;
      owned = subst (λ (t : UserTable). IsTrue (owns t.share a.user)) (sym last) mine.owned;
    }

-- the first that waits still is found by a read
pub Finding-next : (v now : LiveView) (s after : StationView Asked) (found : List Found) (a : Asked) (seen : Seen)
    (phase : ℕ)
    → Finding v now
    → slice_get (waiting now) 0 ≡ Some a
    → s ≡ without_first now.station
    → Reads s a.user a.page seen after
    → phase ≡ phase_at v.station
    → found ≡ now.found ++ record { asked = a; last = seen.last; count = seen.count; phase = phase } ∷ []
    → Finding v (record { station = after; found = found })
Finding-next v now s after found a seen phase d first is reads phase_is found_is =
    let last : s.last ≡ v.station.last =
    ap (λ (t : StationView Asked). t.last) is ∙ ap (λ (t : StationView Asked). t.last) d.station in
    let post = ap (λ (t : StationView Asked). t.post) d.station in
    let additions : additions_among s.post.did ≡ additions_among v.station.post.did =
    ap (λ (p : WorkerSeatView). additions_among p.did) (ap (λ (t : StationView Asked). t.post) is ∙ post)
    ∙ found-additions v.station.post.worker v.station.post.did d.found in
    let state : phase_of now.station.post.state ≡ phase = ap (λ (p : WorkerSeatView). phase_of p.state) post ∙ sym phase_is in
    let worker : now.station.post.worker ≡ v.station.post.worker = ap (λ (p : WorkerSeatView). p.worker) post in
    let number : ℕ = number_of after.post in
    let e : after ≡ record (without_first now.station) { post = has_read now.station.post a.page seen.count number } =
    reads.read ∙ ap (λ (t : StationView Asked). record t { post = has_read t.post a.page seen.count number }) is in
    let f : Found = record { asked = a; last = seen.last; count = seen.count; phase = phase } in
    Finding-more v now (record { station = after; found = found }) a f number d
    (first_of (waiting now) a first
    ∙ ap (λ (xs : List Asked). a ∷ xs) (sym (ap (λ (t : StationView Asked). t.stash.looks) e)))
    refl
    (record {
      last = reads.last ∙ ap (λ (t : UserTable). last_of t a.user) last;
      own = subst (λ (xs : List Addition). added_to a.page xs ≤ seen.count) additions reads.own;
      phase = phase_is;
    })
    (e ∙ (λ m. record now.station {
      post = record now.station.post {
        did = page_step (worker m) (state m) a.page seen.count Read ∷ now.station.post.did;
        logged = numbered number (Did (page_step (worker m) (state m) a.page seen.count Read)) ∷ now.station.post.logged;
      };
      stash = sym (ap (λ (t : StationView Asked). t.stash) e) m;
    }))
    (ap (λ (t : StationView Asked). t.stash.capacity) e)
    found_is

-- who runs a phase runs a joined one or a split one
parity : (s : WorkerState) → IsRunning s → RunsJoined s ⊎ RunsSplit s
parity (state.Runs k) h = elim (cases_eq (k % 2) 0) [ inl even ↦ inl even | inr odd ↦ inr (omega arith) ]
parity (state.Answered k) h = absurd h
parity state.Gone h = absurd h

-- a seat that runs a phase which goes on has nothing to do, if nothing waits in a joined one
pub goes_on : (v : LiveView)
    → IsRunning v.station.post.state
    → (IsJoined (phase_at v.station) → waiting v ≡ [])
    → Works v false turn.Runs v
goes_on v runs none = elim (parity v.station.post.state runs) [
  | inl joined ↦
      runs_joined joined refl refl
      (Finding-end v v (Finding-start v) (none (joined_phase v.station.post.state joined)))
  | inr split ↦ runs_split split refl refl refl
]
