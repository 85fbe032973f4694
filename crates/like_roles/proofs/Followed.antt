-- Each turn leads a worker that follows the plans to one that does.
use Rattle.std.proofs.Common.{◌≡◌, ◌≢◌, ℕ, ◌+◌, ◌%◌, ◌≤◌, ◌==◌, ◌&&◌, ◌||◌, not, Bool, true, false, cond, List, [], ◌∷◌, ◌++◌, length, map, get_or, set, Some, None, refl, ap, sym, ◌∙◌, inl, inr, arith, subst, append_assoc}
use Rattle.std.proofs.lemmas.Bool.{cases_eq}
use Rattle.std.proofs.lemmas.List.{map-append, length-map, length-replicate}
use Rattle.std.proofs.lemmas.List.Elements.{All-head, All-map, All-tail, All-push}
use Rattle.std.specs.List.{All}
use Rattle.std.specs.Option.{option_map_or}
use Rattle.std.specs.Prelude.{option_map}
use Rattle.like_core.proofs.Steps.{all_then, then-earliest}
use Rattle.like_requests.specs.Pages.{marks_of}
use Rattle.like_requests.specs.declared.request.Numbered.{Numbered}
use Rattle.like_requests.specs.declared.request.Request.{Request}
use Rattle.like_requests.specs.declared.request.Taken.{Taken}
use Rattle.like_core.specs.declared.sight.Sight.{Sight}
use Rattle.like_core.specs.declared.worker_state.WorkerState.{WorkerState}
use Rattle.like_core.specs.declared.worker_state.WorkerState.TheVariants as state
use Rattle.like_core.specs.declared.log.Logged.{Logged}
use Rattle.like_core.specs.declared.view.Addition.{Addition}
use Rattle.like_core.specs.declared.view.PhaseMask.{PhaseMask}
use Rattle.like_core.specs.PageSteps.{earliest_first, likes_of, step_adding}
use Rattle.like_core.specs.PhaseMasks.{AreMasksOf, mask_of}
use Rattle.like_core.proofs.PhaseMasks.{masks-before, split-known}
use Rattle.like_core.specs.declared.limits.Limits.{Limits}
use Rattle.like_limits.specs.Limits.{hot_pages}
use Rattle.like_core.specs.Phase.{IsJoined, IsSplit, is_hot_by, is_marked, split_by}
use Rattle.like_core.specs.WorkerState.{IsRunning, RunsJoined, RunsSplit, RunsSome, phase_of, seen}
use Rattle.like_core.specs.Post.{additions_in, answered, is_split_at, looked_at, number_of, pages_of}
use Rattle.like_tables.specs.declared.held.Held.{Held}
use Rattle.like_promises.proofs.Asked.{asking}
use Rattle.like_promises.specs.declared.log.Ran.{Ran}
use Rattle.like_promises.specs.declared.log.Took.{Took}
use Rattle.like_roles.specs.declared.turn.Turn.{Turn}
use Rattle.like_roles.specs.worker.Follows.{FitsStash, Follows, IsAsked, IsAskedBy, IsInOrder, IsNoted, IsServed, IsSized, IsTallied, IsUnmerged, HasNothingLater, Stands, entry_stashed, next_joined}
use Rattle.like_promises.specs.Order.{block, entry_of, must_wait, order, waited}
use Rattle.like_roles.specs.worker.WorkerView.{WorkerView, asked_in, has_to_wait, phase_at, station_of, submitter_at}
use Rattle.like_promises.specs.Store.{look}
use Rattle.like_roles.specs.worker.Serve.{Runs, ran_now}
use Rattle.like_promises.specs.Workload.{Workload, is_split_in, request_at, submitters}
use Rattle.like_roles.specs.worker.Turns as turns
use Rattle.like_roles.specs.worker.Turns.{CanGive, Gives, TakesAsk, Turns, Works, held_from, merged, saw, settled, trying, with_stashed, with_taken, without_first}
use Rattle.like_requests.specs.Setup.{IsThere}
use Rattle.like_roles.specs.worker.Merges.{Merges}
use Rattle.like_seat.specs.StationView.{HasPhaseMask, IsSliceInSplit}
use Rattle.like_promises.proofs.Blocks.{order_below, stashed_in, block-next-prompt, block-next-waits, order-parts, order_below-prompt, order_below-waits, stashed-block, stashed-other, stashed-prompt, waited-joined}
use Rattle.like_roles.proofs.Effects.{HasRunOne, Runs-effects}
use Rattle.like_roles.proofs.InBlocks.{before-next, parity, parts, running-of_within, runs-phase, runs-weaker, within-of_running}
use Rattle.like_roles.proofs.Keeps.{runs-keeps, works-keeps}
use Rattle.like_seat.proofs.Looking.{has-after, splits-after}
use Rattle.like_roles.proofs.PageMerged as merge
use Rattle.like_seat.proofs.MergedLikes.{cond_same}
use Rattle.like_roles.proofs.notes.NotedMerge.{merge-noted, merges-some, merges-split}
use Rattle.like_roles.proofs.notes.Noting.{GivesReply-noted, running-unmerged, unmerged-running, unmerged-seen}
use Rattle.like_roles.proofs.Served.{runs-joined, runs-split}
use Rattle.like_roles.proofs.counts.Steps.{plain_told-split}
use Rattle.like_roles.proofs.counts.Tallied.{GivesReply-tallied}
use Rattle.like_serial.specs.StepsTold.{plain_told}

-- a worker that runs a phase follows the plans
follows-running : (workload : Workload) (v : WorkerView)
    → IsRunning v.post.state
    → IsServed workload v
    → IsSized v
    → IsTallied workload v
    → (v.notes ≡ true → IsNoted workload v.post.did v.adds v.ran)
    → (v.notes ≡ true → IsUnmerged workload v.adds v.post.state)
    → All (IsAsked workload) v.stash.looks
    → FitsStash workload v.taken
    → IsInOrder workload v
    → HasNothingLater v.taken v.ran (phase_at v)
    → ((rank : ℕ) → v.pending ≡ Some rank → RunsJoined v.post.state → v.stash.looks ≡ [])
    → Follows workload v
follows-running workload v run served sized t noted unmerged stashed fits in_order within trying = record {
  served = served;
  sized = sized;
  tallied = t;
  noted = noted;
  unmerged = unmerged;
  in_order = in_order;
  fits = fits;
  stashed = stashed;
  stands = running-of_within v (λ _. Unit {0}) v.post.state run within;
  trying = λ rank e. (run, trying rank e);
}

-- which pages are split is the same by the workload and by the worker, which has read its split phase's mask
split-alike : (workload : Workload) (v : WorkerView)
    → IsServed workload v
    → IsRunning v.post.state
    → HasPhaseMask v.post
    → (page : ℕ)
    → is_split_in workload (phase_at v) page ≡ is_split_at v.post page
split-alike workload v s run has page =
    ap (λ xs. split_by hot_pages (λ p. get_or xs p false) workload.hot (phase_at v) page) s.marks_alike
    ∙ ap (λ (l : Limits). split_by l.hot (λ p. get_or v.post.opening.marks p false) workload.hot (phase_at v) page) (sym s.run)
    ∙ split-known v.post.opening.limits.hot (λ p. get_or v.post.opening.marks p false) workload.hot v.post.masks (phase_at v) page s.hot_alike
    (λ odd _ _. has (runs-split v.post.state run odd))

-- what a run does to a worker that follows the plans, where the order after it is known
follows-run : (workload : Workload) (v after : WorkerView) (h : Held) (stashed : Bool)
    → Runs v h stashed after
    → IsRunning v.post.state
    → v.pending ≡ None
    → IsServed workload v
    → IsSized v
    → IsTallied workload v
    → (v.notes ≡ true → IsNoted workload v.post.did v.adds v.ran)
    → (v.notes ≡ true → IsUnmerged workload v.adds v.post.state)
    → HasPhaseMask v.post
    → IsAsked workload h
    → IsSliceInSplit v.post v.slice
    → ((user page : ℕ) → asked_in v.last.share h.submitter h.ask.request ≡ look user page → is_split_at v.post page ≡ false)
    → All (IsAsked workload) v.stash.looks
    → FitsStash workload v.taken
    → HasNothingLater v.taken v.ran (phase_at v)
    → ((e : HasRunOne v h stashed after) → IsInOrder workload (record v { ran = after.ran }))
    → Follows workload after
follows-run workload v after h stashed run here none served sized t was un has asked kept plain waiting fits within
    ordered =
    let e = Runs-effects v h stashed after run in
    let alike = split-alike workload v served here has in
    let done = GivesReply-tallied workload v h stashed run.reply run.served served sized t asked kept alike plain
    run.serves in
    let stays = (runs-keeps v h stashed after run).notes in
    let marked = λ (notes : v.notes ≡ true). GivesReply-noted workload v h stashed run.reply run.served served notes
    (was notes) (unmerged-running workload v.adds (λ _. Unit {0}) v.post.state here (un notes)) asked
    alike run.serves in
    let all : IsServed workload after × IsSized after × IsTallied workload after
    × (v.notes ≡ true
    → IsNoted workload after.post.did after.adds after.ran
    × IsUnmerged workload after.adds (state.Runs (phase_at v))) =
    subst (λ x. IsServed workload x × IsSized x × IsTallied workload x
    × (v.notes ≡ true
    → IsNoted workload x.post.did x.adds x.ran
    × IsUnmerged workload x.adds (state.Runs (phase_at v)))) (sym run.noted) (
      done.0,
      done.1,
      done.2,
      marked,
    ) in
    let runs : IsRunning after.post.state = subst (λ s. RunsSome (λ _. Unit {0}) s) (sym e.state) here in
    let phase : phase_at v ≡ phase_at after = ap phase_of (sym e.state) in
    let in_order : IsInOrder workload after =
    ap (λ k. map entry_of after.ran ++ map (entry_stashed (k + k % 2)) after.stash.looks) (sym phase)
    ∙ ap (λ w. map entry_of after.ran ++ map (entry_stashed (next_joined v)) w.looks) e.stash
    ∙ ordered e ∙ ap (order workload) (sym e.taken) in
    let now_within : HasNothingLater after.taken after.ran (phase_at v) = (
      subst (λ xs. All (λ t. t.phase ≤ phase_at v) xs) (sym e.taken) within.0,
      subst (λ xs. All (λ x. x.phase ≤ phase_at v) xs) (sym e.ran)
          (All-push (λ (x : Ran). x.phase ≤ phase_at v) v.ran (ran_now v h stashed e.reply) within.1 (omega arith)),
    ) in
    follows-running workload after runs all.0 all.1 all.2 (λ notes. (all.3 (sym stays ∙ notes)).0)
    (λ notes. running-unmerged workload after.adds (λ _. Unit {0}) after.post.state runs
    (subst (λ (k : ℕ). IsUnmerged workload after.adds (state.Runs k)) phase (all.3 (sym stays ∙ notes)).1))
    (subst (λ w. All (IsAsked workload) w.looks) (sym e.stash) waiting) (subst (FitsStash workload) (sym e.taken) fits)
    in_order (subst (HasNothingLater after.taken after.ran) phase now_within) (λ rank p. absurd (cc (e.pending, none, p)))

-- the worker after a look with this number, where its post has then read these masks
abbrev looking : WorkerView → Sight → List PhaseMask → ℕ → WorkerView
looking v sight masks number = record v { post = record (looked_at v.post sight number) { masks = masks } }

-- what a look says of a worker that is not gone
saw-stands : (v : WorkerView) (sight : Sight) (masks : List PhaseMask) (number : ℕ) (s : WorkerState)
    → Stands v s
    → s ≢ state.Gone
    → Stands (looking v sight masks number) (seen s sight)
saw-stands v sight masks number (state.Runs k) b n = b
saw-stands v sight masks number (state.Answered k) b n = by_test sight.waits where
  by_test : (w : Bool) → Stands (looking v sight masks number) (cond w (state.Answered k) (state.Runs (k + 1)))
  by_test true = b
  by_test false = (λ i t h. omega (arith, b.0.0 i t h), λ i e h. omega (arith, b.0.1 i e h))
saw-stands v sight masks number state.Gone b n = absurd (n refl)

-- and of the joined phase in which what it holds runs
saw-next : (v : WorkerView) (sight : Sight) (s : WorkerState) → Stands v s → s ≢ state.Gone
    → map (entry_stashed (phase_of (seen s sight) + phase_of (seen s sight) % 2)) v.stash.looks
    ≡ map (entry_stashed (phase_of s + phase_of s % 2)) v.stash.looks
saw-next v sight (state.Runs k) b n = refl
saw-next v sight (state.Answered k) b n = by_test sight.waits where
  next : map (entry_stashed ((k + 1) + (k + 1) % 2)) v.stash.looks ≡ map (entry_stashed (k + k % 2)) v.stash.looks
  next = elim (parity k) [
    | inl even ↦ ap (map (entry_stashed ((k + 1) + (k + 1) % 2))) (b.1 even)
        ∙ ap (map (entry_stashed (k + k % 2))) (sym (b.1 even))
    | inr odd ↦
        let same : (k + 1) + (k + 1) % 2 ≡ k + k % 2 = omega arith in
        ap (λ j. map (entry_stashed j) v.stash.looks) same
  ]

  by_test : (w : Bool)
      → map (entry_stashed
      (phase_of (cond w (state.Answered k) (state.Runs (k + 1)))
      + phase_of (cond w (state.Answered k) (state.Runs (k + 1))) % 2)) v.stash.looks
      ≡ map (entry_stashed (k + k % 2)) v.stash.looks
  by_test true = refl
  by_test false = next
saw-next v sight state.Gone b n = absurd (n refl)

-- a worker that runs no split phase has an empty slice
empty-unsplit : (s : WorkerState) (slice : List ℕ)
    → ((page : ℕ) → get_or slice page 0 ≢ 0 → RunsSplit s)
    → (RunsSplit s → ⊥)
    → (page : ℕ)
    → get_or slice page 0 ≡ 0
empty-unsplit s slice splits not page = elim (cases_eq (get_or slice page 0) 0) [
  | inl none ↦ none
  | inr some ↦ absurd (not (splits page some))
]

not-split : (s : WorkerState) → RunsJoined s → RunsSplit s → ⊥
not-split (state.Runs k) j s = absurd (omega (arith, j, s))
not-split (state.Answered k) j s = absurd j
not-split state.Gone j s = absurd j

-- the present phase's part of a slice is the same after a look
saw-kept : (slice : List ℕ) (sight : Sight) (s : WorkerState)
    → ((page : ℕ) → get_or slice page 0 ≢ 0 → RunsSplit s)
    → s ≢ state.Gone
    → (phase page : ℕ)
    → cond (phase_of s == phase) (get_or slice page 0) 0
    ≡ cond (phase_of (seen s sight) == phase) (get_or slice page 0) 0
saw-kept slice sight (state.Runs k) splits here phase page = refl
saw-kept slice sight (state.Answered k) splits here phase page =
    let none = empty-unsplit (state.Answered k) slice splits (λ s. s) page in
    let zero_at : (b : Bool) → cond b (get_or slice page 0) 0 ≡ 0 =
    λ b. ap (λ (n : ℕ). cond b n 0) none ∙ cond_same b 0 in
    zero_at (k == phase) ∙ sym (zero_at (phase_of (seen (state.Answered k) sight) == phase))
saw-kept slice sight state.Gone splits here phase page = absurd (here refl)

-- a look
follows-saw : (workload : Workload) (v : WorkerView) (sight : Sight) (masks : List PhaseMask) (number : ℕ)
    → AreMasksOf workload.hot masks
    → Follows workload v
    → IsSliceInSplit v.post v.slice
    → v.post.state ≢ state.Gone
    → v.pending ≡ None
    → Follows workload (looking v sight masks number)
follows-saw workload v sight masks number right f kept here none = record {
  served = record {
    users =
        f.served.users;
    submitters_alike =
        f.served.submitters_alike;
    marks_alike =
        f.served.marks_alike;
    hot_alike = right;
    stash_alike = f.served.stash_alike;
    run = f.served.run;
  };
  sized = f.sized;
  tallied = record {
    likes =
        f.tallied.likes;
    by_phase =
        λ phase page. f.tallied.by_phase phase page
        ∙ ap (λ n. additions_in v.post phase page + n)
        (saw-kept v.slice sight v.post.state (λ p some. (kept p some).0) here phase page);
    steps = f.tallied.steps;
    reads = f.tallied.reads;
    replies = f.tallied.replies;
    last = f.tallied.last;
  };
  noted = f.noted;
  unmerged = λ notes. unmerged-seen workload v.adds sight v.post.state (f.unmerged notes);
  in_order = ap (λ zs. map entry_of v.ran ++ zs) (saw-next v sight v.post.state f.stands here) ∙ f.in_order;
  fits = f.fits;
  stashed = f.stashed;
  stands = saw-stands v sight masks number v.post.state f.stands here;
  trying = λ rank e. absurd (cc (none, e));
}

-- no page is split in a joined phase
unsplit-joined : (v : WorkerView) (page : ℕ) → IsJoined (phase_at v) → is_split_at v.post page ≡ false
unsplit-joined v page even =
    ap (λ (n : ℕ). (n == 1)
    && (is_marked v.post.opening.marks page || is_hot_by v.post.opening.limits.hot (mask_of v.post.masks (phase_at v)) page)) even

-- the first of what is stashed runs in a joined phase
follows-stashed : (workload : Workload) (v : WorkerView) (first : Held) (rest : List Held) (after : WorkerView)
    → v.pending ≡ None
    → Follows workload v
    → IsSliceInSplit v.post v.slice
    → RunsJoined v.post.state
    → v.stash.looks ≡ first ∷ rest
    → Runs (without_first v rest) first true after → Follows workload after
follows-stashed workload v first rest after none f kept j e run =
    let even = runs-phase IsJoined v.post.state j in
    let all : All (IsAsked workload) (first ∷ rest) = subst (All (IsAsked workload)) e f.stashed in
    let k = phase_at v in
    let same : next_joined v ≡ k = omega arith in
    follows-run workload (without_first v rest) after first true run
    (runs-weaker IsJoined (λ _. Unit {0}) v.post.state (λ _ _. tt) j) none
    (f.served)
    (f.sized)
    (f.tallied)
    f.noted f.unmerged (λ odd. absurd (not-split v.post.state j odd))
    (All-head (IsAsked workload) first rest all)
    kept
    (λ user page _. unsplit-joined v page even)
    (All-tail (IsAsked workload) first rest all) f.fits
    (within-of_running v IsJoined v.post.state j f.stands)
    (λ r. ap (λ n. map entry_of after.ran ++ map (entry_stashed n) rest) same
    ∙ ap (λ zs. zs ++ map (entry_stashed k) rest)
    (ap (map entry_of) r.ran ∙ map-append entry_of v.ran (ran_now (without_first v rest) first true r.reply ∷ []))
    ∙ append_assoc (map entry_of v.ran) (entry_stashed k first ∷ []) (map (entry_stashed k) rest)
    ∙ ap (λ hs. map entry_of v.ran ++ map (entry_stashed k) hs) (sym e)
    ∙ ap (λ n. map entry_of v.ran ++ map (entry_stashed n) v.stash.looks) (sym same)
    ∙ f.in_order)

-- a submitter is tried
follows-trying : (workload : Workload) (v : WorkerView) (rank : ℕ)
    → Follows workload v
    → IsRunning v.post.state
    → (RunsJoined v.post.state → v.stash.looks ≡ [])
    → Follows workload (trying v rank)
follows-trying workload v rank f run empty =
    follows-running workload (trying v rank) run
    (f.served)
    (f.sized)
    (f.tallied)
    f.noted f.unmerged f.stashed f.fits f.in_order (within-of_running v (λ _. Unit {0}) v.post.state run f.stands)
    (λ _ _. empty)

-- the worker answers its phase; in a joined one it holds nothing
follows-answered : (workload : Workload) (v : WorkerView) (P : ℕ → Type 0)
    → Follows workload v
    → RunsSome P v.post.state
    → v.pending ≡ None
    → (IsJoined (phase_at v) → v.stash.looks ≡ [])
    → Follows workload (record v { post = answered v.post })
follows-answered workload v P f run none empty =
    record {
      served = f.served;
      sized = f.sized;
      tallied = f.tallied;
      noted = f.noted;
      unmerged = λ notes. (unmerged-running workload v.adds P v.post.state run (f.unmerged notes)).0;
      in_order = f.in_order;
      fits = f.fits;
      stashed = f.stashed;
      stands = (within-of_running v P v.post.state run f.stands, empty);
      trying = λ rank e. absurd (cc (none, e));
    }

-- it merges its slice, and answers its phase
follows-reported : (workload : Workload) (v : WorkerView) (adds : List Addition) (logged : List Logged)
    → Merges (phase_at v) v.slice (pages_of v.post) adds
    → Follows workload v
    → RunsSplit v.post.state
    → v.pending ≡ None
    → IsSliceInSplit v.post v.slice
    → HasPhaseMask v.post
    → Follows workload (record (merged v adds logged) { post = answered (merged v adds logged).post })
follows-reported workload v adds logged merges f run none kept has =
    let odd = runs-phase IsSplit v.post.state run in
    let here = runs-weaker IsSplit (λ _. Unit {0}) v.post.state (λ _ _. tt) run in
    let alike = split-alike workload v f.served here has in
    let noted = λ (notes : v.notes ≡ true).
    merge-noted workload v adds merges f.tallied notes (f.noted notes)
    (unmerged-running workload v.adds IsSplit v.post.state run (f.unmerged notes))
    (within-of_running v IsSplit v.post.state run f.stands).1 kept alike
    in
    record {
      served = f.served;
      sized = record { slice = length-replicate (pages_of v.post) 0; users = f.sized.users };
      tallied = record {
        likes = λ page. f.tallied.likes page ∙ sym (merge.merged-tally (station_of v) adds logged merges f.sized.slice page);
        by_phase = λ phase page. f.tallied.by_phase phase page
            ∙ sym (merge.merged-in (station_of v) adds logged merges f.sized.slice phase page);
        steps = ap (plain_told workload) (then-earliest v.post.did (map (step_adding v.post.worker) adds))
            ∙ plain_told-split workload (earliest_first v.post.did) (map (step_adding v.post.worker) adds)
            (All-map (λ s. is_split_in workload s.phase s.page ≡ true) (step_adding v.post.worker) adds
            (merges-split workload v adds merges kept alike))
            ∙ f.tallied.steps;
        reads = all_then (λ s. likes_of s.call ≡ 0 → is_split_in workload s.phase s.page ≡ false) (map (step_adding v.post.worker) adds) v.post.did f.tallied.reads
            (All-map (λ s. likes_of s.call ≡ 0 → is_split_in workload s.phase s.page ≡ false) (step_adding v.post.worker) adds
            (λ i d inside none. absurd (merges-some v adds merges i d inside none)));
        replies = f.tallied.replies;
        last = f.tallied.last;
      };
      noted = λ notes. (noted notes).0;
      unmerged = λ notes. (noted notes).1;
      in_order = f.in_order;
      fits = f.fits;
      stashed = f.stashed;
      stands = (within-of_running v IsSplit v.post.state run f.stands, λ even. absurd (omega arith));
      trying = λ rank e. absurd (cc (none, e));
    }

-- a worker that runs a phase
follows-works : (workload : Workload) (v : WorkerView) (ending : Bool) (answer : Turn) (after : WorkerView)
    → v.pending ≡ None
    → Follows workload v
    → IsSliceInSplit v.post v.slice
    → HasPhaseMask v.post
    → Works v ending answer after
    → Follows workload after
follows-works workload v ending answer after none f kept has (turns.runs_stashed first rest j e a run) =
    follows-stashed workload v first rest after none f kept j e run
follows-works workload v ending answer after none f kept has (turns.retires j e ended a x) =
    let none_kept = empty-unsplit v.post.state v.slice (λ p some. (kept p some).0) (not-split v.post.state j) in
    let zero_at : (b : Bool) (page : ℕ) → cond b (get_or v.slice page 0) 0 ≡ 0 =
    λ b page. ap (λ (n : ℕ). cond b n 0) (none_kept page) ∙ cond_same b 0 in
    let empties : (phase page : ℕ)
    → cond (phase_at v == phase) (get_or v.slice page 0) 0 ≡ cond (0 == phase) (get_or v.slice page 0) 0 =
    λ phase page. zero_at (phase_at v == phase) page ∙ sym (zero_at (0 == phase) page)
    in
    subst (Follows workload) (sym x) (record {
      served = f.served;
      sized = f.sized;
      tallied = record {
        likes =
            f.tallied.likes;
        by_phase =
            λ phase page. f.tallied.by_phase phase page
            ∙ ap (λ n. additions_in v.post phase page + n) (empties phase page);
        steps = f.tallied.steps;
        reads = f.tallied.reads;
        replies = f.tallied.replies;
        last = f.tallied.last;
      };
      noted = f.noted;
      unmerged = λ notes. tt;
      in_order = ap (λ hs. map entry_of v.ran ++ map (entry_stashed 0) hs) e
          ∙ ap (λ hs. map entry_of v.ran ++ map (entry_stashed (next_joined v)) hs) (sym e) ∙ f.in_order;
      fits = f.fits;
      stashed = f.stashed;
      stands = (e, ended);
      trying = λ rank p. absurd (cc (none, p));
    })
follows-works workload v ending answer after none f kept has (turns.acknowledges j e ended seen a x) =
    subst (Follows workload) (sym x) (follows-answered workload v IsJoined f j none (λ _. e))
follows-works workload v ending answer after none f kept has (turns.tries_joined rank j e next seen a x) =
    subst (Follows workload) (sym x)
    (follows-trying workload v rank f (runs-weaker IsJoined (λ _. Unit {0}) v.post.state (λ _ _. tt) j) (λ _. e))
follows-works workload v ending answer after none f kept has (turns.reports now s seen a m x) =
    let merges = merged v m.0 now.post.logged in
    let is : after ≡ record merges { post = answered merges.post } =
    x ∙ ap {A = WorkerView} (λ w. record w { post = answered w.post }) m.1.1 in
    subst (Follows workload) (sym is) (follows-reported workload v m.0 now.post.logged m.1.0 f s none kept has)
follows-works workload v ending answer after none f kept has (turns.idles s seen stuck a x) =
    subst (Follows workload) (sym x) f
follows-works workload v ending answer after none f kept has (turns.tries_split rank s seen room next a x) =
    let odd = runs-phase IsSplit v.post.state s in
    subst (Follows workload) (sym x)
    (follows-trying workload v rank f (runs-weaker IsSplit (λ _. Unit {0}) v.post.state (λ _ _. tt) s)
    (λ j. let even = runs-phase IsJoined v.post.state j in absurd (omega arith)))

-- a turn
pub follows-turn : (workload : Workload) (v : WorkerView) (answer : Turn) (after : WorkerView)
    → v.pending ≡ None
    → IsSliceInSplit v.post v.slice
    → HasPhaseMask v.post
    → AreMasksOf workload.hot after.post.masks
    → Turns v answer after
    → Follows workload v
    → Follows workload after
follows-turn workload v answer after none kept has right (turns.is_gone gone a x) f = subst (Follows workload) (sym x) f
follows-turn workload v answer after none kept has right (turns.waits sight here i w a x) f =
    subst (Follows workload) (sym x) (follows-saw workload v sight v.post.masks (number_of after.post) f.served.hot_alike f kept here none)
follows-turn workload v answer after none kept has right (turns.works sight mask number here i w x) f =
    let all = masks-before workload.hot (saw v sight mask number).post.masks after.post.masks
    (works-keeps (saw v sight mask number) sight.ending answer after x).masks right in
    follows-works workload (saw v sight mask number) sight.ending answer after none
    (follows-saw workload v sight (saw v sight mask number).post.masks number all f kept here none)
    (splits-after v.post v.slice sight mask number kept) (has-after v.post sight mask number has) x

-- nothing is tried any more
follows-settled : (workload : Workload) (v : WorkerView) → Follows workload v → Follows workload (settled v)
follows-settled workload v f = record {
  served = f.served;
  sized = f.sized;
  tallied = f.tallied;
  noted = f.noted;
  unmerged = f.unmerged;
  in_order = f.in_order;
  fits = f.fits;
  stashed = f.stashed;
  stands = f.stands;
  trying = λ rank e. absurd (cc e);
}

-- whether a request has to wait, of so many users and submitters, where these pages are split
abbrev waits_by : ℕ → ℕ → (ℕ → Bool) → ℕ → Request → Bool
waits_by users submitters is_split submitter r = must_wait is_split (asking users submitters submitter r)

-- what is taken has to wait where its request does
waited-is : (workload : Workload) (t : Took) (r : Request) → request_at workload t.submitter t.number ≡ Some r
    → waited workload t ≡ waits_by workload.users (submitters workload) (is_split_in workload t.phase) t.submitter r
waited-is workload t r =
    ap (λ o. option_map_or (must_wait (is_split_in workload t.phase))
    (option_map (asking workload.users (submitters workload) t.submitter) o) false)

-- whether a request has to wait is the same by the workload and by the worker, which has read its split phase's mask
waits-alike : (workload : Workload) (v : WorkerView) (submitter number : ℕ) (r : Request)
    → request_at workload submitter number ≡ Some r
    → IsServed workload v
    → IsRunning v.post.state
    → HasPhaseMask v.post
    → waited workload (record { phase = phase_at v; submitter = submitter; number = number })
    ≡ has_to_wait v submitter r
waits-alike workload v submitter number r asked s run has =
    waited-is workload (record { phase = phase_at v; submitter = submitter; number = number }) r asked
    ∙ ap (λ u. waits_by u (submitters workload) (is_split_in workload (phase_at v)) submitter r) s.users
    ∙ ap (λ m. waits_by v.last.share.users m (is_split_in workload (phase_at v)) submitter r) s.submitters_alike
    ∙ ap (λ xs. waits_by v.last.share.users v.last.share.submitters
    (λ page. split_by hot_pages (λ p. get_or xs p false) workload.hot (phase_at v) page) submitter r) s.marks_alike
    ∙ ap (λ (l : Limits). waits_by v.last.share.users v.last.share.submitters
    (λ page. split_by l.hot (λ p. get_or v.post.opening.marks p false) workload.hot (phase_at v) page) submitter r) (sym s.run)
    ∙ (λ m. waits_by v.last.share.users v.last.share.submitters
    (λ page. split-known v.post.opening.limits.hot (λ p. get_or v.post.opening.marks p false) workload.hot v.post.masks (phase_at v) page s.hot_alike
    (λ odd _ _. has (runs-split v.post.state run odd)) m) submitter r)

-- the page of a look that need not wait is not split
plain-prompt : (v : WorkerView) (submitter : ℕ) (r : Request) (user page : ℕ)
    → has_to_wait v submitter r ≡ false
    → asked_in v.last.share submitter r ≡ look user page
    → is_split_at v.post page ≡ false
plain-prompt v submitter r user page prompt is = sym (ap (must_wait (is_split_at v.post)) is) ∙ prompt

-- no more comes out of the stash in a phase where what is taken runs at once
fits-prompt : (workload : Workload) (xs : List Took) (t : Took)
    → waited workload t ≡ false
    → FitsStash workload xs
    → FitsStash workload (xs ++ t ∷ [])
fits-prompt workload xs t w fits k = rw (stashed-prompt workload xs t k w) (fits k)

-- and where it waits, all that waits with it has room
fits-waits : (workload : Workload) (xs : List Took) (t : Took)
    → FitsStash workload xs
    → length (block workload (xs ++ t ∷ []) (t.phase + 1)) ≤ workload.stash
    → FitsStash workload (xs ++ t ∷ [])
fits-waits workload xs t fits few k = elim (cases_eq (t.phase + 1) k) [
  | inl same ↦ subst (λ j. stashed_in workload j (xs ++ t ∷ []) ≤ workload.stash) same
      (omega (arith, few, stashed-block workload (xs ++ t ∷ []) (t.phase + 1)))
  | inr other ↦ rw (stashed-other workload xs t k other) (fits k)
]

-- a request that is taken from the submitter with a rank
follows-takes : (workload : Workload) (v : WorkerView) (rank : ℕ) (ask : Numbered) (answer : Turn) (after : WorkerView)
    → v.pending ≡ None
    → Follows workload v
    → IsSliceInSplit v.post v.slice
    → HasPhaseMask v.post
    → IsRunning v.post.state
    → (RunsJoined v.post.state → v.stash.looks ≡ [])
    → request_at workload (submitter_at v rank) ask.number ≡ Some ask.request
    → IsThere (length (marks_of workload.pages)) ask.request.page
    → length after.stash.looks ≤ after.stash.capacity → TakesAsk v rank ask answer after → Follows workload after
follows-takes workload v rank ask answer after none f kept has run empty asked there room (turns.stashes w a x) =
    let t : Took = record { phase = phase_at v; submitter = submitter_at v rank; number = ask.number } in
    let h : Held = held_from v rank ask in
    let to_wait : waited workload t ≡ true =
    waits-alike workload v (submitter_at v rank) ask.number ask.request asked f.served run has ∙ w in
    let not_even : IsJoined (phase_at v) → ⊥ = λ j. cc (to_wait, waited-joined workload t j) in
    let p = phase_at v in
    let odd : IsSplit p = elim (parity p) [
      | inl even ↦ absurd (not_even even)
      | inr odd ↦ odd
    ] in
    let same : next_joined v ≡ p + 1 = omega arith in
    let within = within-of_running v (λ _. Unit {0}) v.post.state run f.stands in
    let more : All (λ u. u.phase ≤ p) (v.taken ++ t ∷ []) =
    All-push (λ (u : Took). u.phase ≤ p) v.taken t within.0 (omega arith) in
    let both = parts workload v f.in_order within (λ j. absurd (not_even j)) in
    let held_is : block workload (v.taken ++ t ∷ []) (p + 1) ≡ map (entry_stashed (next_joined v)) (v.stash.looks ++ h ∷ []) =
    block-next-waits workload v.taken t to_wait (before-next v.taken p within.0)
    ∙ ap (λ zs. zs ++ entry_stashed (p + 1) h ∷ []) (sym both.1)
    ∙ ap (λ n. map (entry_stashed (next_joined v)) v.stash.looks ++ entry_stashed n h ∷ []) (sym same)
    ∙ sym (map-append (entry_stashed (next_joined v)) v.stash.looks (h ∷ [])) in
    let enough : length (v.stash.looks ++ h ∷ []) ≤ v.stash.capacity =
    subst (λ (w : WorkerView). length w.stash.looks ≤ w.stash.capacity) x room in
    subst (Follows workload) (sym x) (follows-running workload (with_stashed (with_taken v rank ask) h) run
    (f.served)
    (f.sized)
    (f.tallied)
    f.noted f.unmerged
    (All-push (IsAsked workload) v.stash.looks h f.stashed (record { asked = asked; there = there }))
    (fits-waits workload v.taken t f.fits
    (omega (
      arith,
      enough,
      f.served.stash_alike,
      ap length held_is,
      length-map (v.stash.looks ++ h ∷ []) (entry_stashed (next_joined v)),
    )))
    (ap (λ hs. map entry_of v.ran ++ hs) (sym held_is)
    ∙ ap (λ rs. rs ++ block workload (v.taken ++ t ∷ []) (p + 1))
    (both.0 ∙ sym (order_below-waits workload v.taken t to_wait))
    ∙ sym (order-parts workload (v.taken ++ t ∷ []) p (before-next (v.taken ++ t ∷ []) p more)))
    (more, within.1)
    (λ k e. absurd (cc (none, e))))
follows-takes workload v rank ask answer after none f kept has run empty asked there room (turns.runs w a r) =
    let t : Took = record { phase = phase_at v; submitter = submitter_at v rank; number = ask.number } in
    let h : Held = held_from v rank ask in
    let p = phase_at v in
    let at_once : waited workload t ≡ false =
    waits-alike workload v (submitter_at v rank) ask.number ask.request asked f.served run has ∙ w in
    let within = within-of_running v (λ _. Unit {0}) v.post.state run f.stands in
    let more : All (λ u. u.phase ≤ p) (v.taken ++ t ∷ []) =
    All-push (λ (u : Took). u.phase ≤ p) v.taken t within.0 (omega arith) in
    let both = parts workload v f.in_order within (λ j. empty (runs-joined v.post.state run j)) in
    let held_next = map (entry_stashed (next_joined v)) v.stash.looks in
    follows-run workload (with_taken v rank ask) after h false r run none
    (f.served)
    (f.sized)
    (f.tallied)
    f.noted f.unmerged has
    (record { asked = asked; there = there })
    kept
    (λ user page is. plain-prompt v (submitter_at v rank) ask.request user page w is) f.stashed
    (fits-prompt workload v.taken t at_once f.fits)
    (more, within.1)
    (λ e.
    ap (λ rs. rs ++ held_next)
    (ap (map entry_of) e.ran ∙ map-append entry_of v.ran (ran_now (with_taken v rank ask) h false e.reply ∷ [])
    ∙ ap (λ rs. rs ++ entry_of (ran_now (with_taken v rank ask) h false e.reply) ∷ []) both.0
    ∙ sym (order_below-prompt workload v.taken t at_once))
    ∙ ap (λ hs. order_below workload (v.taken ++ t ∷ []) (p + 1) ++ hs)
    (both.1 ∙ sym (block-next-prompt workload v.taken t at_once))
    ∙ sym (order-parts workload (v.taken ++ t ∷ []) p (before-next (v.taken ++ t ∷ []) p more)))

-- what is given
pub follows-give : (workload : Workload) (v : WorkerView) (took : Taken) (answer : Turn) (after : WorkerView)
    → CanGive v took
    → IsAskedBy workload v took
    → IsSliceInSplit v.post v.slice
    → HasPhaseMask v.post
    → length after.stash.looks ≤ after.stash.capacity
    → Gives v took answer after
    → Follows workload v
    → Follows workload after
follows-give workload v took answer after can asked kept has room (turns.nothing t a x) f =
    subst (Follows workload) (sym x) (follows-settled workload v f)
follows-give workload v took answer after can asked kept has room (turns.ends rank p t a x) f =
    let run = (f.trying rank p).0 in
    subst (Follows workload) (sym x) (follows-running workload (record (settled v) { ended = set v.ended rank true }) run
    (f.served)
    (f.sized)
    (f.tallied)
    f.noted f.unmerged f.stashed f.fits f.in_order (within-of_running v (λ _. Unit {0}) v.post.state run f.stands)
    (λ k e. absurd (cc e)))
follows-give workload v took answer after can asked kept has room (turns.asks rank ask p t x) f =
    let run = f.trying rank p in
    let by_plan = (subst (λ y. IsAskedBy workload v y) t asked) rank p in
    let next = (subst (λ y. CanGive v y) t can) rank p in
    let P : ℕ → Type 0 = λ n. IsThere n ask.request.page in
    let there = subst P (ap length (sym f.served.marks_alike)) next.there in
    follows-takes workload (settled v) rank ask answer after refl
    (follows-settled workload v f) kept has run.0 run.1 by_plan there room x
