-- A turn whose look is fresh is one of the model's.
use Rattle.std.proofs.Common.{◌≡◌, ◌≢◌, ◌⊎◌, inl, inr, ℕ, ◌+◌, ◌-◌, ◌%◌, ◌<◌, ◌≤◌, ◌==◌, ◌&&◌, ◌||◌, Bool, true, false, true≢false, cond, List, [], length, get_or, set, slice_get, Some, None, sum_by, MatchBool, refl, sym, ap, ◌∙◌, subst, arith}
use Rattle.std.specs.Option.{IsSomeAnd}
use Rattle.std.proofs.lemmas.Bool.{cases_Bool, cases_lt, lt-ltb, ltb-false, ltb-true}
use Rattle.std.proofs.lemmas.List.{length_push}
use Rattle.std.proofs.lemmas.List.Sums.{get_or-le-sum_by}
use Rattle.std.proofs.lemmas.Option.{get_or_from_slice_get, slice_get-get_or, slice_get_within}
use Rattle.like_requests.specs.declared.request.Request.{Request}
use Rattle.like_requests.specs.declared.request.Taken.{Taken}
use Rattle.like_requests.specs.declared.request.Taken.TheVariants as taken
use Rattle.like_core.specs.declared.sight.Sight.{Sight}
use Rattle.like_core.specs.declared.worker_state.WorkerState.{WorkerState}
use Rattle.like_core.specs.declared.worker_state.WorkerState.TheVariants as state
use Rattle.like_core.specs.Phase.{is_hot_by, is_marked}
use Rattle.like_core.specs.PhaseMasks.{mask_of}
use Rattle.like_core.specs.Post.{answered, is_split_at}
use Rattle.like_core.specs.WorkerState.{IsSightOf, RunsJoined, RunsSplit, looked, phase_of, seen}
use Rattle.like_core.specs.declared.view.WorkerSeatView.{WorkerSeatView}
use Rattle.like_tables.specs.declared.held.Held.{Held}
use Rattle.like_promises.specs.Order.{must_wait}
use Rattle.like_promises.specs.Store.{Ask, like, look, refuse}
use Rattle.like_queue.specs.Inbox.{HandsOver, InboxView, item_count}
use Rattle.like_roles.specs.declared.turn.Turn.{Turn}
use Rattle.like_roles.specs.declared.turn.Turn.TheVariants as turn
use Rattle.like_roles.specs.worker.Serve.{Runs}
use Rattle.like_roles.specs.worker.Turns as turns
use Rattle.like_roles.specs.worker.Turns.{Gives, Turns, Works, held_from, saw, settled, trying, with_taken, without_first}
use Rattle.like_roles.specs.worker.WorkerView.{TookAllEnds, WorkerView, asked_in, has_to_wait, submitter_at}
use Rattle.like_roles.proofs.Effects.{Runs-effects}
use Rattle.like_ending.specs.Progress.{WorkerProgress}
use Rattle.like_ending.specs.FreshTurns as fresh
use Rattle.like_ending.specs.FreshTurns.{FreshTurns, FreshWorks}
use Rattle.like_ending.proofs.Sums.{none_in_sum, sum_none, sum_set}
use Rattle.like_crew.specs.Fresh.{AllOpen, IsModelled}
use Rattle.like_crew.specs.Progress.{items_left, progress_of}
use Rattle.like_crew.specs.Server.{Agree, ServerView}
use Rattle.like_crew.specs.ServerTurns as server
use Rattle.like_crew.specs.ServerTurns.{ServerTurns, rank_at}
use Rattle.like_crew.proofs.servers.Numbers.{place-own}
use Rattle.like_crew.proofs.servers.Sights.{serves-last}

-- how far a worker with these inboxes is
abbrev far : WorkerView → List InboxView → WorkerProgress
far v inboxes = record { state = v.post.state; items = sum_by items_left inboxes; looks = length v.stash.looks }

far-is : (v : WorkerView) (inboxes : List InboxView) (s : WorkerState) (items looks : ℕ)
    → v.post.state ≡ s
    → sum_by items_left inboxes ≡ items
    → length v.stash.looks ≡ looks
    → far v inboxes ≡ record { state = s; items = items; looks = looks }
far-is v inboxes s items looks a b c = λ m. record { state = a m; items = b m; looks = c m }

-- who waits has answered the phase that it sees, and stays as it is
waits-state : (s : WorkerState) (sight : Sight) (phase : ℕ)
    → IsSightOf s sight
    → sight.waits ≡ true
    → sight.number ≡ phase
    → (s ≡ state.Answered phase) × (seen s sight ≡ s)
waits-state (state.Runs k) sight phase i w n = absurd (true≢false (sym w ∙ i.1))
waits-state (state.Answered k) sight phase i w n =
    let same : sight.number ≡ k = subst (λ b. MatchBool b (sight.number ≡ k) (sight.number ≡ k + 1)) w i in
    (ap state.Answered (sym same ∙ n), ap (λ b. cond b (state.Answered k) (state.Runs (k + 1))) w)
waits-state state.Gone sight phase i w n = absurd i

-- who doesn't wait runs the phase that it sees
enters-state : (s : WorkerState) (sight : Sight) (phase : ℕ)
    → IsSightOf s sight
    → sight.waits ≡ false
    → sight.number ≡ phase
    → seen s sight ≡ looked phase s
enters-state (state.Runs k) sight phase i w n = refl
enters-state (state.Answered k) sight phase i w n =
    let next : sight.number ≡ k + 1 = subst (λ b. MatchBool b (sight.number ≡ k) (sight.number ≡ k + 1)) w i in
    ap (λ b. cond b (state.Answered k) (state.Runs (k + 1))) w
    ∙ ap state.Runs (sym next ∙ n)
    ∙ sym (ap (λ b. cond b (state.Runs phase) (state.Answered k)) (lt-ltb k phase (omega (arith, next, n))))
enters-state state.Gone sight phase i w n = absurd i

-- what a worker does after its look leaves that
runs-last : (v : WorkerView) (h : Held) (stashed : Bool) (after : WorkerView)
    → Runs v h stashed after
    → after.post.last ≡ v.post.last
runs-last v h stashed after run =
    ap (λ x. x.post.last) run.noted ∙ serves-last v h.submitter h.ask.request run.reply run.served run.serves

works-last : (v : WorkerView) (ending : Bool) (answer : Turn) (after : WorkerView)
    → Works v ending answer after
    → after.post.last ≡ v.post.last
works-last v ending answer after (turns.runs_stashed first rest j e a run) =
    runs-last (without_first v rest) first true after run
works-last v ending answer after (turns.retires j e ended a x) = ap (λ y. y.post.last) x
works-last v ending answer after (turns.acknowledges j e ended seen a x) = ap (λ y. y.post.last) x
works-last v ending answer after (turns.tries_joined place j e next seen a x) = ap (λ y. y.post.last) x
works-last v ending answer after (turns.reports now s seen a m x) =
    ap (λ y. y.post.last) x ∙ ap (λ y. y.post.last) m.1.1
works-last v ending answer after (turns.idles s seen stuck a x) = ap (λ y. y.post.last) x
works-last v ending answer after (turns.tries_split place s seen room next a x) = ap (λ y. y.post.last) x

gives-last : (v : WorkerView) (took : Taken) (answer : Turn) (after : WorkerView)
    → Gives v took answer after
    → after.post.last ≡ v.post.last
gives-last v took answer after (turns.nothing g a x) = ap (λ y. y.post.last) x
gives-last v took answer after (turns.ends place p g a x) = ap (λ y. y.post.last) x
gives-last v took answer after (turns.asks place ask p g (turns.stashes w a x)) = ap (λ y. y.post.last) x
gives-last v took answer after (turns.asks place ask p g (turns.runs w a run)) =
    runs-last (with_taken (settled v) place ask) (held_from (settled v) place ask) false after run

-- in a joined phase nothing has to wait
even-phase : (s : WorkerState) → RunsJoined s → phase_of s % 2 ≡ 0
even-phase (state.Runs k) j = j
even-phase (state.Answered k) j = absurd j
even-phase state.Gone j = absurd j

joined-plain : (post : WorkerSeatView) (page : ℕ) → RunsJoined post.state → is_split_at post page ≡ false
joined-plain post page j =
    ap (λ n. (n == 1) && (is_marked post.opening.marks page
    || is_hot_by post.opening.limits.hot (mask_of post.masks (phase_of post.state)) page)) (even-phase post.state j)

joined-prompt : (v : WorkerView) (submitter : ℕ) (r : Request)
    → RunsJoined v.post.state
    → has_to_wait v submitter r ≡ false
joined-prompt v submitter r j = by_ask (asked_in v.last.share submitter r) where
  by_ask : (a : Ask) → must_wait (is_split_at v.post) a ≡ false
  by_ask (like user page) = refl
  by_ask (look user page) = joined-plain v.post page j
  by_ask (refuse why) = refl

-- a worker knows whether items of its inboxes are left
record KnowsItems (v : WorkerView) (items : ℕ) : Type 0 where
  pub none : TookAllEnds v.ended → items ≡ 0
  pub some : ¬ TookAllEnds v.ended → 0 < items

knows-items : (v : WorkerView) (inboxes : List InboxView) → Agree v inboxes → KnowsItems v (sum_by items_left inboxes)
knows-items v inboxes a = record {
  none = λ ended. sum_none items_left inboxes
      (λ k d there.
      let i : InboxView = get_or inboxes k d in
      let over : length i.plan < i.taken =
      ltb-true (length i.plan) i.taken
      (sym (a.each k i (slice_get-get_or inboxes k d there)).ended ∙ ended k (omega (arith, there, a.places))) in
      omega (arith, over));
  some = λ left. elim (cases_lt 0 (sum_by items_left inboxes)) [
    | inl more ↦ more
    | inr none ↦ absurd (left (λ place within.
        let there : place < length inboxes = omega (arith, within, a.places) in
        let d : InboxView = record { plan = []; taken = 0 } in
        let i : InboxView = get_or inboxes place d in
        let no_item : length i.plan + 1 - i.taken ≡ 0 =
        none_in_sum items_left inboxes (omega (arith, none)) place d there in
        (a.each place i (slice_get-get_or inboxes place d there)).ended
        ∙ lt-ltb (length i.plan) i.taken (omega (arith, no_item))))
  ];
}

-- a turn that tries a submitter: it runs a joined phase and holds nothing, or it runs a split phase
abbrev pub MayTry : WorkerView → Type 0
MayTry v = (RunsJoined v.post.state × (v.stash.looks ≡ [])) ⊎ RunsSplit v.post.state

-- an inbox that handed over an item has one less left
one-less : (i j : InboxView) (took : Taken)
    → HandsOver i took j
    → i.taken ≤ length i.plan
    → took ≢ taken.Nothing
    → items_left j + 1 ≡ items_left i
one-less i j (taken.Ask ask) h open_yet some =
    let there : i.taken < length i.plan = slice_get_within i.plan i.taken ask.request h.0 in
    let left : items_left j ≡ length i.plan + 1 - (i.taken + 1) = ap items_left h.2 in
    omega (arith, there, left)
one-less i j taken.End h open_yet some =
    let left : items_left j ≡ length i.plan + 1 - (length i.plan + 1) = ap items_left h.1 in
    omega (arith, h.0, open_yet, left)
one-less i j taken.Nothing h open_yet some = absurd (some refl)

module _ (all_open ending : Bool) where
  -- a turn that tries nobody
  works-modelled : (v : WorkerView) (saw_end : Bool) (answer : Turn) (after : WorkerView) (inboxes : List InboxView)
      → KnowsItems v (sum_by items_left inboxes)
      → saw_end ≡ ending
      → after.pending ≡ None
      → Works v saw_end answer after
      → FreshWorks all_open ending (far v inboxes) (far after inboxes)
  works-modelled v saw_end answer after inboxes k e none (turns.runs_stashed first rest j h a run) =
      let did = Runs-effects (without_first v rest) first true after run in
      let before : length v.stash.looks ≡ length rest + 1 = ap (λ (xs : List Held). length xs) h ∙ omega arith in
      let now : length after.stash.looks ≡ length rest = ap (λ x. length x.looks) did.stash in
      fresh.runs_stashed j (omega (arith, before))
      (far-is after inboxes v.post.state _ (length v.stash.looks - 1) did.state refl (omega (arith, before, now)))
  works-modelled v saw_end answer after inboxes k e none (turns.retires j h ended a x) =
      fresh.retires j (ap (λ (xs : List Held). length xs) h) (k.none ended) (ap (λ y. far y inboxes) x)
  works-modelled v saw_end answer after inboxes k e none (turns.acknowledges j h ended seen a x) =
      fresh.acknowledges j (ap (λ (xs : List Held). length xs) h) (k.some ended) (sym e ∙ seen)
      (ap (λ y. far y inboxes) x)
  works-modelled v saw_end answer after inboxes k e none (turns.tries_joined place j h next seen a x) =
      absurd (cc (none, ap (λ y. y.pending) x))
  works-modelled v saw_end answer after inboxes k e none (turns.reports now s seen a m x) =
      let merges = turns.merged v m.0 now.post.logged in
      let is : after ≡ record merges { post = answered merges.post } =
      x ∙ ap {A = WorkerView} (λ w. record w { post = answered w.post }) m.1.1 in
      fresh.reports s (sym e ∙ seen) (ap (λ y. far y inboxes) is)
  works-modelled v saw_end answer after inboxes k e none (turns.idles s seen stuck a x) =
      fresh.idles s (sym e ∙ seen) (ap (λ y. far y inboxes) x)
  works-modelled v saw_end answer after inboxes k e none (turns.tries_split place s seen room next a x) =
      absurd (cc (none, ap (λ y. y.pending) x))

  module _ (v : WorkerView) (place : ℕ) (i j : InboxView) (inboxes : List InboxView)
      (here : slice_get inboxes place ≡ Some i) (open_yet : i.taken ≤ length i.plan) (runs_on : ending ≡ false) where
    left-now : sum_by items_left (set inboxes place j) + items_left i ≡ sum_by items_left inboxes + items_left j
    left-now = sum_set items_left inboxes place i j here

    some-left : 0 < sum_by items_left inboxes
    some-left =
        let at : get_or inboxes place i ≡ i = get_or_from_slice_get inboxes place i i here in
        let most : items_left (get_or inboxes place i) ≤ sum_by items_left inboxes =
        get_or-le-sum_by items_left inboxes place i (slice_get_within inboxes place i here) in
        let mine : items_left i ≤ sum_by items_left inboxes =
        subst (λ x. items_left x ≤ sum_by items_left inboxes) at most in
        omega (arith, mine, open_yet)

    no-looks : v.stash.looks ≡ [] → length v.stash.looks ≡ 0
    no-looks h = ap (λ (xs : List Held). length xs) h

    -- nothing was found
    finds-none : (after : WorkerView) → MayTry v → j ≡ i → all_open ≡ false
        → after.post.state ≡ v.post.state
        → length after.stash.looks ≡ length v.stash.looks
        → FreshWorks all_open ending (far v inboxes) (far after (set inboxes place j))
    finds-none after may same shut s h =
        let left : items_left j ≡ items_left i = ap items_left same in
        let is : far after (set inboxes place j) ≡ far v inboxes =
        far-is after (set inboxes place j) v.post.state (sum_by items_left inboxes) (length v.stash.looks) s
        (omega (arith, left, left-now)) h in
        elim may [
          | inl joined ↦ fresh.finds_nothing joined.0 (no-looks joined.1) some-left runs_on shut is
          | inr split ↦ fresh.idles split runs_on is
        ]

    -- an item was taken, and is done with
    takes-one : (after : WorkerView) (took : Taken) → MayTry v → HandsOver i took j → took ≢ taken.Nothing
        → after.post.state ≡ v.post.state
        → length after.stash.looks ≡ length v.stash.looks
        → FreshWorks all_open ending (far v inboxes) (far after (set inboxes place j))
    takes-one after took may hands some s h =
        let less = one-less i j took hands open_yet some in
        let is : far after (set inboxes place j)
        ≡ record {
          state = v.post.state;
          items = sum_by items_left inboxes - 1;
          looks = length v.stash.looks;
        } =
        far-is after (set inboxes place j) v.post.state (sum_by items_left inboxes - 1) (length v.stash.looks) s
        (omega (arith, less, left-now)) h in
        elim may [
          | inl joined ↦ fresh.takes_joined joined.0 (no-looks joined.1) some-left runs_on is
          | inr split ↦ fresh.takes_split split runs_on some-left is
        ]

    -- a look was taken, and is stashed
    stashes : (after : WorkerView) (took : Taken) → RunsSplit v.post.state → HandsOver i took j → took ≢ taken.Nothing
        → after.post.state ≡ v.post.state
        → length after.stash.looks ≡ length v.stash.looks + 1
        → FreshWorks all_open ending (far v inboxes) (far after (set inboxes place j))
    stashes after took split hands some s h =
        let less = one-less i j took hands open_yet some in
        fresh.stashes split runs_on some-left
        (far-is after (set inboxes place j) v.post.state
        (sum_by items_left inboxes - 1) (length v.stash.looks + 1) s (omega (arith, less, left-now)) h)

    given-modelled : (took : Taken) (answer : Turn) (after : WorkerView) → MayTry v → HandsOver i took j
        → (took ≡ taken.Nothing → all_open ≡ false)
        → Gives (trying v place) took answer after
        → FreshWorks all_open ending (far v inboxes) (far after (set inboxes place j))
    given-modelled took answer after may hands shut (turns.nothing g a x) =
        finds-none after may (subst (λ t. HandsOver i t j) g hands).1 (shut g) (ap (λ y. y.post.state) x)
        (ap (λ y. length y.stash.looks) x)
    given-modelled took answer after may hands shut (turns.ends p is g a x) =
        takes-one after took may hands (λ e. cc (e, g)) (ap (λ y. y.post.state) x) (ap (λ y. length y.stash.looks) x)
    given-modelled took answer after may hands shut (turns.asks p ask is g (turns.runs w a run)) =
        let did = Runs-effects (with_taken (settled (trying v place)) p ask)
        (held_from (settled (trying v place)) p ask) false after run in
        takes-one after took may hands (λ e. cc (e, g)) did.state (ap (λ x. length x.looks) did.stash)
    given-modelled took answer after may hands shut (turns.asks p ask is g (turns.stashes w a x)) =
        elim may [
          | inl joined ↦
              absurd (true≢false (sym w ∙ joined-prompt (settled (trying v place))
              (submitter_at (settled (trying v place)) p) ask.request joined.0))
          | inr split ↦
              stashes after took split hands (λ e. cc (e, g)) (ap (λ y. y.post.state) x)
              (ap (λ y. length y.stash.looks) x ∙ length_push v.stash.looks (held_from (settled (trying v place)) p ask))
        ]

-- what a turn does that tries a submitter
pub record TriesOne (v tried : WorkerView) (ending : Bool) (submitter : ℕ) : Type 0 where
  pub place : ℕ
  pub is : tried ≡ trying v place
  pub whose : submitter ≡ submitter_at v place
  pub open_yet : get_or v.ended place true ≡ false
  pub may : MayTry v
  pub runs_on : ending ≡ false

pub tries-one : (v : WorkerView) (ending : Bool) (answer : Turn) (tried : WorkerView) (submitter : ℕ)
    → answer ≡ turn.Try submitter
    → Works v ending answer tried
    → TriesOne v tried ending submitter
tries-one v ending answer tried submitter q (turns.runs_stashed first rest j e a run) = absurd (cc (a, q))
tries-one v ending answer tried submitter q (turns.retires j e ended a x) = absurd (cc (a, q))
tries-one v ending answer tried submitter q (turns.acknowledges j e ended seen a x) = absurd (cc (a, q))
tries-one v ending answer tried submitter q (turns.tries_joined place j e next seen a x) =
    record { place = place; is = x; whose = cc (a, q); open_yet = next.not_ended; may = inl (j, e); runs_on = seen }
tries-one v ending answer tried submitter q (turns.reports now s seen a m x) = absurd (cc (a, q))
tries-one v ending answer tried submitter q (turns.idles s seen stuck a x) = absurd (cc (a, q))
tries-one v ending answer tried submitter q (turns.tries_split place s seen room next a x) =
    record { place = place; is = x; whose = cc (a, q); open_yet = next.not_ended; may = inr s; runs_on = seen }

-- a whole turn that tries nobody
none-tried : (all_open : Bool) (phase : ℕ) (ending : Bool) (u v : WorkerView) (answer : Turn) (inboxes : List InboxView)
    → Agree u inboxes
    → v.pending ≡ None
    → (u.post.state ≢ state.Gone
    → IsSomeAnd v.post.last (λ sight. (sight.number ≡ phase) × (sight.ending ≡ ending)))
    → Turns u answer v → FreshTurns all_open phase ending (far u inboxes) (far v inboxes)
none-tried all_open phase ending u v answer inboxes a none looks (turns.is_gone gone told x) =
    fresh.is_gone gone (ap (λ y. far y inboxes) x)
none-tried all_open phase ending u v answer inboxes a none looks (turns.waits sight here i w told x) =
    let shown = subst (λ l. IsSomeAnd l (λ sight. (sight.number ≡ phase) × (sight.ending ≡ ending)))
    (ap (λ y. y.post.last) x) (looks here) in
    let now = waits-state u.post.state sight phase i w shown.0 in
    fresh.waits now.0
    (far-is v inboxes u.post.state _ _ (ap (λ y. y.post.state) x ∙ now.1) refl (ap (λ y. length y.stash.looks) x))
none-tried all_open phase ending u v answer inboxes a none looks (turns.works sight mask number here i w x) =
    let v1 : WorkerView = saw u sight mask number in
    let shown = subst (λ l. IsSomeAnd l (λ sight. (sight.number ≡ phase) × (sight.ending ≡ ending)))
    (works-last v1 sight.ending answer v x) (looks here) in
    let k = knows-items u inboxes a in
    let enters : far v1 inboxes ≡ fresh.saw phase (far u inboxes) =
    far-is v1 inboxes _ _ _ (enters-state u.post.state sight phase i w shown.0) refl refl in
    fresh.works (subst (λ p. FreshWorks all_open ending p (far v inboxes)) enters
    (works-modelled all_open ending v1 sight.ending answer v inboxes (record { none = k.none; some = k.some }) shown.1
    none x))

-- a whole turn that tries a submitter
one-tried : (all_open : Bool) (phase : ℕ) (ending : Bool) (s : ServerView) (tried after : WorkerView) (asked answer : Turn)
    (submitter : ℕ) (i j : InboxView) (took : Taken)
    → Agree s.worker s.inboxes
    → (all_open ≡ true → AllOpen s)
    → (s.worker.post.state ≢ state.Gone
    → IsSomeAnd after.post.last (λ sight. (sight.number ≡ phase) × (sight.ending ≡ ending)))
    → asked ≡ turn.Try submitter
    → slice_get s.inboxes (rank_at s submitter) ≡ Some i → HandsOver i took j
    → (took ≡ taken.Nothing → get_or s.opened (rank_at s submitter) 0 ≤ i.taken)
    → Gives tried took answer after → Turns s.worker asked tried
    → FreshTurns all_open phase ending (progress_of s) (far after (set s.inboxes (rank_at s submitter) j))
one-tried all_open phase ending s tried after asked answer submitter i j took a lists looks q here hands none gives
    (turns.is_gone gone told x) = absurd (cc (told, q))
one-tried all_open phase ending s tried after asked answer submitter i j took a lists looks q here hands none gives
    (turns.waits sight there shows w told x) = absurd (cc (told, q))
one-tried all_open phase ending s tried after asked answer submitter i j took a lists looks q here hands none gives
    (turns.works sight mask number there shows w x) =
    let v1 : WorkerView = saw s.worker sight mask number in
    let o = tries-one v1 sight.ending asked tried submitter q x in
    let shown = subst (λ l. IsSomeAnd l (λ sight. (sight.number ≡ phase) × (sight.ending ≡ ending)))
    (gives-last tried took answer after gives ∙ works-last v1 sight.ending asked tried x) (looks there) in
    let at : rank_at s submitter ≡ o.place =
    ap (rank_at s) o.whose ∙ place-own s.worker.last.share a.is_worker o.place in
    let found : slice_get s.inboxes o.place ≡ Some i = ap (slice_get s.inboxes) (sym at) ∙ here in
    let open_yet : i.taken ≤ length i.plan =
    ltb-false (length i.plan) i.taken (sym (a.each o.place i found).ended ∙ o.open_yet) in
    let shut : took ≡ taken.Nothing → all_open ≡ false =
    λ e. elim (cases_Bool all_open) [
      | inl all ↦
          let opened : get_or s.opened (rank_at s submitter) 0 ≡ item_count i.plan =
          get_or_from_slice_get s.opened (rank_at s submitter) (item_count i.plan) 0
          (lists all (rank_at s submitter) i here) in
          absurd (omega (arith, opened, none e, open_yet))
      | inr some ↦ some
    ] in
    let enters : far v1 s.inboxes ≡ fresh.saw phase (progress_of s) =
    far-is v1 s.inboxes _ _ _ (enters-state s.worker.post.state sight phase shows w shown.0) refl refl in
    fresh.works (subst (λ p. FreshWorks all_open ending p (far after (set s.inboxes (rank_at s submitter) j))) enters
    (subst (λ p. FreshWorks all_open ending (far v1 s.inboxes) (far after (set s.inboxes p j))) (sym at)
    (given-modelled all_open ending v1 o.place i j s.inboxes found open_yet (sym shown.1 ∙ o.runs_on) took answer after
    o.may hands shut (subst (λ y. Gives y took answer after) o.is gives))))

-- a whole turn
pub server-modelled : (answer : Turn) (s t : ServerView)
    → Agree s.worker s.inboxes
    → ServerTurns answer s t
    → IsModelled s t
server-modelled answer s t a (server.tries_none turns none same) all_open phase ending lists looks =
    subst (λ p. FreshTurns all_open phase ending (progress_of s) p) (sym (ap progress_of same))
    (none-tried all_open phase ending s.worker t.worker answer s.inboxes a none looks turns)
server-modelled answer s t a (server.tries submitter tried i j took turns here hands none gives same) all_open phase
    ending lists looks =
    subst (λ p. FreshTurns all_open phase ending (progress_of s) p) (sym (ap progress_of same))
    (one-tried all_open phase ending s tried t.worker (turn.Try submitter) answer submitter i j took a lists looks refl
    here hands none gives turns)
