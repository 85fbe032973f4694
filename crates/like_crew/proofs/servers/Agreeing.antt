-- A worker and its inboxes go on to agree.
use Rattle.std.proofs.Common.{◌≡◌, ℕ, ◌+◌, ◌-◌, ◌<◌, ◌≤◌, Bool, true, false, ltb, List, [], length, get_or, set, slice_get, Some, None, refl, sym, ap, ◌∙◌, subst, arith, inl, inr, add-one, option_map, option_and_then}
use Rattle.std.specs.List.{All, range_with_len}
use Rattle.std.proofs.lemmas.Bool.{cases_eq, le-ltb, lt-ltb, ltb-false}
use Rattle.std.proofs.lemmas.List.{get_or-set_same, get_or-set_other, length-set, set-get_or}
use Rattle.std.proofs.lemmas.Option.{slice_get-map, slice_get_within, get_or_from_slice_get, same_Some}
use Rattle.std.proofs.Math.Seq.{map-set_same}
use Rattle.like_requests.specs.declared.request.Numbered.{Numbered}
use Rattle.like_requests.specs.declared.request.Request.{Request}
use Rattle.like_requests.specs.declared.request.Taken.{Taken}
use Rattle.like_requests.specs.declared.request.Taken.TheVariants as taken
use Rattle.like_core.specs.PhaseMasks.{KeepsMasks}
use Rattle.like_core.specs.Post.{pages_of}
use Rattle.like_core.proofs.PhaseMasks.{masks-before}
use Rattle.like_queue.specs.Inbox.{HandsOver, InboxView, item_count}
use Rattle.like_tables.specs.Share.{Share, dealt}
use Rattle.like_promises.proofs.RequestAt.{request_at-plan}
use Rattle.like_promises.specs.declared.log.Took.{Took}
use Rattle.like_roles.specs.declared.turn.Turn.{Turn}
use Rattle.like_roles.specs.declared.turn.Turn.TheVariants as turn
use Rattle.like_roles.specs.worker.Follows.{Follows, IsAskedBy}
use Rattle.like_promises.specs.Workload.{Workload, nth, request_at}
use Rattle.like_roles.specs.worker.Turns.{CanGive, Gives, HasTaken, IsNext, Pends, TakesNothing, Turns, with_taken}
use Rattle.like_requests.specs.Setup.{IsThere}
use Rattle.like_roles.specs.worker.WorkerView.{WorkerView, phase_at, submitter_at}
use Rattle.like_crew.specs.Server.{Agree, AgreesAt, AreOwnPlans, ReadMasksOf, ServerView, WorksFor, numbers_given, plans_of, requests_taken}
use Rattle.like_promises.specs.Log.{numbers_taken}
use Rattle.like_crew.proofs.lists.Stepped.{slice_get-set_other, slice_get-set_same}
use Rattle.like_crew.proofs.servers.Numbers.{count-taken, given-own, numbers-next, numbers-same}
use Rattle.like_crew.proofs.servers.Shares.{plan-at}
use Rattle.like_crew.proofs.servers.Unnoted.{gives-adds, turns-adds}
use Rattle.like_crew.proofs.servers.Sights.{HasSeen, IsRising, IsTrying, gives-seen, taken-rising, turns-seen}

-- a turn that takes nothing
pub agree-turn : (v w : WorkerView) (inboxes : List InboxView) (answer : Turn)
    → Turns v answer w
    → TakesNothing v w
    → Agree v inboxes
    → Agree w inboxes
agree-turn v w inboxes answer turns k a =
    let seen : HasSeen w = turns-seen v answer w turns (a.above, a.present) in
    record {
      is_worker = subst (λ (s : Share). s.worker < s.workers) (sym k.share) a.is_worker;
      lefts = ap (λ (xs : List ℕ). length xs) k.left ∙ a.lefts;
      places = ap (λ (xs : List Bool). length xs) k.ended ∙ a.places;
      each = λ place i e.
          let g = a.each place i e in
          record {
            left = ap (λ xs. get_or xs place 0 + requests_taken i) k.left ∙ g.left;
            ended = ap (λ xs. get_or xs place true) k.ended ∙ g.ended;
            there = subst (λ (marks : List Bool). All (λ (r : Request). IsThere (length marks) r.page) i.plan)
                (sym k.marks) g.there;
          };
      taken = λ s. ap (numbers_taken s) k.taken ∙ a.taken s ∙ ap (λ x. numbers_given x inboxes s) (sym k.share);
      rising = subst IsRising (sym k.taken) a.rising;
      above = seen.0;
      present = seen.1;
      unnoted = λ n. let was : v.notes ≡ false = sym k.notes ∙ n in turns-adds v answer w was turns ∙ a.unnoted was;
    }

-- a server of the same run, with inboxes of the same plans, whose worker follows the plans too
pub works-on : (workload : Workload) (s t : ServerView)
    → t.worker.last.share ≡ s.worker.last.share
    → plans_of t.inboxes ≡ plans_of s.inboxes
    → (ReadMasksOf workload t → Follows workload t.worker)
    → WorksFor workload s
    → WorksFor workload t
works-on workload s t share plans follows h = record {
  plans = plans ∙ h.plans ∙ ap (λ (x : Share). dealt x.workers x.worker workload.plans) (sym share);
  follows = follows;
}

-- a turn that takes nothing
pub works-turn : (workload : Workload) (s t : ServerView)
    → TakesNothing s.worker t.worker
    → (ReadMasksOf workload t → Follows workload s.worker → Follows workload t.worker)
    → t.inboxes ≡ s.inboxes
    → WorksFor workload s
    → WorksFor workload t
works-turn workload s t k follows same h =
    works-on workload s t k.share (ap plans_of same)
    (λ right. follows right
    (h.follows (masks-before workload.hot s.worker.post.masks t.worker.post.masks k.masks right))) h

-- what was taken from the inbox at a place, in the worker's own words
record Changes (v w : WorkerView) (place left : ℕ) (ended : Bool) : Type 0 where
  pub share : w.last.share ≡ v.last.share
  pub marks : w.post.opening.marks ≡ v.post.opening.marks
  pub left_is : w.left ≡ set v.left place left
  pub ended_is : w.ended ≡ set v.ended place ended

-- the inbox after so many items were taken
abbrev taken_to : InboxView → ℕ → InboxView
taken_to i n = record i { taken = n }

module _ (v w : WorkerView) (inboxes : List InboxView) (place n : ℕ) (i : InboxView) (a : Agree v inboxes)
    (here : slice_get inboxes place ≡ Some i) where
  within : place < length inboxes
  within = slice_get_within inboxes place i here

  agree-changed : (left : ℕ) (ended : Bool) → Changes v w place left ended
      → left + requests_taken (taken_to i n) ≡ length i.plan → ended ≡ ltb (length i.plan) n
      → ((s : ℕ) → numbers_taken s w.taken ≡ numbers_given v.last.share (set inboxes place (taken_to i n)) s)
      → IsRising w.taken
      → HasSeen w
      → (w.notes ≡ false → w.adds ≡ [])
      → Agree w (set inboxes place (taken_to i n))
  agree-changed left ended c lefts ends numbers rising seen unnoted = record {
    is_worker = subst (λ (s : Share). s.worker < s.workers) (sym c.share) a.is_worker;
    lefts = ap (λ (xs : List ℕ). length xs) c.left_is ∙ length-set v.left place left ∙ a.lefts
        ∙ sym (length-set inboxes place (taken_to i n));
    places = ap (λ (xs : List Bool). length xs) c.ended_is ∙ length-set v.ended place ended ∙ a.places
        ∙ sym (length-set inboxes place (taken_to i n));
    each = λ q j e. elim (cases_eq q place) [
      | inl same ↦
          let it : taken_to i n ≡ j =
          same_Some _ _
          (sym (slice_get-set_same inboxes place (taken_to i n) within)
          ∙ ap (slice_get (set inboxes place (taken_to i n))) (sym same) ∙ e) in
          subst (λ x. AgreesAt w q x) it (subst (λ x. AgreesAt w x (taken_to i n)) (sym same) (record {
            left = ap (λ xs. get_or xs place 0 + requests_taken (taken_to i n)) c.left_is
                ∙ ap (λ x. x + requests_taken (taken_to i n))
                (get_or-set_same v.left place left 0 (omega (arith, within, a.lefts))) ∙ lefts;
            ended = ap (λ xs. get_or xs place true) c.ended_is
                ∙ get_or-set_same v.ended place ended true (omega (arith, within, a.places)) ∙ ends;
            there = subst (λ (marks : List Bool). All (λ (r : Request). IsThere (length marks) r.page) i.plan)
                (sym c.marks) (a.each place i here).there;
          }))
      | inr other ↦
          let g = a.each q j (sym (slice_get-set_other inboxes place q (taken_to i n) other) ∙ e) in
          record {
            left = ap (λ xs. get_or xs q 0 + requests_taken j) c.left_is
                ∙ ap (λ x. x + requests_taken j) (get_or-set_other v.left place q left 0 other) ∙ g.left;
            ended = ap (λ xs. get_or xs q true) c.ended_is ∙ get_or-set_other v.ended place q ended true other
                ∙ g.ended;
            there = subst (λ (marks : List Bool). All (λ (r : Request). IsThere (length marks) r.page) j.plan)
                (sym c.marks) g.there;
          }
    ];
    taken = λ s. numbers s ∙ ap (λ x. numbers_given x (set inboxes place (taken_to i n)) s) (sym c.share);
    rising = rising;
    above = seen.0;
    present = seen.1;
    unnoted = unnoted;
  }

-- what is given leaves the run as it is
pub share-given : (v w : WorkerView) (place : ℕ) (took : Taken)
    → v.pending ≡ Some place
    → HasTaken v took w
    → w.last.share ≡ v.last.share
share-given v w place (taken.Ask ask) trying has = (has place trying).share
share-given v w place taken.End trying has = (has place trying).share
share-given v w place taken.Nothing trying has = has.share

-- and whether the worker notes its additions
pub notes-given : (v w : WorkerView) (place : ℕ) (took : Taken)
    → v.pending ≡ Some place
    → HasTaken v took w
    → w.notes ≡ v.notes
notes-given v w place (taken.Ask ask) trying has = (has place trying).notes
notes-given v w place taken.End trying has = (has place trying).notes
notes-given v w place taken.Nothing trying has = has.notes

-- and the masks that were read
masks-given : (v w : WorkerView) (place : ℕ) (took : Taken)
    → v.pending ≡ Some place
    → HasTaken v took w
    → KeepsMasks v.post.masks w.post.masks
masks-given v w place (taken.Ask ask) trying has = (has place trying).masks
masks-given v w place taken.End trying has = (has place trying).masks
masks-given v w place taken.Nothing trying has = has.masks

-- a take leaves the plan as it is
pub plan-taken : (i j : InboxView) (took : Taken) → HandsOver i took j → j.plan ≡ i.plan
plan-taken i j (taken.Ask ask) t = ap (λ (x : InboxView). x.plan) t.2
plan-taken i j taken.End t = ap (λ (x : InboxView). x.plan) t.1
plan-taken i j taken.Nothing t = ap (λ (x : InboxView). x.plan) t.1

-- the request that the inbox hands over is asked by the plan
asked : (workload : Workload) (v : WorkerView) (inboxes : List InboxView) (place : ℕ) (i : InboxView) (ask : Numbered)
    → slice_get inboxes place ≡ Some i
    → slice_get i.plan i.taken ≡ Some ask.request
    → ask.number ≡ i.taken + 1
    → 1 ≤ v.last.share.workers
    → AreOwnPlans workload v.last.share.workers v.last.share.worker inboxes
    → request_at workload (submitter_at v place) ask.number ≡ Some ask.request
asked workload v inboxes place i ask here get number some h =
    let plan : slice_get workload.plans (submitter_at v place) ≡ Some i.plan =
    sym (plan-at workload v.last.share.workers v.last.share.worker inboxes place some h)
    ∙ slice_get-map (λ (x : InboxView). x.plan) inboxes place ∙ ap (option_map (λ (x : InboxView). x.plan)) here in
    request_at-plan workload (submitter_at v place) ask.number
    ∙ ap (λ o. option_and_then (λ p. nth p ask.number) o) plan
    ∙ ap (nth i.plan) (number ∙ add-one i.taken) ∙ get

module _ (v : WorkerView) (inboxes : List InboxView) (place : ℕ) (i j : InboxView) (a : Agree v inboxes)
    (trying : v.pending ≡ Some place)
    (here : slice_get inboxes place ≡ Some i) (open_yet : get_or v.ended place true ≡ false) where
  -- its end mark was not taken
  not_over : i.taken ≤ length i.plan
  not_over = ltb-false (length i.plan) i.taken (sym (a.each place i here).ended ∙ open_yet)

  -- so many requests were taken from it
  numbers-here : numbers_taken (submitter_at v place) v.taken ≡ range_with_len 1 i.taken
  numbers-here =
      a.taken (submitter_at v place) ∙ given-own v.last.share a.is_worker inboxes place i here
      ∙ ap (range_with_len 1) (omega (arith, not_over))

  -- what the inbox hands over may be given to the worker
  pub can-give : (took : Taken) → HandsOver i took j → CanGive v took
  can-give (taken.Ask ask) t = λ p e.
      let it : place ≡ p = same_Some _ _ (sym trying ∙ e) in
      let some : i.taken < length i.plan = slice_get_within i.plan i.taken ask.request t.0 in
      let left : get_or v.left place 0 + requests_taken i ≡ length i.plan = (a.each place i here).left in
      subst (λ q. IsNext v q ask) it (record {
        number = t.1 ∙ ap (λ n. n + 1) (sym (count-taken (submitter_at v place) v.taken i.taken numbers-here));
        some = omega (arith, some, left);
        there = subst (λ (r : Request). IsThere (pages_of v.post) r.page)
            (get_or_from_slice_get i.plan i.taken ask.request ask.request t.0)
            ((a.each place i here).there i.taken ask.request some);
      })
  can-give taken.End t = tt
  can-give taken.Nothing t = tt

  -- and is, and they agree again
  module _ (w : WorkerView) (looked : IsTrying v) (answer : Turn) where
    -- where the worker notes no additions, it noted none
    none-noted : (took : Taken) → Gives v took answer w → HasTaken v took w → w.notes ≡ false → w.adds ≡ []
    none-noted took gives has n =
        let was : v.notes ≡ false = sym (notes-given v w place took trying has) ∙ n in
        gives-adds v took answer w was gives ∙ a.unnoted was

    within_here : place < length inboxes
    within_here = slice_get_within inboxes place i here

    pub agree-give : (took : Taken) → HandsOver i took j → Gives v took answer w → HasTaken v took w
        → Agree w (set inboxes place j)
    agree-give (taken.Ask ask) t gives has =
        let k : TakesNothing (with_taken v place ask) w = has place trying in
        let seen : HasSeen w = gives-seen v (taken.Ask ask) answer w gives looked (a.above, a.present) in
        let some : i.taken < length i.plan = slice_get_within i.plan i.taken ask.request t.0 in
        let left : get_or v.left place 0 + requests_taken i ≡ length i.plan = (a.each place i here).left in
        let next : InboxView = record i { taken = i.taken + 1 } in
        let more : requests_taken next ≡ requests_taken i + 1 = omega (arith, some) in
        let one : Took = record { phase = phase_at v; submitter = submitter_at v place; number = ask.number } in
        subst (λ x. Agree w (set inboxes place x)) (sym t.2)
        (agree-changed v w inboxes place (i.taken + 1) i a here (get_or v.left place 0 - 1) false
        (record {
          share =
              k.share;
          marks =
              k.marks;
          left_is =
              k.left;
          ended_is = k.ended ∙ sym (set-get_or v.ended place true) ∙ ap (set v.ended place) open_yet;
        })
        (omega (arith, some, left)) (sym (le-ltb (length i.plan) (i.taken + 1) (omega (arith, some))))
        (λ s. ap (numbers_taken s) k.taken
        ∙ numbers-next v.last.share a.is_worker inboxes v.taken place i next within_here here a.taken one refl
        (t.1 ∙ omega (arith, not_over)) more s)
        (subst IsRising (sym k.taken) (taken-rising v place ask looked (a.above, a.present) a.rising)) seen
        (none-noted (taken.Ask ask) gives has))
    agree-give taken.End t gives has =
        let k : TakesNothing (record v { ended = set v.ended place true }) w = has place trying in
        let seen : HasSeen w = gives-seen v taken.End answer w gives looked (a.above, a.present) in
        let left : get_or v.left place 0 + requests_taken i ≡ length i.plan = (a.each place i here).left in
        let all : i.taken ≡ length i.plan = omega (arith, not_over, t.0) in
        let same : requests_taken (record i { taken = item_count i.plan }) ≡ requests_taken i = omega (arith, all) in
        subst (λ x. Agree w (set inboxes place x)) (sym t.1)
        (agree-changed v w inboxes place (item_count i.plan) i a here (get_or v.left place 0) true
        (record {
          share =
              k.share;
          marks = k.marks;
          left_is = k.left ∙ sym (set-get_or v.left place 0);
          ended_is = k.ended;
        })
        (omega (arith, left, all)) (sym (lt-ltb (length i.plan) (length i.plan + 1) (omega arith)))
        (λ s. ap (numbers_taken s) k.taken
        ∙ numbers-same v.last.share a.is_worker inboxes v.taken place i
        (record i { taken = item_count i.plan }) within_here here a.taken same s)
        (subst IsRising (sym k.taken) a.rising) seen (none-noted taken.End gives has))
    agree-give taken.Nothing t gives has =
        let k : TakesNothing v w = has in
        let seen : HasSeen w = gives-seen v taken.Nothing answer w gives looked (a.above, a.present) in
        let left : get_or v.left place 0 + requests_taken i ≡ length i.plan = (a.each place i here).left in
        subst (λ x. Agree w (set inboxes place x)) (sym t.1)
        (agree-changed v w inboxes place i.taken i a here (get_or v.left place 0) false
        (record {
          share =
              k.share;
          marks =
              k.marks;
          left_is =
              k.left ∙ sym (set-get_or v.left place 0);
          ended_is =
              k.ended ∙ sym (set-get_or v.ended place true) ∙ ap (set v.ended place) open_yet;
        })
        left (sym (le-ltb (length i.plan) i.taken not_over))
        (λ s. ap (numbers_taken s) k.taken
        ∙ numbers-same v.last.share a.is_worker inboxes v.taken place i i within_here here a.taken refl s)
        (subst IsRising (sym k.taken) a.rising) seen (none-noted taken.Nothing gives has))

  -- and the worker follows the plans on
  pub works-given : (workload : Workload) (w : WorkerView) (took : Taken) (board opened more : List ℕ) → HandsOver i took j
      → HasTaken v took w
      → (IsAskedBy workload v took → Follows workload v → Follows workload w)
      → WorksFor workload (record { board = board; worker = v; inboxes = inboxes; opened = opened })
      → WorksFor workload (record { board = board; worker = w; inboxes = set inboxes place j; opened = more })
  works-given workload w took board opened more t has follows h =
      let plans : plans_of (set inboxes place j) ≡ plans_of inboxes =
      map-set_same (λ (x : InboxView). x.plan) inboxes place j i
      (plan-taken i j took t
      ∙ ap (λ (x : InboxView). x.plan) (sym (get_or_from_slice_get inboxes place i i here))) in
      works-on workload _ _ (share-given v w place took trying has) plans
      (λ right. follows (asks took t)
      (h.follows (masks-before workload.hot v.post.masks w.post.masks
      (masks-given v w place took trying has) right))) h where
        asks : (x : Taken) → HandsOver i x j → IsAskedBy workload v x
        asks (taken.Ask ask) u = λ p e.
            subst (λ q. request_at workload (submitter_at v q) ask.number ≡ Some ask.request)
            (same_Some _ _ (sym trying ∙ e))
            (asked workload v inboxes place i ask here u.0 u.1 (omega (arith, a.is_worker)) h.plans)
        asks taken.End u = tt
        asks taken.Nothing u = tt

-- an answer that is no try leaves none pending
pub none-pending : (answer : Turn) (v : WorkerView)
    → Pends answer v
    → ((submitter : ℕ) → answer ≡ turn.Try submitter → ⊥)
    → v.pending ≡ None
none-pending turn.Ran v p other = p
none-pending turn.Stashed v p other = p
none-pending turn.TookEnd v p other = p
none-pending turn.Nothing v p other = p
none-pending turn.Acknowledged v p other = p
none-pending turn.Reported v p other = p
none-pending turn.Waiting v p other = p
none-pending turn.Idle v p other = p
none-pending turn.Retired v p other = p
none-pending (turn.Try submitter) v p other = absurd (other submitter refl)
