-- What a worker and its inboxes leave when the worker is gone, and how they begin.
use Rattle.std.proofs.Common.{◌≡◌, ℕ, ◌+◌, ◌*◌, ◌<◌, Bool, true, false, cond, List, [], length, map, get_or, slice_get, Option, Some, None, refl, sym, ap, ◌∙◌, subst, arith, inl, inr, option_map, IfSome}
use Rattle.std.specs.List.{All, range_with_len}
use Rattle.std.specs.Option.{option_map_or, unwrap_or}
use Rattle.std.proofs.lemmas.Bool.{cases_Bool, le-ltb, ltb-true}
use Rattle.std.proofs.lemmas.List.{get_or-replicate, length-map, length-replicate}
use Rattle.std.proofs.lemmas.Option.{slice_get-map, slice_get_within, get_or_from_slice_get, unwrap_or-slice_get}
use Rattle.like_requests.specs.Pages.{Page, marks_of}
use Rattle.like_requests.specs.Setup.{IsPlan, IsThere}
use Rattle.like_requests.specs.declared.request.Request.{Request}
use Rattle.like_requests.specs.declared.setup.Setup.{Setup}
use Rattle.like_core.specs.declared.view.WorkerSeatView.{WorkerSeatView}
use Rattle.like_core.specs.PageSteps.{earliest_first}
use Rattle.like_core.specs.Post.{additions_in, additions_of}
use Rattle.like_tables.specs.UserTable.{UserTable}
use Rattle.like_tables.specs.Share.{share_of, Share, rank_of, serves}
use Rattle.like_promises.specs.declared.log.Ran.{Ran}
use Rattle.like_promises.specs.declared.log.Took.{Took}
use Rattle.like_promises.specs.Likes.{likes_among, likes_within}
use Rattle.like_serial.specs.StepsTold.{plain_told, steps_ran}
use Rattle.like_roles.specs.declared.terms.Terms.{Terms}
use Rattle.like_roles.specs.worker.New.{IsNew, IsPostOf}
use Rattle.like_queue.specs.Inbox.{InboxView}
use Rattle.like_promises.specs.declared.log.WorkerLog.{WorkerLog}
use Rattle.like_roles.specs.worker.Follows.{AreNoted, IsDone}
use Rattle.like_promises.specs.Workload.{Workload}
use Rattle.like_roles.specs.worker.WorkerView.{WorkerView, phase_at}
use Rattle.like_promises.specs.Log.{IsLog, TakesPlans, numbers_taken}
use Rattle.like_crew.specs.Server.{NoneAbove, Agree, AreInboxesFor, IsLogOf, ReadMasksOf, WorksFor, ServerView, plans_of, requests_taken}
use Rattle.like_crew.proofs.servers.Shares.{plan-at}
use Rattle.like_crew.proofs.servers.Numbers.{own-place}
use Rattle.like_crew.proofs.Counted.{plan_of}

-- the whole plan of a submitter was taken
whole-plan : (workload : Workload) (s : ServerView) (submitter : ℕ)
    → Agree s.worker s.inboxes
    → WorksFor workload s
    → IsDone workload s.worker
    → serves s.worker.last.share submitter ≡ true
    → option_map_or requests_taken (slice_get s.inboxes (rank_of s.worker.last.share.workers submitter)) 0
    ≡ length (plan_of workload submitter)
whole-plan workload s submitter a h done mine =
    let share : Share = s.worker.last.share in
    let place : ℕ = rank_of share.workers submitter in
    let it : submitter ≡ share.worker + share.workers * place = own-place share a.is_worker submitter mine in
    let plan : slice_get workload.plans submitter ≡ option_map (λ (i : InboxView). i.plan) (slice_get s.inboxes place) =
    ap (slice_get workload.plans) it
    ∙ sym (plan-at workload share.workers share.worker s.inboxes place (omega (arith, a.is_worker)) h.plans)
    ∙ slice_get-map (λ (i : InboxView). i.plan) s.inboxes place in
    by_inbox (slice_get s.inboxes place) refl plan where
      by_inbox : (o : Option InboxView) → slice_get s.inboxes (rank_of s.worker.last.share.workers submitter) ≡ o
          → slice_get workload.plans submitter ≡ option_map (λ (i : InboxView). i.plan) o
          → option_map_or requests_taken o 0 ≡ length (plan_of workload submitter)
      by_inbox None e p =
          ap (λ (xs : List Request). length xs)
          (ap (λ o. unwrap_or o []) (sym p) ∙ unwrap_or-slice_get workload.plans submitter [])
      by_inbox (Some i) e p =
          let place : ℕ = rank_of s.worker.last.share.workers submitter in
          let within : place < length s.inboxes = slice_get_within s.inboxes place i e in
          let over : length i.plan < i.taken =
          ltb-true (length i.plan) i.taken
          (sym (a.each place i e).ended ∙ done.ended place (omega (arith, within, a.places))) in
          let all : requests_taken i ≡ length i.plan = omega (arith, over) in
          all ∙ ap (λ (xs : List Request). length xs) (sym (get_or_from_slice_get workload.plans submitter i.plan [] p))

pub takes-plans : (workload : Workload) (s : ServerView)
    → Agree s.worker s.inboxes
    → WorksFor workload s
    → IsDone workload s.worker
    → TakesPlans workload s.worker.last.share.workers s.worker.last.share.worker s.worker.taken
takes-plans workload s a h done submitter =
    let share : Share = s.worker.last.share in
    let given : ℕ = option_map_or requests_taken (slice_get s.inboxes (rank_of share.workers submitter)) 0 in
    a.taken submitter ∙ elim (cases_Bool (serves share submitter)) [
      | inl mine ↦ ap (λ n. cond (serves share submitter) (range_with_len 1 n) [])
          (whole-plan workload s submitter a h done mine)
      | inr other ↦ ap (λ b. cond b (range_with_len 1 given) []) other
          ∙ sym (ap (λ b. cond b (range_with_len 1 (length (plan_of workload submitter))) []) other)
    ]

-- a server's log is right for a workload: it is a log of the workload; its likes are the additions of the server's post,
-- in all and phase by phase; the plain steps of its entries are the post's; and the additions are noted if they are to be
pub record IsLogFor (workload : Workload) (s : ServerView) (log : WorkerLog) : Type 0 where
  pub is_log : IsLog workload s.worker.last.share.workers s.worker.last.share.worker log
  pub likes : (page : ℕ) → likes_among workload page log.ran.items ≡ additions_of s.worker.post page
  pub by_phase : (phase page : ℕ)
      → likes_within workload page log.ran.items phase ≡ additions_in s.worker.post phase page
  pub steps : plain_told workload (earliest_first s.worker.post.did) ≡ steps_ran workload log.ran.items
  pub noted : s.worker.notes ≡ true → AreNoted workload s.worker

pub log-for : (workload : Workload) (s : ServerView) (log : WorkerLog)
    → WorksFor workload s
    → ReadMasksOf workload s
    → IsLogOf s log
    → IsLogFor workload s log
log-for workload s log works masks of_log =
    let did = of_log.each workload works masks in
    let done = did.1 in
    record {
      is_log = record {
        taken = rw of_log.taken did.0;
        rising = of_log.rising;
        ran = rw (of_log.taken, of_log.ran) done.in_order;
        stashed = rw of_log.taken done.fits;
        answers = rw of_log.ran done.replies;
        last = rw (of_log.ran, of_log.last) done.last;
      };
      likes = λ page. ap (likes_among workload page) of_log.ran ∙ done.likes page;
      by_phase = λ phase page.
          ap (λ (ran : List Ran). likes_within workload page ran phase) of_log.ran ∙ done.by_phase phase page;
      steps = done.steps ∙ ap (steps_ran workload) (sym of_log.ran);
      noted = done.noted;
    }

-- an untouched inbox has handed over nothing
nothing-given : (s : Setup) (inboxes : List InboxView)
    → All (λ i. i.taken ≡ 0) inboxes
    → (place : ℕ)
    → option_map_or requests_taken (slice_get inboxes place) 0 ≡ 0
nothing-given s inboxes untouched place = by_inbox (slice_get inboxes place) refl where
  by_inbox : (o : Option InboxView) → slice_get inboxes place ≡ o → option_map_or requests_taken o 0 ≡ 0
  by_inbox None e = refl
  by_inbox (Some i) e =
      let none : i.taken ≡ 0 =
      subst (λ (x : InboxView). x.taken ≡ 0) (get_or_from_slice_get inboxes place i i e)
      (untouched place i (slice_get_within inboxes place i e)) in
      omega (arith, none)

-- a page that is there is below the number of marks
there-too : (pages : List Page) (marks : List Bool)
    → marks ≡ marks_of pages
    → (r : Request)
    → IsThere (length pages) r.page
    → IsThere (length marks) r.page
there-too pages marks e r =
    subst (λ many. IsThere many r.page)
    (sym (ap (λ (xs : List Bool). length xs) e ∙ length-map pages (λ (p : Page). p.split)))

-- a worker that has done nothing yet agrees with untouched inboxes
pub agree-new : (s : Setup) (terms : Terms) (number : ℕ) (post : WorkerSeatView) (v : WorkerView)
    (inboxes : List InboxView)
    → number < s.workers
    → IsPostOf number s.pages post
    → AreInboxesFor s terms.sizes.now number inboxes
    → IsNew s terms number post v → Agree v inboxes
agree-new s terms number post v inboxes is_worker fresh i new =
    let share : v.last.share ≡ share_of s.users (length terms.sizes.now) s.workers number =
    ap (λ (x : UserTable). x.share) new.last in
    let marks : v.post.opening.marks ≡ marks_of s.pages = ap (λ (x : WorkerSeatView). x.opening.marks) new.at_post ∙ fresh.opening.marks in
    let sizes_are : v.left ≡ map length (plans_of inboxes) = new.left ∙ sym i.sized in
    let lefts : length v.left ≡ length inboxes =
    ap (λ (xs : List ℕ). length xs) sizes_are ∙ length-map (plans_of inboxes) length
    ∙ length-map inboxes (λ (x : InboxView). x.plan) in
    let places : length v.ended ≡ length inboxes =
    ap (λ (xs : List Bool). length xs) new.ended ∙ length-replicate (length v.left) false ∙ lefts in
    record {
      is_worker = rw share is_worker;
      lefts = lefts;
      places = places;
      each = λ place j e.
          let within : place < length inboxes = slice_get_within inboxes place j e in
          let none : j.taken ≡ 0 =
          subst (λ (x : InboxView). x.taken ≡ 0) (get_or_from_slice_get inboxes place j j e)
          (i.untouched place j within) in
          let plan : IsPlan s.pages j.plan =
          subst (λ (x : InboxView). IsPlan s.pages x.plan) (get_or_from_slice_get inboxes place j j e)
          (i.plans place j within) in
          let left : get_or v.left place 0 ≡ length j.plan =
          get_or_from_slice_get v.left place (length j.plan) 0
          (ap (λ (xs : List ℕ). slice_get xs place) sizes_are ∙ slice_get-map length (plans_of inboxes) place
          ∙ ap (option_map length)
          (slice_get-map (λ (x : InboxView). x.plan) inboxes place
          ∙ ap (option_map (λ (x : InboxView). x.plan)) e)) in
          record {
            left = omega (arith, left, none);
            ended = ap (λ xs. get_or xs place true) new.ended
                ∙ get_or-replicate (length v.left) place false true (omega (arith, within, lefts))
                ∙ sym (le-ltb (length j.plan) j.taken (omega (arith, none)));
            there = λ k d h. there-too s.pages v.post.opening.marks marks (get_or j.plan k d) (plan.there k d h);
          };
      taken = λ submitter. ap (numbers_taken submitter) new.taken
          ∙ sym (by_test s inboxes i.untouched v.last.share submitter (serves v.last.share submitter));
      rising = λ a b d before within. absurd (omega (arith, within, ap (λ (xs : List Took). length xs) new.taken));
      above = subst (λ l. NoneAbove l v.taken)
          (sym (ap (λ (x : WorkerSeatView). x.last) new.at_post ∙ ap (λ (x : WorkerSeatView). x.last) fresh.fresh)) new.taken;
      unnoted = λ _. new.adds;
      present = λ _. subst (λ l. IfSome l (λ sight. sight.number ≡ phase_at v))
          (sym (ap (λ (x : WorkerSeatView). x.last) new.at_post ∙ ap (λ (x : WorkerSeatView). x.last) fresh.fresh)) tt;
    } where
      by_test : (s : Setup) (inboxes : List InboxView) → All (λ i. i.taken ≡ 0) inboxes
          → (share : Share) (submitter : ℕ) (b : Bool)
          → cond b (range_with_len 1
          (option_map_or requests_taken (slice_get inboxes (rank_of share.workers submitter)) 0)) [] ≡ []
      by_test s inboxes untouched share submitter true =
          ap (range_with_len 1) (nothing-given s inboxes untouched (rank_of share.workers submitter))
      by_test s inboxes untouched share submitter false = refl
