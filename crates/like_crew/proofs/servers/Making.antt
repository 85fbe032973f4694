-- How the servers of a run are made, one after the other.
use Rattle.std.proofs.Common.{◌≡◌, ◌<◌, ◌≤◌, ◌+◌, [], ◌∷◌, ℕ, suc, Fits, w32, List, Vec, Global, length, map, drop, get_or, remove, replicate, refl, sym, ap, ◌∙◌, subst, add-one, arith}
use Rattle.std.specs.List.{All, AllZip}
use Rattle.std.proofs.lemmas.List.{length-drop}
use Rattle.like_limits.specs.Limits.{max_workers}
use Rattle.like_requests.proofs.Planned.{plans-within}
use Rattle.like_requests.specs.Setup.{IsWithinLimits}
use Rattle.like_requests.specs.declared.setup.Setup.{Setup}
use Rattle.like_core.specs.declared.view.WorkerSeatView.{WorkerSeatView}
use Rattle.like_queue.specs.Inbox.{InboxView}
use Rattle.like_tables.specs.Share.{dealt, share_of}
use Rattle.like_tables.specs.UserTable.{UserTable}
use Rattle.like_tables.proofs.Dealt.{map-dealt}
use Rattle.like_promises.specs.Workload.{Workload, workload_of}
use Rattle.like_roles.specs.declared.terms.Terms.{Terms}
use Rattle.like_roles.specs.worker.Follows.{IsWorkloadOf}
use Rattle.like_roles.specs.worker.New.{IsNew, IsPostOf}
use Rattle.like_crew.specs.Servers.{IsNewServer, IsServer}
use Rattle.like_crew.specs.Server.{AreInboxesFor, AreOwnPlans, AreUntouched, ServerView, WorksFor, plans_of, untouched}
use Rattle.like_crew.proofs.Makings.{all-dealt, hand-at, inboxes-for, is-server, remove-drop}

-- what is in a hand
abbrev pub held : {A : Type 0} → Vec A Global → List A
held hand = hand.items

-- the next hand has what is dealt to its worker
pub hand-is : {A : Type 0} (view : A → InboxView) (hands left : List (Vec A Global)) (k workers : ℕ) (hand : Vec A Global)
    (items : List A)
    → ((worker : ℕ) → worker < workers → get_or (map held hands) worker [] ≡ dealt workers worker items)
    → length hands ≡ workers
    → k < workers
    → left ≡ drop k hands → hand ≡ get_or left 0 hand → map view (held hand) ≡ dealt workers k (map view items)
hand-is view hands left k workers hand items own sized below rest first =
    ap (map view) (hand-at held hands left k workers hand items own sized below rest first)
    ∙ map-dealt view workers k items

-- and the others are left
pub others : {A : Type 0} (hands left rest : List A) (k next : ℕ)
    → left ≡ drop k hands
    → rest ≡ remove left 0
    → next ≡ k + 1
    → rest ≡ drop next hands
others hands left rest k next before taken more =
    taken ∙ ap (λ xs. remove xs 0) before ∙ remove-drop k hands ∙ ap (λ n. drop n hands) (sym (add-one k) ∙ sym more)

-- untouched inboxes for a worker, where the number of its server is that of its seat
pub inboxes-at : (setup : Setup) (sizes : List ℕ) (number k : ℕ) (inboxes own : List InboxView)
    → number ≡ k
    → IsWithinLimits setup (plans_of inboxes)
    → sizes ≡ map length (plans_of inboxes)
    → AreUntouched inboxes → own ≡ dealt setup.workers k inboxes → AreInboxesFor setup sizes number own
inboxes-at setup sizes number k inboxes own same within sized none is =
    subst (λ n. AreInboxesFor setup sizes n own) (sym same)
    (inboxes-for setup sizes k inboxes own within.0.0 sized none
    (plans-within setup (plans_of inboxes) within) is)

-- its server, at the post of a new seat
pub server-at : (setup : Setup) (terms : Terms) (number k : ℕ) (inboxes own : List InboxView) (post : WorkerSeatView)
    (board : List ℕ) (s : ServerView)
    → number ≡ k
    → terms.sizes.now ≡ map length (plans_of inboxes)
    → own ≡ dealt setup.workers k inboxes
    → IsPostOf k setup.pages post
    → s.board ≡ board
    → IsNew setup terms number post s.worker
    → ((workload : Workload) → IsWorkloadOf setup terms.sizes.now workload
    → AreOwnPlans workload setup.workers number own → WorksFor workload s)
    → IsServer (workload_of setup (plans_of inboxes)) setup.workers board terms.notes k s
server-at setup terms number k inboxes own post board s same sized is fresh here new works =
    is-server setup terms.sizes.now k inboxes own post board terms.notes s sized is fresh here
    (ap (λ (t : UserTable). t.share) new.last
    ∙ ap (λ n. share_of setup.users (length terms.sizes.now) setup.workers n) same) new.at_post new.notes_are
    (λ workload of mine. works workload of (subst (λ n. AreOwnPlans workload setup.workers n own) (sym same) mine))

-- inboxes from which nothing was taken are those of their plans
as-untouched : (inboxes : List InboxView) → AreUntouched inboxes → inboxes ≡ map untouched (plans_of inboxes)
as-untouched [] none = refl
as-untouched (i ∷ inboxes) none =
    let first : i ≡ untouched i.plan = λ m. record i { taken = none 0 i (omega arith) m } in
    ap (λ x. x ∷ inboxes) first
    ∙ ap (λ xs. untouched i.plan ∷ xs) (as-untouched inboxes (λ k d there. none (suc k) d (omega (arith, there))))

-- of closed inboxes nothing is open
all-closed : {A B : Type 0} (opened : A → ℕ) (view : A → B) (inboxes : List A) → All (λ i. opened i ≡ 0) inboxes
    → map opened inboxes ≡ replicate (length (map view inboxes)) 0
all-closed opened view [] none = refl
all-closed opened view (i ∷ inboxes) none =
    let first : opened i ≡ 0 = none 0 i (omega arith) in
    ap (λ n. n ∷ map opened inboxes) first
    ∙ ap (λ ns. 0 ∷ ns) (all-closed opened view inboxes (λ k d there. none (suc k) d (omega (arith, there))))

-- nothing of a hand is open where nothing of all inboxes is
pub hand-closed : {A : Type 0} (opened : A → ℕ) (view : A → InboxView) (hands left : List (Vec A Global)) (k workers : ℕ)
    (hand : Vec A Global) (items : List A)
    → ((worker : ℕ) → worker < workers → get_or (map held hands) worker [] ≡ dealt workers worker items)
    → length hands ≡ workers
    → k < workers
    → left ≡ drop k hands
    → hand ≡ get_or left 0 hand
    → All (λ i. opened i ≡ 0) items → map opened (held hand) ≡ replicate (length (map view (held hand))) 0
hand-closed opened view hands left k workers hand items own sized below rest first none =
    all-closed opened view (held hand)
    (subst (All (λ i. opened i ≡ 0)) (sym (hand-at held hands left k workers hand items own sized below rest first))
    (all-dealt (λ i. opened i ≡ 0) workers k items (omega (arith, below)) none))

-- a server with a new worker and closed inboxes is new
pub new-server : (setup : Setup) (terms : Terms) (number k : ℕ) (inboxes own : List InboxView) (post : WorkerSeatView)
    (s : ServerView)
    → number ≡ k
    → AreUntouched inboxes
    → own ≡ dealt setup.workers k inboxes
    → IsPostOf k setup.pages post
    → IsNew setup terms number post s.worker
    → s.inboxes ≡ own → s.opened ≡ replicate (length own) 0 → IsNewServer setup (plans_of inboxes) terms k s
new-server setup terms number k inboxes own post s same none is fresh new inboxes_are closed = record {
  post = subst (IsPostOf k setup.pages) (sym new.at_post) fresh;
  new = subst (λ p. IsNew setup terms k p s.worker) (sym new.at_post)
      (subst (λ n. IsNew setup terms n post s.worker) same new);
  inboxes = inboxes_are ∙ is ∙ ap (dealt setup.workers k) (as-untouched inboxes none)
      ∙ sym (map-dealt untouched setup.workers k (plans_of inboxes));
  closed = closed ∙ ap (λ (xs : List InboxView). replicate (length xs) 0) (sym inboxes_are);
}

-- no server was made yet
pub none-made : (R : ℕ → ServerView → Type 0) (servers : List ServerView) → servers ≡ [] → AllZip R [] servers
none-made R [] is = tt
none-made R (s ∷ more) is = absurd (cc is)

-- the number of a worker is small
pub fits-worker : (number k workers : ℕ) → number ≡ k → k < workers → workers ≤ max_workers → Fits w32 number
fits-worker number k workers same below few = omega arith

-- a worker whose turn it is has a hand
pub hand-left : {A : Type 0} (hands left : List A) (k workers : ℕ) → left ≡ drop k hands → length hands ≡ workers → k < workers
    → 0 < length left
hand-left hands left k workers rest sized below = omega (arith, ap length rest, length-drop k hands)
