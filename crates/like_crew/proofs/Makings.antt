-- The servers of a replay as they are made.
use Rattle.std.proofs.Common.{◌≡◌, ℕ, zero, suc, ◌+◌, ◌*◌, ◌<◌, ◌≤◌, Bool, List, Vec, Global, [], ◌∷◌, ◌++◌, length, map, drop, get_or, remove, slice_get, Some, option_map, refl, sym, ap, ◌∙◌, subst, arith}
use Rattle.std.specs.List.{All, AllZip, range_with_len}
use Rattle.std.specs.Option.{unwrap_or}
use Rattle.std.proofs.lemmas.List.{get_or-drop, length-map, length_push, map-id}
use Rattle.std.proofs.lemmas.List.FromFn.{map-range_with_len_more}
use Rattle.std.proofs.lemmas.Option.{get_or_from_slice_get, slice_get-get_or, slice_get-map, slice_get_read, unwrap_or-slice_get}
use Rattle.like_limits.specs.Limits.{max_requests}
use Rattle.like_requests.proofs.Planned.{plans-within}
use Rattle.like_requests.specs.Setup.{IsPlan, IsWithinLimits}
use Rattle.like_requests.specs.declared.request.Request.{Request}
use Rattle.like_requests.specs.declared.setup.Setup.{Setup}
use Rattle.like_core.specs.declared.view.WorkerSeatView.{WorkerSeatView}
use Rattle.like_queue.specs.Inbox.{InboxView}
use Rattle.like_tables.specs.Share.{dealt, share_of}
use Rattle.like_roles.specs.worker.Follows.{IsWorkloadOf}
use Rattle.like_roles.specs.worker.New.{IsPostOf}
use Rattle.like_promises.specs.Workload.{Workload, lists_of, workload_of}
use Rattle.like_crew.specs.Servers.{IsServer}
use Rattle.like_crew.specs.Server.{AreInboxesFor, AreOwnPlans, AreUntouched, WorksFor, ServerView, plans_of, untouched}
use Rattle.like_tables.proofs.Dealt.{get-dealt, map-dealt, there-dealt}
use Rattle.like_promises.proofs.Lists.{AllZip-more}
use Rattle.like_crew.proofs.servers.Shares.{plans-untouched}

-- f and then g
pub map-twice : {A B C : Type 0} (f : A → B) (g : B → C) (xs : List A) → map (λ x. g (f x)) xs ≡ map g (map f xs)
map-twice f g [] = refl
map-twice f g (x ∷ xs) = ap (λ ys. g (f x) ∷ ys) (map-twice f g xs)

-- a fact of what f gives of each
pub all-map : {A B : Type 0} (f : A → B) (P : B → Type 0) (xs : List A) → All (λ x. P (f x)) xs → All P (map f xs)
all-map f P [] all k d h = absurd (omega (arith, h))
all-map f P (x ∷ xs) all zero d h = all zero x (omega arith)
all-map f P (x ∷ xs) all (suc k) d h = all-map f P xs (λ j e i. all (suc j) e (omega (arith, i))) k d (omega (arith, h))

-- and of each itself
pub all-back : {A B : Type 0} (f : A → B) (P : B → Type 0) (xs : List A) → All P (map f xs) → All (λ x. P (f x)) xs
all-back f P [] all k d h = absurd (omega (arith, h))
all-back f P (x ∷ xs) all zero d h = all zero (f x) (omega arith)
all-back f P (x ∷ xs) all (suc k) d h =
    all-back f P xs (λ j e i. all (suc j) e (omega (arith, i))) k d (omega (arith, h))

-- a fact of all that are dealt holds of those that one is dealt
pub all-dealt : {A : Type 0} (P : A → Type 0) (n k : ℕ) (xs : List A) → 1 ≤ n → All P xs → All P (dealt n k xs)
all-dealt P n k xs some all place d h =
    let there : k + n * place < length xs = (there-dealt n k xs place some).0 h in
    let same : slice_get (dealt n k xs) place ≡ Some (get_or xs (k + n * place) d) =
    get-dealt n k xs place some ∙ slice_get-get_or xs (k + n * place) d there in
    subst P (sym (get_or_from_slice_get (dealt n k xs) place (get_or xs (k + n * place) d) d same))
    (all (k + n * place) d there)

-- what was dealt has the plans
pub own-plans : (setup : Setup) (worker : ℕ) (inboxes own : List InboxView) → own ≡ dealt setup.workers worker inboxes
    → AreOwnPlans (workload_of setup (plans_of inboxes)) setup.workers worker own
own-plans setup worker inboxes own is =
    ap plans_of is ∙ map-dealt (λ (i : InboxView). i.plan) setup.workers worker inboxes

pub inboxes-for : (setup : Setup) (sizes : List ℕ) (worker : ℕ) (inboxes own : List InboxView)
    → 1 ≤ setup.workers
    → sizes ≡ map length (plans_of inboxes)
    → AreUntouched inboxes
    → All (IsPlan setup.pages) (plans_of inboxes)
    → own ≡ dealt setup.workers worker inboxes
    → AreInboxesFor setup sizes worker own
inboxes-for setup sizes worker inboxes own some sized none good is = record {
  sized = ap (map length) (own-plans setup worker inboxes own is)
      ∙ map-dealt length setup.workers worker (plans_of inboxes) ∙ ap (dealt setup.workers worker) (sym sized);
  untouched = subst AreUntouched (sym is) (all-dealt (λ i. i.taken ≡ 0) setup.workers worker inboxes some none);
  plans = subst (All (λ i. IsPlan setup.pages i.plan)) (sym is)
      (all-dealt (λ i. IsPlan setup.pages i.plan) setup.workers worker inboxes some
      (all-back (λ (i : InboxView). i.plan) (IsPlan setup.pages) inboxes good));
}

-- a server that was made for a worker
pub is-server : (setup : Setup) (sizes : List ℕ) (worker : ℕ) (inboxes own : List InboxView) (post : WorkerSeatView)
    (board : List ℕ) (notes : Bool) (s : ServerView)
    → sizes ≡ map length (plans_of inboxes)
    → own ≡ dealt setup.workers worker inboxes
    → IsPostOf worker setup.pages post
    → s.board ≡ board
    → s.worker.last.share ≡ share_of setup.users (length sizes) setup.workers worker
    → s.worker.post ≡ post → s.worker.notes ≡ notes
    → ((workload : Workload) → IsWorkloadOf setup sizes workload → AreOwnPlans workload setup.workers worker own
    → WorksFor workload s)
    → IsServer (workload_of setup (plans_of inboxes)) setup.workers board notes worker s
is-server setup sizes worker inboxes own post board notes s sized is fresh here share at noting works = record {
  share = share
      ∙ ap (λ n. share_of setup.users n setup.workers worker)
      (ap (λ (xs : List ℕ). length xs) sized ∙ length-map (plans_of inboxes) length);
  whose = ap (λ (p : WorkerSeatView). p.worker) at ∙ fresh.is_his;
  board_is = here;
  notes_are = noting;
  works = λ hot. works (record (workload_of setup (plans_of inboxes)) { hot = hot })
      (record { users_are = refl; pages_are = refl; stash_is = refl; sizes_are = sym sized })
      (own-plans setup worker inboxes own is);
}

-- one server more
one-more : (R : ℕ → ServerView → Type 0) (n : ℕ) (servers : List ServerView) (s : ServerView)
    → AllZip R (range_with_len 0 n) servers
    → R n s
    → AllZip R (range_with_len 0 (n + 1)) (servers ++ s ∷ [])
one-more R n servers s all h =
    subst (λ ns. AllZip R ns (servers ++ s ∷ []))
    (sym (sym (map-id _) ∙ map-range_with_len_more (λ (x : ℕ). x) 0 n n (omega arith)
    ∙ ap (λ xs. xs ++ n ∷ []) (map-id _)))
    (AllZip-more R (range_with_len 0 n) servers n s all h)

pub one-pushed : (R : ℕ → ServerView → Type 0) (n m : ℕ) (servers now : List ServerView) (s : ServerView)
    → now ≡ servers ++ s ∷ []
    → length servers ≡ n
    → m ≡ n + 1
    → AllZip R (range_with_len 0 n) servers
    → R n s → (length now ≡ m) × AllZip R (range_with_len 0 m) now
one-pushed R n m servers now s pushed len longer all h = (
  ap (λ (xs : List ServerView). length xs) pushed ∙ length_push servers s ∙ ap (λ k. k + 1) len ∙ sym longer,
  subst (AllZip R (range_with_len 0 m)) (sym pushed)
      (subst (λ k. AllZip R (range_with_len 0 k) (servers ++ s ∷ [])) (sym longer) (one-more R n servers s all h)),
)

-- the first of what is left was taken
pub remove-drop : {A : Type 0} (k : ℕ) (xs : List A) → remove (drop k xs) 0 ≡ drop (suc k) xs
remove-drop zero [] = refl
remove-drop zero (x ∷ xs) = refl
remove-drop (suc k) [] = refl
remove-drop (suc k) (x ∷ xs) = remove-drop k xs

-- the hand of the next worker
pub hand-at : {A H : Type 0} (held : H → List A) (hands left : List H) (k workers : ℕ) (hand : H) (items : List A)
    → ((worker : ℕ) → worker < workers → get_or (map held hands) worker [] ≡ dealt workers worker items)
    → length hands ≡ workers
    → k < workers
    → left ≡ drop k hands → hand ≡ get_or left 0 hand → held hand ≡ dealt workers k items
hand-at held hands left k workers hand items own sized below rest first =
    let is : hand ≡ get_or hands k hand =
    first ∙ ap (λ xs. get_or xs 0 hand) rest ∙ get_or-drop k hands 0 hand
    ∙ ap (λ n. get_or hands n hand) (omega arith) in
    let at : slice_get hands k ≡ Some hand =
    slice_get_read hands (length hands) k hand refl (omega (arith, below, sized)) is in
    let found : get_or (map held hands) k [] ≡ held hand =
    sym (unwrap_or-slice_get (map held hands) k [])
    ∙ ap (λ o. unwrap_or o []) (slice_get-map held hands k ∙ ap (option_map held) at) in
    sym found ∙ own k below

-- from no untouched inbox anything was taken
all-untouched : (plans : List (List Request)) → AreUntouched (map untouched plans)
all-untouched plans = all-map untouched (λ i. i.taken ≡ 0) plans (λ _ _ _. refl)

-- untouched inboxes of these plans
pub plans-are : (inboxes : List InboxView) (plans : List (List Request))
    → inboxes ≡ map untouched plans
    → plans_of inboxes ≡ plans
plans-are inboxes plans are = ap plans_of are ∙ plans-untouched plans

pub are-untouched : (inboxes : List InboxView) (plans : List (List Request))
    → inboxes ≡ map untouched plans
    → AreUntouched inboxes
are-untouched inboxes plans are = subst AreUntouched (sym are) (all-untouched plans)

-- plans within the limits are within that of a list
pub all-small : (setup : Setup) (plans : List (Vec Request Global))
    → IsWithinLimits setup (lists_of plans)
    → All (λ plan. length plan.items ≤ max_requests) plans
all-small setup plans within =
    all-back (λ (plan : Vec Request Global). plan.items) (λ plan. length plan ≤ max_requests) plans
    (λ k d h. (plans-within setup (lists_of plans) within k d h).few)
