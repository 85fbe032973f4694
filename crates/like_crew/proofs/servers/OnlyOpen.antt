-- Turns that take only what is open.
use Rattle.std.proofs.Common.{◌≡◌, ℕ, zero, suc, ◌<◌, ◌≤◌, List, [], ◌∷◌, length, get_or, map, option_map, set, slice_get, Some, ap, ◌∙◌, subst, refl, arith}
use Rattle.std.proofs.lemmas.List.{map-set}
use Rattle.std.proofs.lemmas.Option.{get_or_from_slice_get, slice_get-map, slice_get_read}
use Rattle.like_queue.specs.Inbox.{InboxView}
use Rattle.like_roles.specs.worker.WorkerView.{WorkerView}
use Rattle.like_crew.specs.Server.{ServerView}
use Rattle.like_crew.specs.ServerTurns.{TakesOpen}

-- the same place of the same inboxes has not taken more
not-more : (inboxes : List InboxView) (place : ℕ) (i j : InboxView)
    → slice_get inboxes place ≡ Some i
    → slice_get inboxes place ≡ Some j
    → i.taken < j.taken
    → ⊥
not-more inboxes place i j at after more =
    let same : i ≡ j = cc (at, after) in
    omega (arith, ap (λ (k : InboxView). k.taken) same, more)

-- one inbox was exchanged, of which no more is taken than is open
one-taken : (open_at : ℕ → ℕ) (inboxes : List InboxView) (place : ℕ) (w : InboxView)
    → w.taken ≤ open_at place
    → (p : ℕ) (i j : InboxView)
    → slice_get inboxes p ≡ Some i
    → slice_get (set inboxes place w) p ≡ Some j
    → i.taken < j.taken
    → j.taken ≤ open_at p
one-taken open_at [] place w most p i j at after more = cc at
one-taken open_at (x ∷ xs) zero w most zero i j at after more =
    let same : w ≡ j = cc after in
    subst (λ (k : InboxView). k.taken ≤ open_at zero) same most
one-taken open_at (x ∷ xs) zero w most (suc p) i j at after more = absurd (not-more xs p i j at after more)
one-taken open_at (x ∷ xs) (suc place) w most zero i j at after more =
    absurd (not-more (x ∷ xs) zero i j at after more)
one-taken open_at (x ∷ xs) (suc place) w most (suc p) i j at after more =
    one-taken (λ n. open_at (suc n)) xs place w most p i j at after more

-- a turn that tries the submitter of one inbox
pub takes-open : {J : Type 0} (view : J → InboxView) (opened : J → ℕ) (s t : ServerView) (lists : List J) (place : ℕ)
    (i j : J)
    → s.inboxes ≡ map view lists
    → s.opened ≡ map opened lists
    → t.inboxes ≡ map view (set lists place j)
    → place < length lists
    → i ≡ get_or lists place i
    → (view j).taken ≤ opened i
    → TakesOpen s t
takes-open view opened s t lists place i j before open_before after within is most = λ p a b at later more.
    let open_now : get_or s.opened place 0 ≡ opened i =
    ap (λ ns. get_or ns place 0) open_before
    ∙ get_or_from_slice_get (map opened lists) place (opened i) 0
    (slice_get-map opened lists place
    ∙ ap (option_map opened) (slice_get_read lists (length lists) place i refl within is)) in
    one-taken (λ n. get_or s.opened n 0) (map view lists) place (view j) (omega (arith, most, open_now)) p a b
    (subst (λ xs. slice_get xs p ≡ Some a) before at)
    (subst (λ xs. slice_get xs p ≡ Some b) (after ∙ map-set view lists place j) later) more

-- and one that tries none
pub takes-none : (s : ServerView) (v : WorkerView) → TakesOpen s (record s { worker = v })
takes-none s v = λ place i j at after more. absurd (not-more s.inboxes place i j at after more)
