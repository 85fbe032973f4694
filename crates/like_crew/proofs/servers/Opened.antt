-- Lists of which more is open.
use Rattle.std.proofs.Common.{◌≡◌, ℕ, ◌+◌, ◌/◌, ◌<◌, ◌≤◌, min, List, length, get_or, map, option_map, set, slice_get, Some, refl, sym, ap, ◌∙◌, subst, arith, inl, inr}
use Rattle.std.proofs.Math.Seq.{map-set_same}
use Rattle.std.proofs.lemmas.Bool.{cases_eq}
use Rattle.std.proofs.lemmas.List.{length-map, map-set}
use Rattle.std.proofs.lemmas.Option.{get_or_from_slice_get, same_Some, slice_get-map, slice_get_read, slice_get_within}
use Rattle.like_queue.specs.Inbox.{Inbox, InboxView, item_count, view_of}
use Rattle.like_roles.specs.worker.WorkerView.{WorkerView}
use Rattle.like_crew.specs.Server.{ServerGoesOn, ServerView}
use Rattle.like_crew.specs.ServerTurns.{OpensAll, OpensOne}
use Rattle.like_crew.proofs.lists.Mapped.{mapped-at}
use Rattle.like_crew.proofs.lists.Stepped.{slice_get-set_other, slice_get-set_same}

-- how many items are open
abbrev pub opened_of : Inbox → ℕ
opened_of i = i.opened

-- a worker with these lists
abbrev pub server : List ℕ → WorkerView → List Inbox → ServerView
server board w lists = record {
  board = board;
  worker = w;
  inboxes = map view_of lists;
  opened = map opened_of lists;
}

-- a server of whose lists more is open goes on
goes-opened : (s : ServerView) (opened : List ℕ) → ServerGoesOn s (record s { opened = opened })
goes-opened s opened = record {
  share = refl;
  notes = refl;
  whose = refl;
  board = refl;
  inboxes = refl;
  works = λ workload h. record { plans = h.plans; follows = h.follows };
}

pub goes-one : (submitter : ℕ) (s t : ServerView) → OpensOne submitter s t → ServerGoesOn s t
goes-one submitter s t o = subst (ServerGoesOn s) (sym o.more) (goes-opened s _)

pub goes-all : (s t : ServerView) → OpensAll s t → ServerGoesOn s t
goes-all s t o = subst (ServerGoesOn s) (sym o.rest) (goes-opened s t.opened)

-- the list at a place, of which other items are open
module _ (lists : List Inbox) (place : ℕ) (i j : Inbox) (n : ℕ) (within : place < length lists)
    (is : i ≡ get_or lists place i) (more : j ≡ record i { opened = n }) where
  at : slice_get lists place ≡ Some i
  at = slice_get_read lists (length lists) place i refl within is

  pub same-views : map view_of (set lists place j) ≡ map view_of lists
  same-views = map-set_same view_of lists place j i (ap view_of more ∙ ap view_of is)

  -- one item more is
  pub opens-one : (board : List ℕ) (w : WorkerView) (submitter : ℕ)
      → place ≡ submitter / w.last.share.workers
      → n ≡ min (i.opened + 1) (item_count i.plan)
      → OpensOne submitter (server board w lists) (server board w (set lists place j))
  opens-one board w submitter here next =
      let p : ℕ = submitter / w.last.share.workers in
      let open_now : get_or (map opened_of lists) p 0 ≡ i.opened =
      ap (λ q. get_or (map opened_of lists) q 0) (sym here)
      ∙ get_or_from_slice_get (map opened_of lists) place i.opened 0
      (slice_get-map opened_of lists place ∙ ap (option_map opened_of) at) in
      let opened : map opened_of (set lists place j)
      ≡ set (map opened_of lists) p (min (get_or (map opened_of lists) p 0 + 1) (item_count i.plan)) =
      map-set opened_of lists place j ∙ ap (λ q. set (map opened_of lists) q (opened_of j)) here
      ∙ ap (set (map opened_of lists) p) (ap opened_of more ∙ next
      ∙ ap (λ k. min (k + 1) (item_count i.plan)) (sym open_now)) in
      record {
        inbox = view_of i;
        here = ap (slice_get (map view_of lists)) (sym here) ∙ slice_get-map view_of lists place
            ∙ ap (option_map view_of) at;
        more = λ m. record { board = board; worker = w; inboxes = same-views m; opened = opened m };
      }

-- of these lists all items are open below a place, and all else is as it was
pub record OpenBelow (first lists : List Inbox) (n : ℕ) : Type 0 where
  pub same : map view_of lists ≡ map view_of first
  pub opened : (place : ℕ) (i : Inbox) → place < n → slice_get lists place ≡ Some i → i.opened ≡ item_count i.plan

pub below-none : (lists : List Inbox) → OpenBelow lists lists 0
below-none lists = record { same = refl; opened = λ place i below at. absurd (omega (arith, below)) }

pub below-more : (first lists : List Inbox) (n : ℕ) (i j : Inbox)
    → n < length lists
    → i ≡ get_or lists n i
    → j ≡ record i { opened = item_count i.plan }
    → OpenBelow first lists n
    → OpenBelow first (set lists n j) (n + 1)
below-more first lists n i j within is more before = record {
  same = same-views lists n i j (item_count i.plan) within is more ∙ before.same;
  opened = λ place x below at. elim (cases_eq place n) [
    | inl same ↦
        let it : j ≡ x =
        same_Some _ _ (sym (slice_get-set_same lists n j within) ∙ ap (slice_get (set lists n j)) (sym same) ∙ at) in
        subst (λ (y : Inbox). y.opened ≡ item_count y.plan) (sym more ∙ it) refl
    | inr other ↦
        before.opened place x (omega (arith, below, other)) (sym (slice_get-set_other lists n place j other) ∙ at)
  ];
}

pub opens-all : (board : List ℕ) (w : WorkerView) (first lists : List Inbox) (n : ℕ)
    → length first ≤ n
    → OpenBelow first lists n
    → OpensAll (server board w first) (server board w lists)
opens-all board w first lists n sized below = record {
  all = λ place inbox at.
      let it = mapped-at view_of lists place inbox at in
      let in_range : place < length first =
      omega (
        arith,
        slice_get_within (map view_of first) place inbox (ap (λ xs. slice_get xs place) (sym below.same) ∙ at),
        length-map first view_of,
      ) in
      slice_get-map opened_of lists place ∙ ap (option_map opened_of) it.1.0
      ∙ ap Some (below.opened place it.0 (omega (arith, in_range, sized)) it.1.0
      ∙ ap (λ (v : InboxView). item_count v.plan) it.1.1);
  rest = λ m. record {
    board = board;
    worker = w;
    inboxes = below.same m;
    opened = map opened_of lists;
  };
}
