-- A turn that tries a submitter, which is given what its inbox hands over.
use Rattle.std.proofs.Common.{◌≡◌, ℕ, ◌/◌, ◌<◌, ◌≤◌, List, true, false, length, get_or, map, option_map, set, slice_get, Some, refl, sym, ap, ◌∙◌, subst, arith}
use Rattle.std.proofs.lemmas.List.{length-map, length-set, map-set}
use Rattle.std.proofs.lemmas.Option.{get_or_from_slice_get, same_Some, slice_get-map, slice_get_read}
use Rattle.std.proofs.Math.Seq.{map-set_same}
use Rattle.like_requests.specs.declared.request.Taken.{Taken}
use Rattle.like_requests.specs.declared.request.Taken.TheVariants.{Nothing}
use Rattle.like_core.specs.PhaseMasks.{AreMasksOf}
use Rattle.like_queue.specs.Inbox.{HandsOver, InboxView}
use Rattle.like_tables.specs.Share.{Share}
use Rattle.like_promises.specs.Workload.{Workload}
use Rattle.like_roles.specs.declared.turn.Turn.{Turn}
use Rattle.like_roles.specs.declared.turn.Turn.TheVariants.{Retired, Try}
use Rattle.like_roles.specs.worker.Follows.{Follows, IsAskedBy}
use Rattle.like_roles.specs.worker.Turns as turns
use Rattle.like_roles.specs.worker.Turns.{CanGive, Gives, HasTaken, Pends, TakesNothing, Turns}
use Rattle.like_roles.specs.worker.WorkerView.{WorkerView, submitter_at}
use Rattle.like_crew.specs.Server.{Agree, ServerGoesOn, ServerView, WorksFor}
use Rattle.like_crew.specs.ServerTurns.{ServerTurns, TakesOpen, rank_at, tries}
use Rattle.like_crew.proofs.servers.Agreeing.{agree-give, agree-turn, can-give, notes-given, share-given, works-given, works-turn}
use Rattle.like_crew.proofs.servers.Numbers.{place-own}
use Rattle.like_crew.proofs.servers.OnlyOpen.{takes-open}
use Rattle.like_crew.proofs.servers.Posts.{gives-whose, turns-whose}
use Rattle.like_crew.proofs.servers.Sights.{turns-tries}

-- a worker has tried the submitter at this place of these inboxes
pub record HasTried (u v : WorkerView) (inboxes : List InboxView) (answer : Turn) (place submitter : ℕ) : Type 0 where
  pub agree : Agree u inboxes
  pub turn : Turns u answer v
  pub takes : TakesNothing u v
  pub follows : (workload : Workload) → AreMasksOf workload.hot v.post.masks → Follows workload u → Follows workload v
  pub tried : answer ≡ Try submitter
  pub pends : Pends (Try submitter) v
  pub told : v.pending ≡ Some place

-- the place that it told is the one that is tried
record Place (v : WorkerView) (place submitter : ℕ) : Type 0 where
  pub is : submitter_at v place ≡ submitter
  pub there : place < length v.ended
  pub not_ended : get_or v.ended place true ≡ false

place-told : (v : WorkerView) (place submitter : ℕ) → Pends (Try submitter) v → v.pending ≡ Some place
    → Place v place submitter
place-told v place submitter p told =
    subst (λ q. Place v q submitter) (same_Some _ _ (sym p.1.0 ∙ told))
    (record { is = p.1.1; there = p.1.2; not_ended = p.1.3 })

-- what was taken from a submitter retires no worker
pub never-retired : (v w : WorkerView) (took : Taken) (answer : Turn) → Gives v took answer w → answer ≡ Retired → ⊥
never-retired v w took answer (turns.nothing t is s) retired = cc (is, retired)
never-retired v w took answer (turns.ends place p t is s) retired = cc (is, retired)
never-retired v w took answer (turns.asks place ask p t (turns.stashes h is s)) retired = cc (is, retired)
never-retired v w took answer (turns.asks place ask p t (turns.runs h is s)) retired = cc (is, retired)

module _ {J : Type 0} (view : J → InboxView) (u v : WorkerView) (lists : List J) (answer : Turn) (place submitter : ℕ)
    (h : HasTried u v (map view lists) answer place submitter) where
  at : Place v place submitter
  at = place-told v place submitter h.pends h.told

  agreed : Agree v (map view lists)
  agreed = agree-turn u v (map view lists) answer h.turn h.takes h.agree

  -- its inbox is there
  pub place-there : place < length lists
  place-there =
      let there = at.there in
      let places = agreed.places in
      omega (arith, there, places, length-map lists view)

  own-place : place ≡ submitter / u.last.share.workers
  own-place = sym (place-own v.last.share agreed.is_worker place) ∙ ap (λ s. s / v.last.share.workers) at.is
      ∙ ap (λ (t : Share). submitter / t.workers) h.takes.share

  module _ (i : J) (value : i ≡ get_or lists place i) where
    found : slice_get lists place ≡ Some i
    found = slice_get_read lists (length lists) place i refl place-there value

    here : slice_get (map view lists) place ≡ Some (view i)
    here = slice_get-map view lists place ∙ ap (option_map view) found

    -- what it hands over may be given
    pub may-give : (j : J) (took : Taken) → HandsOver (view i) took (view j) → CanGive v took
    may-give j took hands =
        can-give v (map view lists) place (view i) (view j) agreed h.told here at.not_ended took hands

    -- and is
    module _ (opened : J → ℕ) (board : List ℕ) (w : WorkerView) (j : J) (took : Taken) (last : Turn)
        (hands : HandsOver (view i) took (view j)) (gives : Gives v took last w) (has : HasTaken v took w) where
      abbrev before : ServerView
      before = record { board = board; worker = u; inboxes = map view lists; opened = map opened lists }

      abbrev after : ServerView
      after = record {
        board = board;
        worker = w;
        inboxes = map view (set lists place j);
        opened = map opened (set lists place j);
      }

      given : map view (set lists place j) ≡ set (map view lists) place (view j)
      given = map-set view lists place j

      pub agree-given : Agree w (map view (set lists place j))
      agree-given = subst (Agree w) (sym given)
          (agree-give v (map view lists) place (view i) (view j) agreed h.told here at.not_ended w
          (turns-tries u answer v submitter h.turn h.tried) last took hands gives has)

      pub turns-given : opened j ≡ opened i → (took ≡ Nothing → opened i ≤ (view i).taken) → ServerTurns last before after
      turns-given opens none =
          let p : ℕ = rank_at before submitter in
          let all : map opened (set lists place j) ≡ map opened lists =
          map-set_same opened lists place j i (opens ∙ ap opened value) in
          let open_now : get_or (map opened lists) p 0 ≡ opened i =
          ap (λ n. get_or (map opened lists) n 0) (sym own-place)
          ∙ get_or_from_slice_get (map opened lists) place (opened i) 0
          (slice_get-map opened lists place ∙ ap (option_map opened) found) in
          tries submitter v (view i) (view j) took (subst (λ a. Turns u a v) h.tried h.turn)
          (ap (slice_get (map view lists)) (sym own-place) ∙ here) hands (λ e. omega (arith, none e, open_now)) gives
          (λ m. record {
            board = board;
            worker = w;
            inboxes = (given ∙ ap (λ n. set (map view lists) n (view j)) own-place) m;
            opened = all m;
          })

      pub goes-given : ((workload : Workload) → IsAskedBy workload v took → Follows workload v → Follows workload w)
          → ServerGoesOn before after
      goes-given follows = record {
        share = share-given v w place took h.told has ∙ h.takes.share;
        notes = notes-given v w place took h.told has ∙ h.takes.notes;
        whose = gives-whose v took last w gives ∙ turns-whose u answer v h.turn;
        board = refl;
        inboxes = ap (λ (xs : List InboxView). length xs) given ∙ length-set (map view lists) place (view j);
        works = λ workload works.
            subst (λ xs. WorksFor workload (record after { inboxes = xs })) (sym given)
            (works-given v (map view lists) place (view i) (view j) agreed h.told here at.not_ended workload w took board
            (map opened lists) (map opened (set lists place j)) hands has (follows workload)
            (works-turn workload before (record before { worker = v }) h.takes (h.follows workload) refl works));
      }

      pub takes-given : (view j).taken ≤ opened i → TakesOpen before after
      takes-given only = takes-open view opened before after lists place i j refl refl refl place-there value only
