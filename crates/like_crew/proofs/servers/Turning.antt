-- What whole turns leave: who is gone, and which lists are open.
use Rattle.std.proofs.Common.{◌≡◌, ◌≢◌, inl, inr, ℕ, suc, ◌+◌, Bool, true, false, cond, List, [], ◌∷◌, length, map, set, slice_get, Some, refl, sym, ap, ◌∙◌, subst, arith}
use Rattle.std.specs.List.{All, AllZip}
use Rattle.std.proofs.lemmas.Bool.{cases_eq}
use Rattle.std.proofs.lemmas.List.Elements.{All-cons}
use Rattle.std.proofs.lemmas.Option.{same_Some, slice_get_within}
use Rattle.like_requests.specs.declared.request.Taken.{Taken}
use Rattle.like_core.specs.declared.sight.Sight.{Sight}
use Rattle.like_core.specs.declared.view.CoordSeatView.{CoordSeatView}
use Rattle.like_core.specs.declared.worker_state.WorkerState.{WorkerState}
use Rattle.like_core.specs.declared.worker_state.WorkerState.TheVariants as state
use Rattle.like_core.specs.Phase.{IsJoined, IsSplit}
use Rattle.like_core.specs.WorkerState.{seen}
use Rattle.like_queue.specs.Inbox.{InboxView}
use Rattle.like_roles.specs.declared.turn.Turn.{Turn}
use Rattle.like_roles.specs.declared.turn.Turn.TheVariants as turn
use Rattle.like_roles.specs.worker.Turns as turns
use Rattle.like_roles.specs.worker.Turns.{Gives, Turns, Works, held_from, saw, settled, with_taken, without_first}
use Rattle.like_roles.specs.worker.WorkerView.{WorkerView}
use Rattle.like_roles.proofs.Effects.{Runs-effects}
use Rattle.like_ending.specs.FreshTurns.{FreshTurns}
use Rattle.like_crew.specs.Fresh.{AllOpen, LooksFresh}
use Rattle.like_crew.specs.Progress.{progress_of}
use Rattle.like_crew.specs.Server.{ServerView}
use Rattle.like_crew.specs.ServerTurns as server
use Rattle.like_crew.specs.ServerTurns.{IsTurn, OpensAll, OpensOne, ServerTurns, rank_at}
use Rattle.like_crew.proofs.lists.Stepped.{slice_get-set_other, slice_get-set_same}
use Rattle.like_crew.proofs.servers.Agreeing.{plan-taken}
use Rattle.like_crew.proofs.servers.Sights.{running_here}

-- a look makes nobody gone
still-there : (s : WorkerState) (sight : Sight) → s ≢ state.Gone → seen s sight ≢ state.Gone
still-there (state.Runs k) sight here = λ e. cc e
still-there (state.Answered k) sight here = by_test sight.waits where
  by_test : (b : Bool) → cond b (state.Answered k) (state.Runs (k + 1)) ≢ state.Gone
  by_test true = λ e. cc e
  by_test false = λ e. cc e
still-there state.Gone sight here = here

-- who is gone after its work has answered so
works-gone : (v : WorkerView) (ending : Bool) (answer : Turn) (after : WorkerView)
    → after.post.state ≡ state.Gone
    → Works v ending answer after
    → answer ≡ turn.Retired
works-gone v ending answer after gone (turns.runs_stashed first rest j h a run) =
    let did = Runs-effects (without_first v rest) first true after run in
    absurd (running_here IsJoined v.post.state j (sym did.state ∙ gone))
works-gone v ending answer after gone (turns.retires j h ended a x) = a
works-gone v ending answer after gone (turns.acknowledges j h ended seen a x) =
    absurd (cc (gone, ap (λ y. y.post.state) x))
works-gone v ending answer after gone (turns.tries_joined place j h next seen a x) =
    absurd (running_here IsJoined v.post.state j (sym (ap (λ y. y.post.state) x) ∙ gone))
works-gone v ending answer after gone (turns.reports now s seen a m x) = absurd (cc (gone, ap (λ y. y.post.state) x))
works-gone v ending answer after gone (turns.idles s seen stuck a x) =
    absurd (running_here IsSplit v.post.state s (sym (ap (λ y. y.post.state) x) ∙ gone))
works-gone v ending answer after gone (turns.tries_split place s seen room next a x) =
    absurd (running_here IsSplit v.post.state s (sym (ap (λ y. y.post.state) x) ∙ gone))

turns-gone : (v : WorkerView) (answer : Turn) (after : WorkerView)
    → after.post.state ≡ state.Gone
    → Turns v answer after
    → answer ≡ turn.Retired
turns-gone v answer after gone (turns.is_gone was told x) = told
turns-gone v answer after gone (turns.waits sight here i w told x) =
    absurd (still-there v.post.state sight here (sym (ap (λ y. y.post.state) x) ∙ gone))
turns-gone v answer after gone (turns.works sight mask number here i w x) =
    works-gone (saw v sight mask number) sight.ending answer after gone x

-- what is given makes nobody gone
gives-state : (v : WorkerView) (took : Taken) (answer : Turn) (after : WorkerView)
    → Gives v took answer after
    → after.post.state ≡ v.post.state
gives-state v took answer after (turns.nothing g a x) = ap (λ y. y.post.state) x
gives-state v took answer after (turns.ends place p g a x) = ap (λ y. y.post.state) x
gives-state v took answer after (turns.asks place ask p g (turns.stashes w a x)) = ap (λ y. y.post.state) x
gives-state v took answer after (turns.asks place ask p g (turns.runs w a run)) =
    (Runs-effects (with_taken (settled v) place ask) (held_from (settled v) place ask) false after run).state

-- who is gone after a whole turn has answered so
pub gone-told : (answer : Turn) (s t : ServerView)
    → t.worker.post.state ≡ state.Gone
    → ServerTurns answer s t
    → answer ≡ turn.Retired
gone-told answer s t gone (server.tries_none turns none same) = turns-gone s.worker answer t.worker gone turns
gone-told answer s t gone (server.tries submitter tried i j took turns here hands none gives same) =
    absurd (cc (turns-gone s.worker (turn.Try submitter) tried
    (sym (gives-state tried took answer t.worker gives) ∙ gone) turns))

-- who was gone is gone
turns-stays : (v : WorkerView) (answer : Turn) (after : WorkerView)
    → v.post.state ≡ state.Gone
    → Turns v answer after
    → (answer ≡ turn.Retired) × (after.post.state ≡ state.Gone)
turns-stays v answer after gone (turns.is_gone was told x) = (told, ap (λ y. y.post.state) x ∙ gone)
turns-stays v answer after gone (turns.waits sight here i w told x) = absurd (here gone)
turns-stays v answer after gone (turns.works sight mask number here i w x) = absurd (here gone)

pub stays-gone : (answer : Turn) (s t : ServerView)
    → s.worker.post.state ≡ state.Gone
    → ServerTurns answer s t
    → t.worker.post.state ≡ state.Gone
stays-gone answer s t gone (server.tries_none turns none same) = (turns-stays s.worker answer t.worker gone turns).1
stays-gone answer s t gone (server.tries submitter tried i j took turns here hands none gives same) =
    absurd (cc ((turns-stays s.worker (turn.Try submitter) tried gone turns).0))

-- lists that are open stay open
pub stays-open : (answer : Turn) (s t : ServerView) → AllOpen s → ServerTurns answer s t → AllOpen t
stays-open answer s t all (server.tries_none turns none same) = subst AllOpen (sym same) all
stays-open answer s t all (server.tries submitter tried i j took turns here hands none gives same) =
    let place : ℕ = rank_at s submitter in
    subst AllOpen (sym same) (λ other inbox at. elim (cases_eq other place) [
      | inl mine ↦
          let is : j ≡ inbox =
          same_Some _ _ (sym (slice_get-set_same s.inboxes place j (slice_get_within s.inboxes place i here))
          ∙ ap (slice_get (set s.inboxes place j)) (sym mine) ∙ at) in
          let plan = plan-taken i j took hands in
          ap (slice_get s.opened) mine ∙ all place i here
          ∙ ap (λ n. Some n) (ap (λ xs. length xs + 1) (sym plan ∙ ap (λ (x : InboxView). x.plan) is))
      | inr else_where ↦
          all other inbox (sym (slice_get-set_other s.inboxes place other j else_where) ∙ at)
    ])

-- opening changes nothing that counts
pub opened-one : (submitter : ℕ) (s t : ServerView) → OpensOne submitter s t → progress_of t ≡ progress_of s
opened-one submitter s t o = ap progress_of o.more

pub opened-all : (s t : ServerView) → OpensAll s t → (progress_of t ≡ progress_of s) × AllOpen t
opened-all s t o = (ap progress_of o.rest, o.all)

-- all of them
pub all-opened : (ss ts : List ServerView)
    → AllZip OpensAll ss ts
    → (map progress_of ts ≡ map progress_of ss) × All AllOpen ts
all-opened [] [] all = (refl, λ k d there. absurd (omega (arith, there)))
all-opened [] (t ∷ ts) all = absurd all
all-opened (s ∷ ss) [] all = absurd all
all-opened (s ∷ ss) (t ∷ ts) all =
    let first = opened-all s t all.0 in
    let others = all-opened ss ts all.1 in
    (λ m. first.0 m ∷ others.0 m, All-cons AllOpen t ts first.1 others.1)

-- a turn whose look shows what the coordinator's seat knows
abbrev pub TurnsBy : CoordSeatView → ServerView → ServerView → Type 0
TurnsBy c s t = (answer : Turn) × (IsTurn answer s t × LooksFresh c.phase c.ending s t)

pub all-stay-open : (c : CoordSeatView) (ss ts : List ServerView)
    → All AllOpen ss
    → AllZip (TurnsBy c) ss ts
    → All AllOpen ts
all-stay-open c [] [] open_all turns = λ k d there. absurd (omega (arith, there))
all-stay-open c [] (t ∷ ts) open_all turns = absurd turns
all-stay-open c (s ∷ ss) [] open_all turns = absurd turns
all-stay-open c (s ∷ ss) (t ∷ ts) open_all turns =
    All-cons AllOpen t ts (stays-open turns.0.0 s t (open_all 0 s (omega arith)) turns.0.1.0.whole)
    (all-stay-open c ss ts (λ k d there. open_all (suc k) d (omega (arith, there))) turns.1)

pub all-stay-gone : (c : CoordSeatView) (ss ts : List ServerView)
    → All (λ s. s.worker.post.state ≡ state.Gone) ss
    → AllZip (TurnsBy c) ss ts
    → All (λ s. s.worker.post.state ≡ state.Gone) ts
all-stay-gone c [] [] gone turns = λ k d there. absurd (omega (arith, there))
all-stay-gone c [] (t ∷ ts) gone turns = absurd turns
all-stay-gone c (s ∷ ss) [] gone turns = absurd turns
all-stay-gone c (s ∷ ss) (t ∷ ts) gone turns =
    All-cons (λ (x : ServerView). x.worker.post.state ≡ state.Gone) t ts
    (stays-gone turns.0.0 s t (gone 0 s (omega arith)) turns.0.1.0.whole)
    (all-stay-gone c ss ts (λ k d there. gone (suc k) d (omega (arith, there))) turns.1)

-- the turns of a round, with all lists open, are the model's
pub all-modelled : (c : CoordSeatView) (ss ts : List ServerView)
    → All AllOpen ss
    → AllZip (TurnsBy c) ss ts
    → AllZip (FreshTurns true c.phase c.ending) (map progress_of ss) (map progress_of ts)
all-modelled c [] [] open_all turns = tt
all-modelled c [] (t ∷ ts) open_all turns = absurd turns
all-modelled c (s ∷ ss) [] open_all turns = absurd turns
all-modelled c (s ∷ ss) (t ∷ ts) open_all turns = (
  turns.0.1.0.modelled true c.phase c.ending (λ _. open_all 0 s (omega arith)) turns.0.1.1,
  all-modelled c ss ts (λ k d there. open_all (suc k) d (omega (arith, there))) turns.1,
)
