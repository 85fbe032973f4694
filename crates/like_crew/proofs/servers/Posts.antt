-- A turn leaves whose post it is; and it makes one look, unless its worker is gone.
use Rattle.std.proofs.Common.{◌≡◌, ◌≢◌, ℕ, Bool, true, false, List, [], ◌∷◌, ◌++◌, Option, Some, refl, ap, ◌∙◌}
use Rattle.like_requests.specs.declared.request.Numbered.{Numbered}
use Rattle.like_requests.specs.declared.request.Request.{Request}
use Rattle.like_requests.specs.declared.request.Taken.{Taken}
use Rattle.like_core.specs.declared.sight.Sight.{Sight}
use Rattle.like_core.specs.declared.view.Look.{Look}
use Rattle.like_core.specs.declared.worker_state.WorkerState.TheVariants.{Gone}
use Rattle.like_core.specs.PageSteps.{look_after}
use Rattle.like_tables.specs.declared.held.Held.{Held}
use Rattle.like_promises.specs.declared.reply.Reply.{Reply}
use Rattle.like_roles.specs.declared.turn.Turn.{Turn}
use Rattle.like_roles.specs.declared.turn.Turn.TheVariants.{Try}
use Rattle.like_roles.specs.worker.Serve.{Runs, GivesReply}
use Rattle.like_roles.specs.worker.Turns as turns
use Rattle.like_roles.specs.worker.Turns.{Gives, TakesAsk, Turns, Works, saw, settled, with_taken, without_first}
use Rattle.like_roles.specs.worker.WorkerView.{WorkerView}
use Rattle.like_roles.proofs.Served.{GivesReply-keeps, counted_by}
use Rattle.like_crew.specs.Server.{ServerView}
use Rattle.like_crew.specs.ServerTurns.{ServerTurns, tries, tries_none}

-- whose post it is, what it saw last, and all its looks
abbrev told : WorkerView → ℕ × Option Sight × List Look
told v = (v.post.worker, v.post.last, v.post.looks)

serves-told : (v : WorkerView) (submitter : ℕ) (r : Request) (reply : Reply) (w : WorkerView)
    → GivesReply v submitter r reply w
    → told w ≡ told v
serves-told v submitter r reply w =
    GivesReply-keeps told v submitter r reply w
    (λ user page old number. counted_by (λ x. told x ≡ told v) v page old number refl refl) (λ page count number. refl)

runs-told : (v : WorkerView) (h : Held) (stashed : Bool) (after : WorkerView)
    → Runs v h stashed after
    → told after ≡ told v
runs-told v h stashed after run =
    ap told run.noted ∙ serves-told v h.submitter h.ask.request run.reply run.served run.serves

works-told : (v : WorkerView) (ending : Bool) (answer : Turn) (after : WorkerView)
    → Works v ending answer after
    → told after ≡ told v
works-told v ending answer after (turns.runs_stashed first rest j e a run) =
    runs-told (without_first v rest) first true after run
works-told v ending answer after (turns.retires j e ended a x) = ap told x
works-told v ending answer after (turns.acknowledges j e ended seen a x) = ap told x
works-told v ending answer after (turns.tries_joined place j e next seen a x) = ap told x
works-told v ending answer after (turns.reports now s seen a m x) = ap told x ∙ ap told m.1.1
works-told v ending answer after (turns.idles s seen stuck a x) = ap told x
works-told v ending answer after (turns.tries_split place s seen room next a x) = ap told x

pub turns-whose : (v : WorkerView) (answer : Turn) (after : WorkerView)
    → Turns v answer after
    → after.post.worker ≡ v.post.worker
turns-whose v answer after (turns.is_gone gone a x) = ap (λ (w : WorkerView). w.post.worker) x
turns-whose v answer after (turns.waits sight here i w a x) = ap (λ (w : WorkerView). w.post.worker) x
turns-whose v answer after (turns.works sight mask number here i w x) =
    ap (λ (t : ℕ × Option Sight × List Look). t.0)
    (works-told (saw v sight mask number) sight.ending answer after x)

takes-told : (v : WorkerView) (place : ℕ) (ask : Numbered) (answer : Turn) (after : WorkerView)
    → TakesAsk v place ask answer after
    → told after ≡ told v
takes-told v place ask answer after (turns.stashes w a x) = ap told x
takes-told v place ask answer after (turns.runs w a run) =
    runs-told (with_taken v place ask) (turns.held_from v place ask) false after run

gives-told : (v : WorkerView) (took : Taken) (answer : Turn) (after : WorkerView)
    → Gives v took answer after
    → told after ≡ told v
gives-told v took answer after (turns.nothing g a x) = ap told x
gives-told v took answer after (turns.ends place p g a x) = ap told x
gives-told v took answer after (turns.asks place ask p g x) = takes-told (settled v) place ask answer after x

pub gives-whose : (v : WorkerView) (took : Taken) (answer : Turn) (after : WorkerView)
    → Gives v took answer after
    → after.post.worker ≡ v.post.worker
gives-whose v took answer after gives =
    ap (λ (t : ℕ × Option Sight × List Look). t.0) (gives-told v took answer after gives)

-- one look was made, and is the last
pub record LooksOnce (v w : WorkerView) : Type 0 where
  pub sight : Sight
  pub last : w.post.last ≡ Some sight
  pub looks : w.post.looks ≡ v.post.looks ++ look_after sight v.post.did ∷ []

looks-on : (v w x : WorkerView) → LooksOnce v w → told x ≡ told w → LooksOnce v x
looks-on v w x once same = record {
  sight = once.sight;
  last = ap (λ (t : ℕ × Option Sight × List Look). t.1) same ∙ once.last;
  looks = ap (λ (t : ℕ × Option Sight × List Look). t.2) same ∙ once.looks;
}

turns-looks : (v : WorkerView) (answer : Turn) (after : WorkerView)
    → Turns v answer after
    → v.post.state ≢ Gone
    → LooksOnce v after
turns-looks v answer after (turns.is_gone gone a x) here = absurd (here gone)
turns-looks v answer after (turns.waits sight there i w a x) here = record {
  sight = sight;
  last = ap (λ (u : WorkerView). u.post.last) x;
  looks = ap (λ (u : WorkerView). u.post.looks) x;
}
turns-looks v answer after (turns.works sight mask number there i w x) here =
    looks-on v (saw v sight mask number) after (record { sight = sight; last = refl; looks = refl })
    (works-told (saw v sight mask number) sight.ending answer after x)

-- a whole turn
pub server-looks : (answer : Turn) (s t : ServerView)
    → ServerTurns answer s t
    → s.worker.post.state ≢ Gone
    → LooksOnce s.worker t.worker
server-looks answer s t (tries_none turn none is) here = turns-looks s.worker answer t.worker turn here
server-looks answer s t (tries submitter tried i j took turn at hands none gives is) here =
    looks-on s.worker tried t.worker (turns-looks s.worker (Try submitter) tried turn here)
    (gives-told tried took answer t.worker gives)
