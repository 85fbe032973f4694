-- A turn of a worker that notes no additions notes none.
use Rattle.std.proofs.Common.{◌≡◌, ℕ, ◌++◌, Bool, true, false, List, [], ◌∷◌, length, refl, ap, ◌∙◌, append-nil}
use Rattle.like_requests.specs.declared.request.Numbered.{Numbered}
use Rattle.like_requests.specs.declared.request.Request.{Request}
use Rattle.like_requests.specs.declared.request.Taken.{Taken}
use Rattle.like_core.specs.declared.view.Addition.{Addition}
use Rattle.like_tables.specs.declared.held.Held.{Held}
use Rattle.like_promises.specs.declared.log.Added.{Added}
use Rattle.like_promises.specs.declared.reply.Reply.{Reply}
use Rattle.like_roles.specs.declared.turn.Turn.{Turn}
use Rattle.like_roles.specs.worker.Serve.{Runs, GivesReply, noted, noted_if}
use Rattle.like_roles.specs.worker.Turns as turns
use Rattle.like_roles.specs.worker.Turns.{Gives, TakesAsk, Turns, Works, saw, settled, with_taken, without_first}
use Rattle.like_roles.specs.worker.WorkerView.{WorkerView, phase_at}
use Rattle.like_roles.proofs.Served.{GivesReply-keeps, counted_by}

-- what it has noted
abbrev adds_of : WorkerView → List Added
adds_of v = v.adds

-- nothing is noted of additions
noted-none : (v : WorkerView) (adds : List Addition) → v.notes ≡ false → v.adds ++ noted v adds ≡ v.adds
noted-none v adds n = ap (λ (b : Bool). v.adds ++ noted_if b (length v.ran) adds) n ∙ append-nil v.adds

serves-adds : (v : WorkerView) (submitter : ℕ) (r : Request) (reply : Reply) (w : WorkerView)
    → v.notes ≡ false
    → GivesReply v submitter r reply w
    → w.adds ≡ v.adds
serves-adds v submitter r reply w n =
    GivesReply-keeps adds_of v submitter r reply w
    (λ user page old number. counted_by (λ x. adds_of x ≡ v.adds) v page old number refl
    (noted-none v (record { phase = phase_at v; page = page; old = old; likes = 1 } ∷ []) n))
    (λ page count number. refl)

runs-adds : (v : WorkerView) (h : Held) (stashed : Bool) (after : WorkerView)
    → v.notes ≡ false
    → Runs v h stashed after
    → after.adds ≡ v.adds
runs-adds v h stashed after n run =
    ap adds_of run.noted ∙ serves-adds v h.submitter h.ask.request run.reply run.served n run.serves

works-adds : (v : WorkerView) (ending : Bool) (answer : Turn) (after : WorkerView)
    → v.notes ≡ false
    → Works v ending answer after
    → after.adds ≡ v.adds
works-adds v ending answer after n (turns.runs_stashed first rest j e a run) =
    runs-adds (without_first v rest) first true after n run
works-adds v ending answer after n (turns.retires j e ended a x) = ap adds_of x
works-adds v ending answer after n (turns.acknowledges j e ended seen a x) = ap adds_of x
works-adds v ending answer after n (turns.tries_joined place j e next seen a x) = ap adds_of x
works-adds v ending answer after n (turns.reports now s seen a m x) =
    ap adds_of x ∙ ap adds_of m.1.1 ∙ noted-none v m.0 n
works-adds v ending answer after n (turns.idles s seen stuck a x) = ap adds_of x
works-adds v ending answer after n (turns.tries_split place s seen room next a x) = ap adds_of x

pub turns-adds : (v : WorkerView) (answer : Turn) (after : WorkerView)
    → v.notes ≡ false
    → Turns v answer after
    → after.adds ≡ v.adds
turns-adds v answer after n (turns.is_gone gone a x) = ap adds_of x
turns-adds v answer after n (turns.waits sight here i w a x) = ap adds_of x
turns-adds v answer after n (turns.works sight mask number here i w x) =
    works-adds (saw v sight mask number) sight.ending answer after n x

takes-adds : (v : WorkerView) (place : ℕ) (ask : Numbered) (answer : Turn) (after : WorkerView)
    → v.notes ≡ false
    → TakesAsk v place ask answer after
    → after.adds ≡ v.adds
takes-adds v place ask answer after n (turns.stashes w a x) = ap adds_of x
takes-adds v place ask answer after n (turns.runs w a run) =
    runs-adds (with_taken v place ask) (turns.held_from v place ask) false after n run

pub gives-adds : (v : WorkerView) (took : Taken) (answer : Turn) (after : WorkerView)
    → v.notes ≡ false
    → Gives v took answer after
    → after.adds ≡ v.adds
gives-adds v took answer after n (turns.nothing g a x) = ap adds_of x
gives-adds v took answer after n (turns.ends place p g a x) = ap adds_of x
gives-adds v took answer after n (turns.asks place ask p g x) = takes-adds (settled v) place ask answer after n x
