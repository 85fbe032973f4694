use Rattle.std.proofs.Common.{◌≡◌, ◌≢◌, false, true, refl, subst, ap, sym, ◌∙◌}
use Rattle.like_core.specs.declared.sight.Sight.{Sight}
use Rattle.like_core.specs.declared.worker_state.WorkerState.TheVariants.{Gone}
use Rattle.like_core.specs.Post.{number_of}
use Rattle.like_core.specs.WorkerState.{IsSightOf}
use Rattle.like_core.specs.declared.view.WorkerSeatView.{WorkerSeatView}
use Rattle.like_seat.specs.StationView.{StationView}
use Rattle.like_seat.specs.Steps.{Looks}
use Rattle.like_seat.proofs.Looking.{saw-waiting}
use Rattle.like_tables.specs.declared.held.Held.{Held}
use Rattle.like_roles.specs.declared.turn.Turn.{Turn}
use Rattle.like_roles.specs.declared.turn.Turn.TheVariants.{Waiting}
use Rattle.like_roles.specs.declared.worker.ledger.Ledger.{Ledger}
use Rattle.like_roles.specs.worker.Ledger.{view_of}
use Rattle.like_roles.specs.worker.Turns.{Turns, Works, saw, waits, works}
use Rattle.like_roles.specs.worker.WorkerView.{WorkerView}
use Rattle.like_roles.specs.worker.Work.{station_at, worker_at}
use Rattle.like_roles.proofs.worker.tasks.Work.next_turn.Goals as goal

-- a worker that looked, and has to wait
turn-waits : (s t : StationView Held) (d e : Ledger) (sight : Sight)
    → Looks s sight t
    → e ≡ record d { started = true }
    → s.post.state ≢ Gone
    → IsSightOf s.post.state sight
    → sight.waits ≡ true
    → Turns (view_of s d) Waiting (view_of t e)
turn-waits s t d e sight looks rest there sees stays =
    let v = view_of s d in
    let saw_is : view_of t e ≡ saw v sight looks.0 (number_of t.post) = λ m. view_of (looks.1 m) (rest m) in
    waits sight there sees stays refl
    (saw_is ∙ ap (λ (p : WorkerSeatView). record v { post = p }) (saw-waiting v.post sight looks.0 (number_of t.post) stays))

-- one that looked, and worked
turn-works : (s t : StationView Held) (d e : Ledger) (sight : Sight) (answer : Turn) (after : WorkerView)
    → Looks s sight t
    → e ≡ record d { started = true }
    → s.post.state ≢ Gone
    → IsSightOf s.post.state sight
    → sight.waits ≡ false
    → Works (view_of t e) sight.ending answer after
    → Turns (view_of s d) answer after
turn-works s t d e sight answer after looks rest there sees goes does =
    let saw_is : view_of t e ≡ saw (view_of s d) sight looks.0 (number_of t.post) = λ m. view_of (looks.1 m) (rest m) in
    works sight looks.0 (number_of t.post) there sees goes (subst (λ v. Works v sight.ending answer after) saw_is does)

pub returns-then-sight-clause-case : goal.returns-then-sight-clause-case
returns-then-sight-clause-case g c =
    let look = c.look-sight in
    turn-waits (station_at (g.P.Post.view c.args.post.now) c.args.self.now) (station_at (g.P.Post.view look.new.post) look.new.self)
    c.args.self.now.ledger look.new.self.ledger look.result look.ensures.looks look.ensures.rest
    (λ gone. absurd (cc (c.is_gone.ensures.1 (sym c.requires.kept.state ∙ gone), c.if-is_gone.false))) look.ensures.sight
    c.if-sight.true

pub returns-then-phase-eq0-clause-case : goal.returns-then-phase-eq0-clause-case
returns-then-phase-eq0-clause-case g c =
    let look = c.look-sight in
    let does = c.joined_turn in
    turn-works (station_at (g.P.Post.view c.args.post.now) c.args.self.now) (station_at (g.P.Post.view look.new.post) look.new.self)
    c.args.self.now.ledger look.new.self.ledger look.result does.result (worker_at (g.P.Post.view does.new.post) does.new.self)
    look.ensures.looks look.ensures.rest
    (λ gone. absurd (cc (c.is_gone.ensures.1 (sym c.requires.kept.state ∙ gone), c.if-is_gone.false))) look.ensures.sight
    c.if-sight.false does.ensures.works

pub returns-else-phase-eq0-clause-case : goal.returns-else-phase-eq0-clause-case
returns-else-phase-eq0-clause-case g c =
    let look = c.look-sight in
    let does = c.split_turn in
    turn-works (station_at (g.P.Post.view c.args.post.now) c.args.self.now) (station_at (g.P.Post.view look.new.post) look.new.self)
    c.args.self.now.ledger look.new.self.ledger look.result does.result (worker_at (g.P.Post.view does.new.post) does.new.self)
    look.ensures.looks look.ensures.rest
    (λ gone. absurd (cc (c.is_gone.ensures.1 (sym c.requires.kept.state ∙ gone), c.if-is_gone.false))) look.ensures.sight
    c.if-sight.false does.ensures.works
