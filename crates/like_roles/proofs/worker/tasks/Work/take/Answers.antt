use Rattle.std.proofs.Common.{◌≡◌, ◌<◌, false, true, [], refl, ap, sym, ◌∙◌, arith, subst}
use Rattle.like_core.specs.WorkerState.{phase_of}
use Rattle.like_tables.specs.Share.{submitter_of}
use Rattle.like_tables.specs.UserTable.{UserTable}
use Rattle.like_tables.specs.declared.held.Held.{Held}
use Rattle.like_seat.specs.Kept as kept
use Rattle.like_seat.specs.StationView.{StationView}
use Rattle.like_roles.specs.worker.Ledger.{view_of}
use Rattle.like_roles.specs.worker.Judged.{IsJudged}
use Rattle.like_roles.specs.worker.Serve.{Runs}
use Rattle.like_roles.specs.worker.Turns.{runs, stashes, with_stashed, with_taken}
use Rattle.like_roles.specs.worker.Work.{station_at, worker_at}
use Rattle.like_roles.specs.worker.WorkerView.{WorkerView, asked_in, has_to_wait}
use Rattle.like_roles.proofs.Held.{settled-push, settled-taken, sum-less, IsOwn-taken, CanServe-taken, view_of-taken, waits-split}
use Rattle.like_roles.proofs.worker.tasks.Work.take.Goals as goal

pub submitter_at-requires : goal.submitter_at-requires
submitter_at-requires g c =
    subst (λ (t : UserTable). submitter_of t.share.workers t.share.worker c.args.rank < t.share.submitters)
    (sym c.users.ensures) (c.requires.idle.settled.sound.ranks.submitters c.args.rank c.requires.tried.there)

pub waits-waits-requires : goal.waits-waits-requires
waits-waits-requires g c =
    subst
    (λ (t : UserTable). IsJudged t.share (record { submitter = c.submitter_at.result; ask = c.args.ask })
    c.of-judged.result) c.users-2.ensures c.of-judged.ensures

pub note_taken-requires-clause-there : goal.note_taken-requires-clause-there
note_taken-requires-clause-there g c =
    omega (arith, c.requires.tried.there, c.requires.idle.settled.sound.ranks.sized, c.args.self.now.ledger.left.ok.0)

pub note_taken-requires-clause-room : goal.note_taken-requires-clause-room
note_taken-requires-clause-room g c =
    let less = sum-less c.args.self.now.ledger.left.items c.args.rank (note_taken-requires-clause-there g c)
    c.requires.given.some in
    omega (arith, c.requires.idle.settled.sound.room.taken, less)

pub stash-requires : goal.stash-requires
stash-requires g c =
    let p = g.P.Post.view c.args.post.now in
    let users = c.args.self.now.tables.last.share in
    c.requires.tried.split (waits-split p (asked_in users c.submitter_at.result c.args.ask.request)
    c.waits-waits.result (c.waits-waits.ensures p c.requires.idle.kept c.requires.tried.running c.requires.given.there)
    c.if-waits.true)

pub returns-then-waits : goal.returns-then-waits
returns-then-waits g c =
    let p = g.P.Post.view c.args.post.now in
    let s = station_at p c.args.self.now in
    let d = c.args.self.now.ledger in
    let idle = c.requires.idle in
    let n = c.note_taken.ensures in
    let v = view_of s d in
    let ask = c.args.ask in
    let held : Held = record { submitter = c.submitter_at.result; ask = ask } in
    let taken = settled-taken s d c.note_taken.new.self c.phase-phase.result c.args.rank held idle.settled.sound
    idle.settled.untried c.requires.tried.there c.requires.given.some n in
    let submitter =
    subst (λ (t : UserTable). held.submitter ≡ submitter_of t.share.workers t.share.worker c.args.rank)
    c.users.ensures c.submitter_at.ensures in
    let own = IsOwn-taken s c.args.rank held.submitter ask idle.settled.sound.ranks.is_worker submitter
    c.requires.given.there in
    let waits = c.waits-waits.ensures p idle.kept c.requires.tried.running c.requires.given.there in
    let now = view_of-taken s d c.note_taken.new.self c.args.rank c.phase-phase.result held.submitter ask n
    (c.phase-phase.ensures ∙ sym (ap phase_of idle.kept.state)) submitter in
    let keeps = c.stash.ensures.kept p idle.kept in
    let holds = ap (kept.view_of [] p) c.stash.ensures.holds in
    record {
      idle = record {
        kept = keeps;
        settled = settled-push s (kept.view_of [] p c.stash.new.self) c.note_taken.new.self held taken.0 taken.1 own
            keeps.station holds;
      };
      board = refl;
      case = stashes
          (subst (λ k. has_to_wait v k ask.request ≡ true) submitter (sym waits ∙ c.if-waits.true))
          refl
          (ap (λ (x : StationView Held). view_of x c.note_taken.new.self) holds
          ∙ ap (λ (x : WorkerView). with_stashed x held) now
          ∙ ap (λ k. with_stashed (with_taken v c.args.rank ask) (record { submitter = k; ask = ask })) submitter);
    }

pub run-requires-clause-idle : goal.run-requires-clause-idle
run-requires-clause-idle g c κs within =
    let idle = c.requires.idle in
    let held : Held = record { submitter = c.submitter_at.result; ask = c.args.ask } in
    record {
      kept = idle.kept;
      settled = (settled-taken (station_at (g.P.Post.view c.args.post.now) c.args.self.now) c.args.self.now.ledger
          c.note_taken.new.self c.phase-phase.result c.args.rank held idle.settled.sound idle.settled.untried
          c.requires.tried.there c.requires.given.some c.note_taken.ensures).0;
    }

pub run-requires-clause-room : goal.run-requires-clause-room
run-requires-clause-room g c κs within =
    let idle = c.requires.idle in
    let held : Held = record { submitter = c.submitter_at.result; ask = c.args.ask } in
    (settled-taken (station_at (g.P.Post.view c.args.post.now) c.args.self.now) c.args.self.now.ledger
    c.note_taken.new.self c.phase-phase.result c.args.rank held idle.settled.sound idle.settled.untried
    c.requires.tried.there c.requires.given.some c.note_taken.ensures).1

pub run-requires-clause-can : goal.run-requires-clause-can
run-requires-clause-can g c κs within =
    let p = g.P.Post.view c.args.post.now in
    let held : Held = record { submitter = c.submitter_at.result; ask = c.args.ask } in
    let judged = subst (λ (t : UserTable). IsJudged t.share held c.of-judged.result) c.users-2.ensures c.of-judged.ensures in
    let submitter =
    subst (λ (t : UserTable). held.submitter ≡ submitter_of t.share.workers t.share.worker c.args.rank)
    c.users.ensures c.submitter_at.ensures in
    CanServe-taken (station_at p c.args.self.now) c.args.rank held c.of-judged.result c.waits-waits.result
    c.requires.idle.settled.sound.ranks.is_worker submitter c.requires.given.there judged c.requires.tried.running
    (c.waits-waits.ensures p c.requires.idle.kept c.requires.tried.running c.requires.given.there) c.if-waits.false

pub returns-clause-case : goal.returns-clause-case
returns-clause-case g c =
    let p = g.P.Post.view c.args.post.now in
    let s = station_at p c.args.self.now in
    let d = c.args.self.now.ledger in
    let v = view_of s d in
    let ask = c.args.ask in
    let held : Held = record { submitter = c.submitter_at.result; ask = ask } in
    let waits = c.waits-waits.ensures p c.requires.idle.kept c.requires.tried.running c.requires.given.there in
    let submitter =
    subst (λ (t : UserTable). held.submitter ≡ submitter_of t.share.workers t.share.worker c.args.rank)
    c.users.ensures c.submitter_at.ensures in
    let taken = view_of-taken s d c.note_taken.new.self c.args.rank c.phase-phase.result held.submitter ask
    c.note_taken.ensures (c.phase-phase.ensures ∙ sym (ap phase_of c.requires.idle.kept.state)) submitter in
    let after = worker_at (g.P.Post.view c.run.new.post) c.run.new.self in
    runs
    (subst (λ k. has_to_wait v k ask.request ≡ false) submitter (sym waits ∙ c.if-waits.false))
    refl
    (subst (λ k. Runs (with_taken v c.args.rank ask) (record { submitter = k; ask = ask }) false after) submitter
    (subst (λ (x : WorkerView). Runs x held false after) taken c.run.ensures.ran))
