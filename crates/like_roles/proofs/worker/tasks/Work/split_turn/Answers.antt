use Rattle.std.proofs.Common.{◌≡◌, ◌≢◌, ℕ, ◌<◌, true, [], length, get_or, inl, inr, refl, ap, sym, subst, ◌∙◌}
use Rattle.like_core.specs.WorkerState.{phase_of}
use Rattle.like_core.specs.declared.worker_state.WorkerState.TheVariants as state
use Rattle.like_tables.specs.declared.held.Held.{Held}
use Rattle.like_seat.specs.Kept as kept
use Rattle.like_seat.specs.Kept.{IsKept}
use Rattle.like_seat.specs.StationView.{StationView}
use Rattle.like_roles.specs.worker.Ledger.{IsSound, view_of}
use Rattle.like_roles.specs.worker.Turns.{idles, reports, tries_split}
use Rattle.like_roles.specs.worker.Work.{station_at, worker_at}
use Rattle.like_roles.specs.worker.WorkerView.{IsNextOpen, TookAllEnds}
use Rattle.like_roles.proofs.Held.{sound-stopped, sound-tried, tried-split, view_of-tried}
use Rattle.like_roles.proofs.worker.tasks.Work.split_turn.Goals as goal

pub returns-then-ending : goal.returns-then-ending
returns-then-ending g c =
    let p = g.P.Post.view c.merge.new.post in
    let d = c.merge.new.self.ledger in
    let stops = c.report.ensures.stops in
    record {
      ready = record {
        kept = c.report.ensures.kept;
        sound = sound-stopped (kept.view_of (g.P.Post.board c.merge.new.post) p c.merge.new.self.tables)
            (kept.view_of (g.P.Post.board c.report.new.post) (g.P.Post.view c.report.new.post) c.report.new.self) d
            (state.Answered (phase_of p.state)) c.merge.ensures.idle.settled c.report.ensures.kept.station stops;
      };
      board = ap (λ (x : StationView Held). x.board) stops ∙ c.merge.ensures.board;
      works = reports (worker_at p c.merge.new.self) c.requires.split c.if-ending.true refl c.merge.ensures.merged
          (ap (λ (x : StationView Held). view_of x d) stops);
    }

pub returns-in-Some : goal.returns-in-Some
returns-in-Some g c =
    let p = g.P.Post.view c.args.post.now in
    let s = station_at p c.args.self.now in
    let d = c.args.self.now.ledger in
    let after = c.try_next.new.self in
    let rank = c.in-Some.rank in
    let settled = c.requires.idle.settled in
    let room : length s.stash.looks ≢ s.stash.capacity = λ e. absurd (cc (c.is_full.ensures.1 e, c.if-is_full.false)) in
    let next = subst (λ xs. IsNextOpen xs d.cursor rank) c.deref.ensures.value c.in-Some.ensures in
    let as_before = ap (kept.view_of [] p) c.try_next.ensures.tables in
    record {
      ready = record {
        kept = subst (IsKept p) (sym c.try_next.ensures.tables) c.requires.idle.kept;
        sound = subst (λ (x : StationView Held). IsSound x after.ledger) (sym as_before)
            (sound-tried s d after.ledger rank settled
            (tried-split s d rank settled.sound.station c.requires.split room next.there) c.try_next.ensures.tried);
      };
      board = refl;
      works = tries_split rank c.requires.split c.if-ending.false room next c.try_next.ensures.answer
          (view_of-tried s (station_at p after) d after.ledger rank c.try_next.ensures.tried as_before);
    }

pub returns-then-is_full-clause-works : goal.returns-then-is_full-clause-works
returns-then-is_full-clause-works g c =
    idles c.requires.split c.if-ending.false (inr (c.is_full.ensures.0 c.if-is_full.true)) refl refl

pub returns-in-None-clause-works : goal.returns-in-None-clause-works
returns-in-None-clause-works g c =
    let all : TookAllEnds c.args.self.now.ledger.ended.items =
    subst (λ xs. (rank : ℕ) → rank < length xs → get_or xs rank true ≡ true) c.deref.ensures.value
    c.in-None.ensures in
    idles c.requires.split c.if-ending.false (inl all) refl refl

pub returns-then-is_full-clause-ready : goal.returns-then-is_full-clause-ready
returns-then-is_full-clause-ready g c = record { kept = c.requires.idle.kept; sound = c.requires.idle.settled.sound }

pub returns-in-None-clause-ready : goal.returns-in-None-clause-ready
returns-in-None-clause-ready g c = record { kept = c.requires.idle.kept; sound = c.requires.idle.settled.sound }

pub try_next-requires-clause-there : goal.try_next-requires-clause-there
try_next-requires-clause-there g c =
    (subst (λ xs. IsNextOpen xs c.args.self.now.ledger.cursor c.in-Some.rank) c.deref.ensures.value c.in-Some.ensures).there
