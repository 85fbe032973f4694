use Rattle.std.proofs.Common.{◌≡◌, ℕ, ◌<◌, true, drop, [], length, get_or, refl, ap, rules, sym, ◌∙◌, subst}
use Rattle.like_core.specs.Post.{answered, retired}
use Rattle.like_core.specs.WorkerState.{phase_of}
use Rattle.like_core.specs.declared.worker_state.WorkerState.TheVariants as state
use Rattle.like_tables.specs.UserTable.{UserTable}
use Rattle.like_tables.specs.Share.{submitter_of}
use Rattle.like_tables.specs.declared.held.Held.{Held}
use Rattle.like_seat.specs.Kept as kept
use Rattle.like_seat.specs.Kept.{IsKept}
use Rattle.like_seat.specs.StationView.{StationView}
use Rattle.like_seat.specs.Steps.{without_first}
use Rattle.like_roles.specs.declared.turn.Turn.TheVariants.{Try}
use Rattle.like_roles.specs.worker.Ledger.{HasSubmitters, IsSound, view_of}
use Rattle.like_roles.specs.worker.Judged.{IsJudged}
use Rattle.like_roles.specs.worker.Serve.{Runs}
use Rattle.like_roles.specs.worker.Turns.{acknowledges, retires, runs_stashed, tries_joined}
use Rattle.like_roles.specs.worker.Work.{worker_at}
use Rattle.like_roles.specs.worker.WorkerView.{IsNextOpen, TookAllEnds}
use Rattle.like_core.proofs.Lists.{first_of, none_first}
use Rattle.like_roles.proofs.Held.{settled-pop, sound-stopped, sound-tried, tried-joined, view_of-tried}
use Rattle.like_roles.proofs.worker.tasks.Work.joined_turn.Goals as goal

-- a station whose first stashed request was taken out, where it had none, is as before
unstashed : (s t : StationView Held) → s.stash.looks ≡ [] → t ≡ without_first s → t ≡ s
unstashed s t empty rest =
    let gone : drop 1 s.stash.looks ≡ s.stash.looks = ap (drop 1) empty ∙ sym empty in
    rest ∙ ap (λ xs. record s { stash = record s.stash { looks = xs } }) gone

pub run-requires-clause-idle : goal.run-requires-clause-idle
run-requires-clause-idle g c κs within =
    let p = g.P.Post.view c.args.post.now in
    let idle = c.requires.idle in
    let keeps = c.next_stashed.ensures.kept p idle.kept in
    record {
      kept = keeps;
      settled = (settled-pop (kept.view_of [] p c.args.self.now.tables) (kept.view_of [] p c.next_stashed.new.self)
          c.args.self.now.ledger c.in-Some.first idle.settled keeps.station (ap (kept.view_of [] p) c.next_stashed.ensures.rest)
          (sym c.next_stashed.ensures.first ∙ c.in-Some.is)).0;
    }

pub run-requires-clause-room : goal.run-requires-clause-room
run-requires-clause-room g c κs within =
    let p = g.P.Post.view c.args.post.now in
    let idle = c.requires.idle in
    (settled-pop (kept.view_of [] p c.args.self.now.tables) (kept.view_of [] p c.next_stashed.new.self)
    c.args.self.now.ledger c.in-Some.first idle.settled (c.next_stashed.ensures.kept p idle.kept).station
    (ap (kept.view_of [] p) c.next_stashed.ensures.rest) (sym c.next_stashed.ensures.first ∙ c.in-Some.is)).1

pub run-requires-clause-can : goal.run-requires-clause-can
run-requires-clause-can g c κs within =
    let p = g.P.Post.view c.args.post.now in
    let idle = c.requires.idle in
    record {
      running = search rules;
      own = (settled-pop (kept.view_of [] p c.args.self.now.tables) (kept.view_of [] p c.next_stashed.new.self)
          c.args.self.now.ledger c.in-Some.first idle.settled (c.next_stashed.ensures.kept p idle.kept).station
          (ap (kept.view_of [] p) c.next_stashed.ensures.rest) (sym c.next_stashed.ensures.first ∙ c.in-Some.is)).2;
      judged = subst (λ (t : UserTable). IsJudged t.share c.in-Some.first c.of-judged.result) c.users.ensures c.of-judged.ensures;
      prompt = search rules;
    }

pub returns-in-Some-clause-works : goal.returns-in-Some-clause-works
returns-in-Some-clause-works g c =
    let p = g.P.Post.view c.args.post.now in
    let d = c.args.self.now.ledger in
    let stashed = c.args.self.now.tables.stash.looks in
    runs_stashed c.in-Some.first (drop 1 stashed) c.requires.joined
    (first_of stashed c.in-Some.first (sym c.next_stashed.ensures.first ∙ c.in-Some.is)) refl
    (subst (λ t. Runs (view_of t d) c.in-Some.first true (worker_at (g.P.Post.view c.run.new.post) c.run.new.self))
    (ap (kept.view_of [] p) c.next_stashed.ensures.rest) c.run.ensures.ran)

pub returns-in-Some-clause-ready : goal.returns-in-Some-clause-ready
returns-in-Some-clause-ready g c = record { kept = c.run.ensures.idle.kept; sound = c.run.ensures.idle.settled.sound }

pub returns : goal.returns
returns g c =
    let p = g.P.Post.view c.args.post.now in
    let t = c.args.self.now.tables in
    let d = c.args.self.now.ledger in
    let after = c.try_next.new.self in
    let s = kept.view_of [] p t in
    let rank = c.in-Some-next_open.rank in
    let empty = none_first t.stash.looks (sym c.next_stashed.ensures.first ∙ c.in_default.is) in
    let same = unstashed s (kept.view_of [] p c.next_stashed.new.self) empty (ap (kept.view_of [] p) c.next_stashed.ensures.rest) in
    let as_before = ap (kept.view_of [] p) c.try_next.ensures.tables ∙ same in
    let next = subst (λ xs. IsNextOpen xs d.cursor rank) c.deref.ensures.value c.in-Some-next_open.ensures in
    record {
      ready = record {
        kept = subst (IsKept p) (sym c.try_next.ensures.tables) (c.next_stashed.ensures.kept p c.requires.idle.kept);
        sound = subst (λ (x : StationView Held). IsSound x after.ledger) (sym as_before)
            (sound-tried s d after.ledger rank c.requires.idle.settled
            (tried-joined s d rank c.requires.joined empty next.there) c.try_next.ensures.tried);
      };
      board = refl;
      works = tries_joined rank c.requires.joined empty next c.if-ending.false
          (c.try_next.ensures.answer
          ∙ ap (λ (s : StationView Held). Try (submitter_of s.last.share.workers s.last.share.worker rank)) same)
          (view_of-tried s (kept.view_of [] p after.tables) d after.ledger rank c.try_next.ensures.tried as_before);
    }

pub returns-in_default-next_open : goal.returns-in_default-next_open
returns-in_default-next_open g c =
    let b = g.P.Post.board c.args.post.now in
    let p = g.P.Post.view c.args.post.now in
    let t = c.args.self.now.tables in
    let d = c.args.self.now.ledger in
    let s = kept.view_of b p t in
    let empty = none_first t.stash.looks (sym c.next_stashed.ensures.first ∙ c.in_default.is) in
    let same = unstashed s (kept.view_of b p c.next_stashed.new.self) empty (ap (kept.view_of b p) c.next_stashed.ensures.rest) in
    let ends = c.retire.ensures.ends ∙ ap (λ (x : StationView Held). record x { post = retired x.post }) same in
    let all : TookAllEnds d.ended.items =
    subst (λ xs. (rank : ℕ) → rank < length xs → get_or xs rank true ≡ true) c.deref.ensures.value
    c.in_default-next_open.ensures in
    record {
      ready = record {
        kept = c.retire.ensures.kept;
        sound = sound-stopped s
            (kept.view_of (g.P.Post.board c.retire.new.post) (g.P.Post.view c.retire.new.post) c.retire.new.self) d state.Gone
            c.requires.idle.settled c.retire.ensures.kept.station ends;
      };
      board = ap (λ (x : StationView Held). x.board) ends;
      works = retires c.requires.joined empty all refl (ap (λ (x : StationView Held). view_of x d) ends);
    }

pub returns-then-ending : goal.returns-then-ending
returns-then-ending g c =
    let b = g.P.Post.board c.args.post.now in
    let p = g.P.Post.view c.args.post.now in
    let t = c.args.self.now.tables in
    let d = c.args.self.now.ledger in
    let s = kept.view_of b p t in
    let empty = none_first t.stash.looks (sym c.next_stashed.ensures.first ∙ c.in_default.is) in
    let same = unstashed s (kept.view_of b p c.next_stashed.new.self) empty (ap (kept.view_of b p) c.next_stashed.ensures.rest) in
    let stops = c.acknowledge.ensures.stops ∙ ap (λ (x : StationView Held). record x { post = answered x.post }) same in
    let rank = c.in-Some-next_open.rank in
    let next = subst (λ xs. IsNextOpen xs d.cursor rank) c.deref.ensures.value c.in-Some-next_open.ensures in
    record {
      ready = record {
        kept = c.acknowledge.ensures.kept;
        sound = sound-stopped s
            (kept.view_of (g.P.Post.board c.acknowledge.new.post) (g.P.Post.view c.acknowledge.new.post) c.acknowledge.new.self)
            d (state.Answered (phase_of p.state)) c.requires.idle.settled c.acknowledge.ensures.kept.station stops;
      };
      board = ap (λ (x : StationView Held). x.board) stops;
      works = acknowledges c.requires.joined empty (λ all. absurd (cc (all rank next.there, next.not_ended)))
          c.if-ending.true refl (ap (λ (x : StationView Held). view_of x d) stops);
    }

pub retire-requires-clause-kept : goal.retire-requires-clause-kept
retire-requires-clause-kept g c = c.next_stashed.ensures.kept (g.P.Post.view c.args.post.now) c.requires.idle.kept

pub acknowledge-requires-clause-kept : goal.acknowledge-requires-clause-kept
acknowledge-requires-clause-kept g c = c.next_stashed.ensures.kept (g.P.Post.view c.args.post.now) c.requires.idle.kept

pub try_next-requires-clause-ranks : goal.try_next-requires-clause-ranks
try_next-requires-clause-ranks g c =
    let p = g.P.Post.view c.args.post.now in
    subst (λ (s : StationView Held). HasSubmitters s.last.share c.args.self.now.ledger)
    (sym (ap (kept.view_of [] p) c.next_stashed.ensures.rest)) c.requires.idle.settled.sound.ranks

pub try_next-requires-clause-there : goal.try_next-requires-clause-there
try_next-requires-clause-there g c =
    (subst (λ xs. IsNextOpen xs c.args.self.now.ledger.cursor c.in-Some-next_open.rank) c.deref.ensures.value
    c.in-Some-next_open.ensures).there
