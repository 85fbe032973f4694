use Rattle.std.proofs.Common.{◌∙◌, List, [], ℕ, map, refl, sym, ap, arith}
use Rattle.like_tables.specs.Share.{Share}
use Rattle.like_roles.specs.worker.Work.{worker_at}
use Rattle.like_roles.specs.worker.WorkerView.{WorkerView}
use Rattle.like_crew.specs.Server.{ServerView}
use Rattle.like_crew.specs.ServerTurns.{ServerTurns, tries_none}
use Rattle.like_crew.proofs.servers.Agreeing.{agree-turn, none-pending, share-given, works-turn}
use Rattle.like_crew.proofs.servers.Modelled.{server-modelled}
use Rattle.like_crew.proofs.servers.OnlyOpen.{takes-none}
use Rattle.like_crew.proofs.servers.Posts.{turns-whose}
use Rattle.like_crew.proofs.servers.Trying.{HasTried, agree-given, goes-given, may-give, never-retired, place-there, takes-given, turns-given}
use Rattle.like_crew.proofs.crew.serving.Serving.turn.Goals as goal

pub index_mut-requires : goal.index_mut-requires
index_mut-requires g c =
    let u : WorkerView = worker_at (g.P.Post.view c.args.post.now) c.args.self.now.work in
    let v : WorkerView = worker_at (g.P.Post.view c.turn.new.post) c.turn.new.self in
    let view = g.I.Inbox.view in
    let lists = c.args.self.now.inboxes.items in
    let h : HasTried u v (map view lists) c.turn.result c.tried-place.result c.in-Try.submitter =
    record {
      agree = c.requires.agree;
      turn = c.turn.ensures.case;
      takes = c.turn.ensures.takes;
      follows = c.turn.ensures.follows;
      tried = c.in-Try.is;
      pends = c.in-Try.ensures.pending;
      told = c.tried-place.ensures;
    } in
    omega (arith, place-there view u v lists c.turn.result c.tried-place.result c.in-Try.submitter h, c.args.self.now.inboxes.ok.0)

pub give-requires-clause-next : goal.give-requires-clause-next
give-requires-clause-next g c κs within =
    let u : WorkerView = worker_at (g.P.Post.view c.args.post.now) c.args.self.now.work in
    let v : WorkerView = worker_at (g.P.Post.view c.turn.new.post) c.turn.new.self in
    let view = g.I.Inbox.view in
    let lists = c.args.self.now.inboxes.items in
    let h : HasTried u v (map view lists) c.turn.result c.tried-place.result c.in-Try.submitter =
    record {
      agree = c.requires.agree;
      turn = c.turn.ensures.case;
      takes = c.turn.ensures.takes;
      follows = c.turn.ensures.follows;
      tried = c.in-Try.is;
      pends = c.in-Try.ensures.pending;
      told = c.tried-place.ensures;
    } in
    may-give view u v lists c.turn.result c.tried-place.result c.in-Try.submitter h c.index_mut.result.now
    c.index_mut.ensures.value c.take_with-taken.new.self c.take_with-taken.result c.take_with-taken.ensures.handed

pub returns-in-Try : goal.returns-in-Try
returns-in-Try g c =
    let u : WorkerView = worker_at (g.P.Post.view c.args.post.now) c.args.self.now.work in
    let v : WorkerView = worker_at (g.P.Post.view c.turn.new.post) c.turn.new.self in
    let w : WorkerView = worker_at (g.P.Post.view c.give.new.post) c.give.new.self in
    let view = g.I.Inbox.view in
    let lists = c.args.self.now.inboxes.items in
    let place = c.tried-place.result in
    let h : HasTried u v (map view lists) c.turn.result place c.in-Try.submitter =
    record {
      agree = c.requires.agree;
      turn = c.turn.ensures.case;
      takes = c.turn.ensures.takes;
      follows = c.turn.ensures.follows;
      tried = c.in-Try.is;
      pends = c.in-Try.ensures.pending;
      told = c.tried-place.ensures;
    } in
    let i = c.index_mut.result.now in
    let value = c.index_mut.ensures.value in
    let j = c.take_with-taken.new.self in
    let took = c.take_with-taken.result in
    let taken = c.take_with-taken.ensures in
    let gives = c.give.ensures.case in
    let has = c.give.ensures.takes in
    let share = share-given v w place took h.told has ∙ h.takes.share in
    let case = λ (board : List ℕ).
    turns-given view u v lists c.turn.result place c.in-Try.submitter h i value g.I.Inbox.opened board w j took
    c.give.result taken.handed gives has taken.opened taken.nothing in
    let agree = agree-given view u v lists c.turn.result place c.in-Try.submitter h i value g.I.Inbox.opened [] w j took
    c.give.result taken.handed gives has in
    record {
      serving = record {
        ready = c.give.ensures.ready;
        untried = c.give.ensures.settled;
        workers = c.requires.workers ∙ sym (ap (λ (s : Share). s.workers) share);
        agree = agree;
      };
      board = c.give.ensures.board ∙ c.turn.ensures.board;
      case = case;
      modelled = λ board. server-modelled c.give.result _ _ c.requires.agree (case board);
      only_open = λ only board.
          takes-given view u v lists c.turn.result place c.in-Try.submitter h i value g.I.Inbox.opened board w j took
          c.give.result taken.handed gives has (taken.only_open only);
      goes_on = λ board.
          goes-given view u v lists c.turn.result place c.in-Try.submitter h i value g.I.Inbox.opened board w j took
          c.give.result taken.handed gives has c.give.ensures.follows;
      retired = λ e. absurd (never-retired v w took c.give.result gives e);
    }

pub returns-in_default : goal.returns-in_default
returns-in_default g c =
    let u : WorkerView = worker_at (g.P.Post.view c.args.post.now) c.args.self.now.work in
    let v : WorkerView = worker_at (g.P.Post.view c.turn.new.post) c.turn.new.self in
    let lists = c.args.self.now.inboxes.items in
    let inboxes = map g.I.Inbox.view lists in
    let opened = map g.I.Inbox.opened lists in
    let before : List ℕ → ServerView = λ board. record { board = board; worker = u; inboxes = inboxes; opened = opened } in
    let after : List ℕ → ServerView = λ board. record { board = board; worker = v; inboxes = inboxes; opened = opened } in
    let takes = c.turn.ensures.takes in
    let none = none-pending c.turn.result v c.turn.ensures.pending c.in_default.not-Try in
    let case : (board : List ℕ) → ServerTurns c.turn.result (before board) (after board) =
    λ board. tries_none c.turn.ensures.case none refl in
    record {
      serving = record {
        ready = c.turn.ensures.ready;
        untried = none;
        workers = c.requires.workers ∙ sym (ap (λ (s : Share). s.workers) takes.share);
        agree = agree-turn u v inboxes c.turn.result c.turn.ensures.case takes c.requires.agree;
      };
      board = c.turn.ensures.board;
      case = case;
      modelled = λ board. server-modelled c.turn.result (before board) (after board) c.requires.agree (case board);
      only_open = λ only board. takes-none (before board) v;
      goes_on = λ board. record {
        share = takes.share;
        notes = takes.notes;
        whose = turns-whose u c.turn.result v c.turn.ensures.case;
        board = refl;
        inboxes = refl;
        works = λ workload. works-turn workload (before board) (after board) takes (c.turn.ensures.follows workload) refl;
      };
      retired = c.turn.ensures.retired;
    }
