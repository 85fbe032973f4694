use Rattle.std.proofs.Common.{◌≡◌, length, map, sym, ap, subst}
use Rattle.like_tables.specs.Share.{Share, share_of}
use Rattle.like_tables.specs.UserTable.{UserTable, table_without_likes}
use Rattle.like_crew.specs.Server.{AreOwnPlans}
use Rattle.like_crew.proofs.servers.Finishing.{agree-new}
use Rattle.like_crew.proofs.crew.serving.Serving.new.Goals as goal

-- the workers among which a table without likes is shared
workers-new : (t : UserTable) (s : Share) → t ≡ table_without_likes s → s.workers ≡ t.share.workers
workers-new t s new = sym (ap (λ (u : UserTable). u.share.workers) new)

pub returns-clause-serving : goal.returns-clause-serving
returns-clause-serving g c = λ post is.
    let new = c.in_ok-new.ensures.new post is in
    record {
      ready = c.in_ok-new.ensures.ready post is;
      untried = new.pending;
      workers = workers-new _
          (share_of c.args.setup.now.users (length c.args.terms.sizes.now) c.args.setup.now.workers c.args.number)
          new.last;
      agree = agree-new c.args.setup.now c.args.terms c.args.number post _
          (map g.I.Inbox.view c.args.inboxes.items) c.requires.is_worker is c.requires.inboxes new;
    }

pub returns-clause-works : goal.returns-clause-works
returns-clause-works g c = λ post is workload of own.
    let share = ap (λ (u : UserTable). u.share) (c.in_ok-new.ensures.new post is).last in
    record {
      plans = subst (λ (s : Share). AreOwnPlans workload s.workers s.worker (map g.I.Inbox.view c.args.inboxes.items))
          (sym share) own;
      follows = λ _. c.in_ok-new.ensures.follows post is workload of;
    }
