use Rattle.std.proofs.Common.{◌≡◌, All, map}
use Rattle.like_queue.specs.Inbox.{view_of}
use Rattle.like_promises.specs.Workload.{lists_of}
use Rattle.like_crew.specs.Server.{untouched}
use Rattle.like_crew.proofs.crew.list_inboxes.Given as goal

abbrev pub invariant-loop-plan : goal.invariant-loop-plan
invariant-loop-plan l = record {
  untouched : map view_of l.inboxes.items ≡ map untouched (lists_of l.yielded);
  closed : All (λ inbox. inbox.opened ≡ 0) l.inboxes.items;
}
