use Rattle.std.proofs.Common.{◌≡◌, ◌∙◌, ◌++◌, ◌∷◌, [], length, map, arith}
use Rattle.std.proofs.lemmas.Iterator.Adapters.{YieldsList-from_vec}
use Rattle.std.proofs.lemmas.Iterator.Consumers.{YieldsList-turn}
use Rattle.std.proofs.lemmas.List.{length-map, map_push}
use Rattle.std.specs.declared.thread.PromisedHandle.{PromisedHandle}
use Rattle.like_run.specs.declared.threads.worker.Owes.{Owes}
use Rattle.like_run.specs.declared.threads.worker.Served.{Served}
use Rattle.like_crew.specs.Server.{ServerView}
use Rattle.like_crew.proofs.servers.Leaving.{logs-left, one-left, seats-left}
use Rattle.like_run.proofs.threads.coordinator.join_all.Goals as goal

abbrev first_of : PromisedHandle Served Owes → ServerView
first_of thread = thread.promise.server.value

pub push_reserved-requires : goal.push_reserved-requires
push_reserved-requires g c =
    let l = c.loop-thread in
    let from = c.into_iter-thread-iterator.ensures.into_iter_gives in
    let all = YieldsList-from_vec {s = c.into_iter-thread-iterator.result} c.args.threads.items from.0
    (from.1 ∙ c.args.threads.ok.0) in
    let turn = YieldsList-turn all l.yielded _ l.yielded_by _ c.next.new.self c.in-Some.thread c.in-Some.is
    c.next.ensures.steps in
    let size : length l.logs.items ≡ length l.yielded =
    logs-left (map first_of l.yielded) l.logs.items l.seats.items l.invariant.left
    ∙ length-map l.yielded first_of in
    omega (arith, turn.0, size, l.logs.ok.0, l.invariant.logs_room, c.requires.logs.1)

pub push_reserved-requires-in-Left : goal.push_reserved-requires-in-Left
push_reserved-requires-in-Left g c =
    let l = c.loop-thread in
    let from = c.into_iter-thread-iterator.ensures.into_iter_gives in
    let all = YieldsList-from_vec {s = c.into_iter-thread-iterator.result} c.args.threads.items from.0
    (from.1 ∙ c.args.threads.ok.0) in
    let turn = YieldsList-turn all l.yielded _ l.yielded_by _ c.next.new.self c.in-Some.thread c.in-Some.is
    c.next.ensures.steps in
    let size : length l.seats.items ≡ length l.yielded =
    seats-left (map first_of l.yielded) l.logs.items l.seats.items l.invariant.left
    ∙ length-map l.yielded first_of in
    omega (arith, turn.0, size, l.seats.ok.0, l.invariant.seats_room, c.requires.seats.1)

pub loop-thread-preserved : goal.loop-thread-preserved
loop-thread-preserved g c =
    let l = c.loop-thread in
    record {
      logs_room = omega (arith, c.push_reserved.ensures.capacity, l.invariant.logs_room);
      seats_room = omega (arith, c.push_reserved-in-Left.ensures.capacity, l.invariant.seats_room);
      left = one-left (map first_of l.yielded)
          (map first_of (l.yielded ++ c.in-Some.thread ∷ [])) l.logs.items c.push_reserved.new.self.items l.seats.items
          c.push_reserved-in-Left.new.self.items (first_of c.in-Some.thread) c.in-Left.log c.in-Left.seat
          (map_push first_of l.yielded c.in-Some.thread) c.push_reserved.ensures.items
          c.push_reserved-in-Left.ensures.items l.invariant.left c.in-Left.ensures;
    }
