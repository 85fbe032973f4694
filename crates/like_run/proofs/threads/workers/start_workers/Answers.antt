use Rattle.std.proofs.Common.{◌≡◌, ◌<◌, ◌≤◌, ◌∙◌, ◌++◌, ◌∷◌, [], ℕ, List, length, map, subst, sym, ap, arith}
use Rattle.std.specs.List.{All}
use Rattle.std.proofs.lemmas.Iterator.Adapters.{YieldsList-from_vec}
use Rattle.std.proofs.lemmas.Iterator.Consumers.{YieldsList-end, YieldsList-turn}
use Rattle.std.proofs.lemmas.List.{length_push, map-id, map_push}
use Rattle.std.proofs.lemmas.List.Elements.{All-append}
use Rattle.std.specs.declared.thread.PromisedHandle.{PromisedHandle}
use Rattle.like_run.specs.declared.threads.worker.Owes.{Owes}
use Rattle.like_run.specs.declared.threads.worker.Served.{Served}
use Rattle.like_crew.specs.Server.{ServerView}
use Rattle.like_crew.proofs.servers.Leaving.{all-one}
use Rattle.like_run.proofs.Started.{as-many, first_of}
use Rattle.like_run.proofs.threads.workers.start_workers.Goals as goal

abbrev start_of : PromisedHandle Served Owes → ℕ
start_of thread = thread.promise.start.now.id

-- the servers with which the threads began, of which there is one more
servers-more : (old new : List (PromisedHandle Served Owes)) (thread : PromisedHandle Served Owes)
    (servers : List ServerView) (server : ServerView)
    → new ≡ old ++ thread ∷ []
    → map first_of old ≡ servers
    → first_of thread ≡ server → map first_of new ≡ servers ++ server ∷ []
servers-more old new thread servers server pushed before first =
    ap (map first_of) pushed ∙ map_push first_of old thread ∙ ap (λ xs. xs ++ first_of thread ∷ []) before
    ∙ ap (λ s. servers ++ s ∷ []) first

-- one thread more is no more than there may be
few-more : (old new : List (PromisedHandle Served Owes)) (thread : PromisedHandle Served Owes) (worker many most : ℕ)
    → new ≡ old ++ thread ∷ []
    → worker ≡ many
    → many ≡ length old
    → worker < most
    → length new ≤ most
few-more old new thread worker many most pushed same sized below =
    omega (arith, ap length pushed, length_push old thread, same, sized, below)

pub push_reserved-requires : goal.push_reserved-requires
push_reserved-requires g c =
    let l = c.loop-server in
    let from = c.into_iter-server-iterator.ensures.into_iter_gives in
    let all = YieldsList-from_vec {s = c.into_iter-server-iterator.result} c.args.servers.items from.0
    (from.1 ∙ c.args.servers.ok.0) in
    let turn = YieldsList-turn all l.yielded _ l.yielded_by _ c.next.new.self c.in-Some.server c.in-Some.is
    c.next.ensures.steps in
    omega (
      arith,
      turn.0,
      as-many l.threads.items l.yielded l.invariant.servers,
      l.threads.ok.0,
      l.invariant.room,
      c.requires.room,
    )

pub returns-clause-servers : goal.returns-clause-servers
returns-clause-servers g c = λ started.
    let l = c.loop-server in
    let from = c.into_iter-server-iterator.ensures.into_iter_gives in
    let all = YieldsList-from_vec {s = c.into_iter-server-iterator.result} c.args.servers.items from.0
    (from.1 ∙ c.args.servers.ok.0) in
    let end = YieldsList-end all l.yielded _ l.yielded_by _ c.next.new.self c.in-None.is c.next.ensures.steps in
    l.invariant.servers ∙ sym (map-id l.yielded) ∙ end.0

pub loop-server-preserved : goal.loop-server-preserved
loop-server-preserved g c =
    let l = c.loop-server in
    let started = c.in-Some-start_worker in
    let thread : PromisedHandle Served Owes = started.thread in
    let pushed : c.push_reserved.new.self.items ≡ l.threads.items ++ thread ∷ [] = c.push_reserved.ensures.items in
    let Told : PromisedHandle Served Owes → Type 0 = λ t. start_of t ≡ c.args.shared.now.start.now.id in
    record {
      few = few-more l.threads.items c.push_reserved.new.self.items thread c.len-worker.result _ c.args.most pushed
          c.len-worker.ensures l.threads.ok.0 started.ensures.few;
      room = omega (arith, c.push_reserved.ensures.capacity, l.invariant.room);
      told = subst (All Told) (sym pushed)
          (All-append Told l.threads.items (thread ∷ []) l.invariant.told (all-one Told thread started.ensures.told));
      servers = servers-more l.threads.items c.push_reserved.new.self.items thread l.yielded c.in-Some.server pushed
          l.invariant.servers started.ensures.server;
    }

pub returns-clause-told : goal.returns-clause-told
returns-clause-told g c = c.loop-server.invariant.told

pub returns-clause-few : goal.returns-clause-few
returns-clause-few g c = c.loop-server.invariant.few
