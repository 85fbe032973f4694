use Rattle.std.proofs.Common.{arith, true}
use Rattle.std.proofs.lemmas.Result.{MatchResult-weaker}
use Rattle.like_shared.proofs.Clients.{client-after, free-before, held-same, held-set, logs-same, pass-ready, pass-there}
use Rattle.like_shared.proofs.client.Client.lock.Goals as goal

pub index_mut-requires : goal.index_mut-requires
index_mut-requires c =
    let there = pass-there c.args.service.now c.args.self.now c.args.seat c.requires.client c.requires.seat in
    omega (arith, there, c.args.self.now.seats.ok.0)

pub try_lock-requires : goal.try_lock-requires
try_lock-requires c =
    pass-ready c.args.service.now c.args.self.now c.args.seat c.requires.client c.requires.seat c.index.result.now
    c.index_mut.result.now c.index.ensures c.index_mut.ensures.value

pub returns-clause-client : goal.returns-clause-client
returns-clause-client c =
    client-after c.args.service.now c.args.self.now c.args.seat c.requires.client c.requires.seat c.index.result.now
    c.try_lock.new.pass c.index.ensures c.try_lock.ensures.ready

pub returns-clause-free : goal.returns-clause-free
returns-clause-free c =
    free-before c.args.service.now c.args.self.now c.args.seat c.requires.client c.requires.seat c.index_mut.result.now
    c.try_lock.result c.index_mut.ensures.value c.try_lock.ensures.free

pub returns-clause-logs : goal.returns-clause-logs
returns-clause-logs c =
    logs-same c.args.service.now c.args.self.now c.args.seat c.requires.client c.requires.seat c.index_mut.result.now
    c.try_lock.new.pass c.index_mut.ensures.value c.try_lock.ensures.log c.try_lock.ensures.seen

pub returns-clause-held : goal.returns-clause-held
returns-clause-held c =
    let s = c.args.service.now in
    let before = c.args.self.now in
    MatchResult-weaker c.try_lock.result c.try_lock.ensures.held
    (λ _ held. held-set s before c.args.seat c.requires.client c.requires.seat c.try_lock.new.pass true held)
    (λ _ same.
    held-same s before c.args.seat c.requires.client c.requires.seat c.index_mut.result.now c.try_lock.new.pass
    c.index_mut.ensures.value same)
