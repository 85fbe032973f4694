use Rattle.std.proofs.Common.{[], arith, append-nil, false, sym, ◌∙◌}
use Rattle.like_shared.specs.Passes.{seen_at}
use Rattle.like_shared.proofs.Clients.{client-after, held-set, logs-same, pass-ready, pass-there}
use Rattle.like_shared.proofs.client.Client.unlock.Goals as goal

pub index_mut-requires : goal.index_mut-requires
index_mut-requires c =
    let there = pass-there c.args.service.now c.args.self.now c.args.seat c.requires.client c.requires.seat in
    omega (arith, there, c.args.self.now.seats.ok.0)

pub unlock-requires : goal.unlock-requires
unlock-requires c =
    pass-ready c.args.service.now c.args.self.now c.args.seat c.requires.client c.requires.seat c.index.result.now
    c.index_mut.result.now c.index.ensures c.index_mut.ensures.value

pub returns-clause-client : goal.returns-clause-client
returns-clause-client c =
    client-after c.args.service.now c.args.self.now c.args.seat c.requires.client c.requires.seat c.index.result.now
    c.unlock.new.pass c.index.ensures c.unlock.ensures.ready

pub returns-clause-logs : goal.returns-clause-logs
returns-clause-logs c =
    logs-same c.args.service.now c.args.self.now c.args.seat c.requires.client c.requires.seat c.index_mut.result.now
    c.unlock.new.pass c.index_mut.ensures.value c.unlock.ensures.log
    ([], c.unlock.ensures.seen ∙ sym (append-nil (seen_at c.index_mut.result.now)))

pub returns-clause-held : goal.returns-clause-held
returns-clause-held c =
    held-set c.args.service.now c.args.self.now c.args.seat c.requires.client c.requires.seat c.unlock.new.pass false
    c.unlock.ensures.held
