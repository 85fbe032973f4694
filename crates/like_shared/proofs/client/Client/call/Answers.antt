use Rattle.std.proofs.Common.{[], ◌∷◌, arith}
use Rattle.like_shared.proofs.Clients.{client-after, logged-after, pass-ready, pass-there}
use Rattle.like_shared.proofs.client.Client.call.Goals as goal

pub index_mut-requires : goal.index_mut-requires
index_mut-requires g c =
    let there = pass-there c.args.service.now c.args.self.now c.args.seat c.requires.client c.requires.seat in
    omega (arith, there, c.args.self.now.seats.ok.0)

pub try_call-requires : goal.try_call-requires
try_call-requires g c =
    pass-ready c.args.service.now c.args.self.now c.args.seat c.requires.client c.requires.seat c.index.result.now
    c.index_mut.result.now c.index.ensures c.index_mut.ensures.value

pub returns-clause-client : goal.returns-clause-client
returns-clause-client g c =
    client-after c.args.service.now c.args.self.now c.args.seat c.requires.client c.requires.seat c.index.result.now
    c.try_call.new.pass c.index.ensures c.try_call.ensures.ready

pub returns-clause-log : goal.returns-clause-log
returns-clause-log g c =
    logged-after c.args.service.now c.args.self.now c.args.seat c.requires.client c.requires.seat
    c.index_mut.result.now c.try_call.new.pass c.index_mut.ensures.value c.try_call.result
    (λ told. g.Q.SeatCall.deed c.args.call.now told ∷ []) c.try_call.ensures.log c.try_call.ensures.seen c.try_call.ensures.free
    c.try_call.ensures.held
