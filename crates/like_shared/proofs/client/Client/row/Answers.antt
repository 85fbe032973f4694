use Rattle.std.proofs.Common.{arith}
use Rattle.like_shared.proofs.Clients.{client-after, logged-after, pass-ready, pass-there}
use Rattle.like_shared.proofs.client.Client.row.Goals as goal

pub index_mut-requires : goal.index_mut-requires
index_mut-requires g c =
    let there = pass-there c.args.service.now c.args.self.now c.args.seat c.requires.client c.requires.seat in
    omega (arith, there, c.args.self.now.seats.ok.0)

pub try_row-requires : goal.try_row-requires
try_row-requires g c =
    pass-ready c.args.service.now c.args.self.now c.args.seat c.requires.client c.requires.seat c.index.result.now
    c.index_mut.result.now c.index.ensures c.index_mut.ensures.value

pub returns-clause-client : goal.returns-clause-client
returns-clause-client g c =
    client-after c.args.service.now c.args.self.now c.args.seat c.requires.client c.requires.seat c.index.result.now
    c.try_row.new.pass c.index.ensures c.try_row.ensures.ready

pub returns-clause-log : goal.returns-clause-log
returns-clause-log g c =
    logged-after c.args.service.now c.args.self.now c.args.seat c.requires.client c.requires.seat
    c.index_mut.result.now c.try_row.new.pass c.index_mut.ensures.value c.try_row.result
    (λ told. g.Q.SeatRow.deeds c.args.row.now told c.try_row.new.places) c.try_row.ensures.log c.try_row.ensures.seen c.try_row.ensures.free
    c.try_row.ensures.held
