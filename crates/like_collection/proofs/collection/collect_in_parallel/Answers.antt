use Rattle.std.proofs.Common.{rules, ◌<◌, length}
use Rattle.like_promises.specs.Collected.{rows_of}
use Rattle.like_collection.proofs.Parts.{IsCollected-parts, parts-many}
use Rattle.like_collection.proofs.collection.collect_in_parallel.Goals as goal

pub join-requires-clause-full : goal.join-requires-clause-full
join-requires-clause-full g c =
    let some : 0 < length c.args.logs.now = search rules in
    parts-many c.args.sizes.now c.args.logs.now c.in-Ok.parts.items some c.in-Ok.ensures

pub returns-in_ok-join-in-Ok : goal.returns-in_ok-join-in-Ok
returns-in_ok-join-in-Ok g c =
    let some : 0 < length c.args.logs.now = search rules in
    IsCollected-parts c.args.sizes.now c.args.logs.now c.in-Ok.parts.items some c.in-Ok.ensures
    (rows_of c.in_ok-join-in-Ok.field-0) c.in_ok-join-in-Ok.ensures.count c.in_ok-join-in-Ok.ensures.rows
