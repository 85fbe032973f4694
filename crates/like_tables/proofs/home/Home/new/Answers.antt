use Rattle.std.proofs.Common.{arith}
use Rattle.like_tables.proofs.AtHome.{IsTurned-new, is-odd}
use Rattle.like_tables.proofs.home.Home.new.Goals as goal

pub inverse-requires : goal.inverse-requires
inverse-requires c = is-odd c.args.seats (omega (arith, c.requires)) (omega (arith, c.ranges.seats))

pub invariant_of-result : goal.invariant_of-result
invariant_of-result c =
    IsTurned-new c.args.seats c.args.seat c.inverse.result c.requires (omega (arith, c.ranges.seats)) c.inverse.ensures
