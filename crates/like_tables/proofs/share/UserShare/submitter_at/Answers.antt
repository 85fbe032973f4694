use Rattle.std.proofs.Common.{◌+◌, ◌*◌, ◌<◌, arith, mul-le-mul_right}
use Rattle.like_tables.proofs.share.UserShare.submitter_at.Goals as goal

pub overflow_cast-result : goal.overflow_cast-result
overflow_cast-result c =
    let share = c.self.inside in
    let there : share.worker + share.workers * c.args.rank < share.submitters = rw (← c.self.view_is) at c.requires in
    omega (
      arith,
      c.self.invariant.fits,
      mul-le-mul_right {m = 1} {n = share.workers} c.args.rank c.self.invariant.lawful.workers,
    )
