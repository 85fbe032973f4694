use Rattle.std.proofs.Common.{codes}
use Rattle.like_replies.proofs.Summed.{answered-fits, refused-fits}
use Rattle.like_replies.proofs.summary.Summary.of.Goals as goal

pub refused_in-requires : goal.refused_in-requires
refused_in-requires c = refused-fits c.args.report.now.replies c.requires

pub answered-requires : goal.answered-requires
answered-requires c = answered-fits (codes "liked") c.args.report.now.replies c.requires

pub answered-requires-2 : goal.answered-requires-2
answered-requires-2 c = answered-fits (codes "seen") c.args.report.now.replies c.requires

pub answered-requires-3 : goal.answered-requires-3
answered-requires-3 c = answered-fits (codes "unknown-user") c.args.report.now.replies c.requires

pub answered-requires-4 : goal.answered-requires-4
answered-requires-4 c = answered-fits (codes "other-home") c.args.report.now.replies c.requires

pub answered-requires-5 : goal.answered-requires-5
answered-requires-5 c = answered-fits (codes "unknown-page") c.args.report.now.replies c.requires
