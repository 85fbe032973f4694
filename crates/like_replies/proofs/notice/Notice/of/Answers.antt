use Rattle.like_replies.proofs.Summed.{refused-fits}
use Rattle.like_replies.proofs.notice.Notice.of.Goals as goal

pub refused_in-requires : goal.refused_in-requires
refused_in-requires c = refused-fits c.args.report.now.replies c.requires
