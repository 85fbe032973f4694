use Rattle.like_replies.proofs.report.section.add_answers.Goals as goal

pub returns : goal.returns
returns c = c.add_replies.ensures c.args.submitter c.args.before c.reply_head-head.ensures
