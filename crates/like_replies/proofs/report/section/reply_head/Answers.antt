use Rattle.like_replies.proofs.report.section.reply_head.Goals as goal

pub returns : goal.returns
returns c = rw (c.text.ensures, c.start_reply-start.ensures.start) at c.new.ensures
