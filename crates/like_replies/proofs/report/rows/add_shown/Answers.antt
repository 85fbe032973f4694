use Rattle.std.proofs.Common.{rules, append_assoc}
use Rattle.std.proofs.lemmas.Result.{IfOk-equal}
use Rattle.like_replies.proofs.report.rows.add_shown.Goals as goal

pub returns-in-Liked : goal.returns-in-Liked
returns-in-Liked c = rw (c.in-Liked.is, ← c.liked.ensures c.args.names.now) c.add.ensures

pub add_seen-requires : goal.add_seen-requires
add_seen-requires c = rw c.in-Seen.is at c.requires

pub returns-in-Seen : goal.returns-in-Seen
returns-in-Seen c = rw c.in-Seen.is c.add_seen.ensures

pub refusal-requires : goal.refusal-requires
refusal-requires c = rw c.in-Refused.is at c.requires

pub returns-in_ok-add-in-Refused : goal.returns-in_ok-add-in-Refused
returns-in_ok-add-in-Refused c =
    rw (c.in-Refused.is, ← c.refusal.ensures c.args.names.now) (search (rules, IfOk-equal, append_assoc))
