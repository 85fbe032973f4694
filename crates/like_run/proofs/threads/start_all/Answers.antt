use Rattle.std.proofs.Common.{◌≤◌, ◌∙◌, true≢false, length, subst, sym}
use Rattle.like_run.proofs.Started.{enough-threads}
use Rattle.like_run.proofs.threads.start_all.Goals as goal

pub start_workers-requires-clause-none : goal.start_workers-requires-clause-none
start_workers-requires-clause-none g c κs within = c.requires.workers.0

pub start_workers-requires-clause-room : goal.start_workers-requires-clause-room
start_workers-requires-clause-room g c κs within = c.requires.workers.1

pub start_submitters-requires-clause-new : goal.start_submitters-requires-clause-new
start_submitters-requires-clause-new g c κs within = c.requires.new

pub start_submitters-requires-clause-none : goal.start_submitters-requires-clause-none
start_submitters-requires-clause-none g c κs within = c.requires.submitters.0

pub start_submitters-requires-clause-room : goal.start_submitters-requires-clause-room
start_submitters-requires-clause-room g c κs within = c.requires.submitters.1

pub returns-then-start_workers-clause-servers : goal.returns-then-start_workers-clause-servers
returns-then-start_workers-clause-servers g c = λ _. c.start_workers.ensures.servers c.if-start_workers.true

pub returns-then-start_workers-clause-enough : goal.returns-then-start_workers-clause-enough
returns-then-start_workers-clause-enough g c = λ all.
    enough-threads c.start_workers.new.threads.items c.args.servers.items c.len.result c.saturating_sub-left.result
    c.args.most (length c.args.ends.items) (c.start_workers.ensures.servers c.if-start_workers.true)
    (c.len.ensures ∙ c.args.servers.ok.0) c.saturating_sub-left.ensures c.start_workers.ensures.few
    (subst (λ n. n ≤ c.saturating_sub-left.result) (c.start_submitters.ensures.many all) c.start_submitters.ensures.few)

pub returns-else-start_workers-clause-enough : goal.returns-else-start_workers-clause-enough
returns-else-start_workers-clause-enough g c = λ all.
    absurd (true≢false (sym all ∙ c.if-start_workers.false))
