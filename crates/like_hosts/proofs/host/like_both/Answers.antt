use Rattle.std.proofs.Common.{arith, rules}
use Rattle.std.proofs.lemmas.Grind.{common_steps}
use Rattle.like_hosts.proofs.Likes.{only-none}
use Rattle.like_hosts.proofs.host.like_both.Goals as goal

pub returns-clause-likes : goal.returns-clause-likes
returns-clause-likes g c =
    let same = c.retire_all.ensures.likes.pages c.args.page in grind (arith, common_steps, same)

pub returns-clause-only : goal.returns-clause-only
returns-clause-only g c = search (rules, only-none)
