use Rattle.like_shared.proofs.Strict.{shared-strict}
use Rattle.like_shared.proofs.laws.shared_services_are_strict.Goals as goal

pub returns : goal.returns
returns c =
    shared-strict c.services_are_strict.ensures c.histories_are_counted.ensures c.logs_weigh_all.ensures
