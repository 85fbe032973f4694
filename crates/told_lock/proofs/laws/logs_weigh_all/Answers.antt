use Rattle.told_lock.proofs.Weights.{weigh-alike}
use Rattle.told_lock.proofs.laws.logs_weigh_all.Goals as goal

pub returns : goal.returns
returns g c = λ first last told seen weight leads. weigh-alike weight leads.order told leads.own
