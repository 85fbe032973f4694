use Rattle.like_live.proofs.Newly.{opened-whole}
use Rattle.like_live.proofs.service.Service.open_with.Goals as goal

pub returns-in-Ok-clause-whole : goal.returns-in-Ok-clause-whole
returns-in-Ok-clause-whole g c = opened-whole _ _ _ c.in-Ok.ensures.opened
