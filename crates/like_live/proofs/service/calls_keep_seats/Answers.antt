use Rattle.like_live.proofs.Newly.{calls-keep-whole}
use Rattle.like_live.proofs.service.calls_keep_seats.Goals as goal

pub returns : goal.returns
returns c = calls-keep-whole
