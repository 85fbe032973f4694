use Rattle.std.proofs.Common.{refl, sym}
use Rattle.like_live.specs.Batch.{has_no_call}
use Rattle.like_live.proofs.Batches.{row-answered}
use Rattle.like_live.proofs.live_seat.LiveSeat.answer.Goals as goal

pub returns-in-Ok-clause-row : goal.returns-in-Ok-clause-row
returns-in-Ok-clause-row g c =
    row-answered g.R.Row.asks g.R.Row.tells c.args.self.now c.make.new.self c.args.row.now c.in-Ok.call c.make.new.told
    c.make.result (sym c.in-Ok.ensures) c.make.ensures.made

pub returns-in-Err-clause-row : goal.returns-in-Err-clause-row
returns-in-Err-clause-row g c = has_no_call (sym c.in-Err.ensures) refl refl
