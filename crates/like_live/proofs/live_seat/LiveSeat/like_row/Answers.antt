use Rattle.std.proofs.Common.{refl}
use Rattle.like_live.specs.LikeRow.{between, gone, runs}
use Rattle.like_live.proofs.Moving.{same_seat_both}
use Rattle.like_live.proofs.live_seat.LiveSeat.like_row.Goals as goal

pub returns-in-Runs-clause-case : goal.returns-in-Runs-clause-case
returns-in-Runs-clause-case g c = runs c.turn.new.self c.in-Runs.ensures.case c.like_all.ensures.likes

pub returns-in-Runs-clause-few : goal.returns-in-Runs-clause-few
returns-in-Runs-clause-few g c = c.like_all.ensures.few

pub returns-in-Runs-clause-keeps : goal.returns-in-Runs-clause-keeps
returns-in-Runs-clause-keeps g c = c.like_all.ensures.keeps

pub returns-in-Runs-clause-same : goal.returns-in-Runs-clause-same
returns-in-Runs-clause-same g c =
    same_seat_both c.args.self.now c.turn.new.self c.like_all.new.self c.turn.ensures.same c.like_all.ensures.same

pub returns-in-Between-clause-case : goal.returns-in-Between-clause-case
returns-in-Between-clause-case g c = between c.in-Between.ensures.case refl

pub returns-in-Between-clause-keeps : goal.returns-in-Between-clause-keeps
returns-in-Between-clause-keeps g c = c.turn.ensures.keeps

pub returns-in-Between-clause-same : goal.returns-in-Between-clause-same
returns-in-Between-clause-same g c = c.turn.ensures.same

pub returns-in-Gone-clause-case : goal.returns-in-Gone-clause-case
returns-in-Gone-clause-case g c = gone c.in-Gone.ensures.case refl

pub returns-in-Gone-clause-keeps : goal.returns-in-Gone-clause-keeps
returns-in-Gone-clause-keeps g c = c.turn.ensures.keeps

pub returns-in-Gone-clause-same : goal.returns-in-Gone-clause-same
returns-in-Gone-clause-same g c = c.turn.ensures.same

pub like_all-requires-clause-runs : goal.like_all-requires-clause-runs
like_all-requires-clause-runs g c = c.turn.ensures.runs c.in-Runs.is

pub like_all-requires-clause-live : goal.like_all-requires-clause-live
like_all-requires-clause-live g c = c.turn.ensures.keeps
