use Rattle.like_live.proofs.Calling.{Moves-leaves}
use Rattle.like_live.proofs.live_seat.LiveSeat.turn.Goals as goal

pub returns-clause-case : goal.returns-clause-case
returns-clause-case g c = c.advance.ensures.moves

pub returns-clause-keeps : goal.returns-clause-keeps
returns-clause-keeps g c = c.advance.ensures.keeps

pub returns-clause-runs : goal.returns-clause-runs
returns-clause-runs g c = c.advance.ensures.runs

pub returns-clause-tallies : goal.returns-clause-tallies
returns-clause-tallies g c =
    let turn = c.advance in
    (Moves-leaves c.args.self.now turn.new.self turn.result.0 turn.ensures.was.station.sized turn.ensures.moves).tallies

pub returns-clause-same : goal.returns-clause-same
returns-clause-same g c =
    let turn = c.advance in
    (Moves-leaves c.args.self.now turn.new.self turn.result.0 turn.ensures.was.station.sized turn.ensures.moves).same

pub returns-clause-last : goal.returns-clause-last
returns-clause-last g c =
    let turn = c.advance in
    (Moves-leaves c.args.self.now turn.new.self turn.result.0 turn.ensures.was.station.sized turn.ensures.moves).last
