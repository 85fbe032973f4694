use Rattle.std.proofs.Common.{refl, subst}
use Rattle.like_live.specs.declared.answer.TurnAnswer.{TurnAnswer}
use Rattle.like_live.specs.Calls.{between, gone, runs}
use Rattle.like_live.specs.Moves.{Moves}
use Rattle.like_live.proofs.Calling.{LooksNow-leaves, Moves-leaves}
use Rattle.like_live.proofs.live_seat.LiveSeat.look.Goals as goal

pub returns-in-Runs-clause-case : goal.returns-in-Runs-clause-case
returns-in-Runs-clause-case g c =
    let turn = c.advance-answer in
    runs c.advance-answer.new.self
    (subst (λ (a : TurnAnswer). Moves c.args.self.now a turn.new.self) c.in-Runs.is turn.ensures.moves)
    c.look_now.ensures.case

pub returns-in-Between-clause-case : goal.returns-in-Between-clause-case
returns-in-Between-clause-case g c =
    let turn = c.advance-answer in
    between
    (subst (λ (a : TurnAnswer). Moves c.args.self.now a turn.new.self) c.in-Between.is turn.ensures.moves)
    refl

pub returns-in-Gone-clause-case : goal.returns-in-Gone-clause-case
returns-in-Gone-clause-case g c =
    let turn = c.advance-answer in
    gone
    (subst (λ (a : TurnAnswer). Moves c.args.self.now a turn.new.self) c.in-Gone.is turn.ensures.moves)
    refl

pub look_now-requires-clause-runs : goal.look_now-requires-clause-runs
look_now-requires-clause-runs g c = c.advance-answer.ensures.runs c.in-Runs.is

pub look_now-requires-clause-phase : goal.look_now-requires-clause-phase
look_now-requires-clause-phase g c = c.advance-answer.ensures.phase

pub returns-in-Runs-clause-keeps : goal.returns-in-Runs-clause-keeps
returns-in-Runs-clause-keeps g c = c.look_now.ensures.keeps

pub returns-in-Runs-clause-same : goal.returns-in-Runs-clause-same
returns-in-Runs-clause-same g c =
    let v = c.args.self.now in
    let turn = c.advance-answer in
    (LooksNow-leaves v turn.new.self c.look_now.new.self c.args.user c.args.page c.args.tag c.look_now.result
    (Moves-leaves v turn.new.self turn.result.0 turn.ensures.was.station.sized turn.ensures.moves)
    c.look_now.ensures.case).same

pub returns-in-Runs-clause-tallies : goal.returns-in-Runs-clause-tallies
returns-in-Runs-clause-tallies g c =
    let v = c.args.self.now in
    let turn = c.advance-answer in
    (LooksNow-leaves v turn.new.self c.look_now.new.self c.args.user c.args.page c.args.tag c.look_now.result
    (Moves-leaves v turn.new.self turn.result.0 turn.ensures.was.station.sized turn.ensures.moves)
    c.look_now.ensures.case).tallies

pub returns-in-Runs-clause-last : goal.returns-in-Runs-clause-last
returns-in-Runs-clause-last g c =
    let v = c.args.self.now in
    let turn = c.advance-answer in
    (LooksNow-leaves v turn.new.self c.look_now.new.self c.args.user c.args.page c.args.tag c.look_now.result
    (Moves-leaves v turn.new.self turn.result.0 turn.ensures.was.station.sized turn.ensures.moves)
    c.look_now.ensures.case).last

pub returns-in-Between-clause-keeps : goal.returns-in-Between-clause-keeps
returns-in-Between-clause-keeps g c = c.advance-answer.ensures.keeps

pub returns-in-Between-clause-same : goal.returns-in-Between-clause-same
returns-in-Between-clause-same g c =
    let turn = c.advance-answer in
    (Moves-leaves c.args.self.now turn.new.self turn.result.0 turn.ensures.was.station.sized turn.ensures.moves).same

pub returns-in-Between-clause-tallies : goal.returns-in-Between-clause-tallies
returns-in-Between-clause-tallies g c =
    let turn = c.advance-answer in
    (Moves-leaves c.args.self.now turn.new.self turn.result.0 turn.ensures.was.station.sized turn.ensures.moves).tallies

pub returns-in-Between-clause-last : goal.returns-in-Between-clause-last
returns-in-Between-clause-last g c =
    let turn = c.advance-answer in
    (Moves-leaves c.args.self.now turn.new.self turn.result.0 turn.ensures.was.station.sized turn.ensures.moves).last

pub returns-in-Gone-clause-keeps : goal.returns-in-Gone-clause-keeps
returns-in-Gone-clause-keeps g c = c.advance-answer.ensures.keeps

pub returns-in-Gone-clause-same : goal.returns-in-Gone-clause-same
returns-in-Gone-clause-same g c =
    let turn = c.advance-answer in
    (Moves-leaves c.args.self.now turn.new.self turn.result.0 turn.ensures.was.station.sized turn.ensures.moves).same

pub returns-in-Gone-clause-tallies : goal.returns-in-Gone-clause-tallies
returns-in-Gone-clause-tallies g c =
    let turn = c.advance-answer in
    (Moves-leaves c.args.self.now turn.new.self turn.result.0 turn.ensures.was.station.sized turn.ensures.moves).tallies

pub returns-in-Gone-clause-last : goal.returns-in-Gone-clause-last
returns-in-Gone-clause-last g c =
    let turn = c.advance-answer in
    (Moves-leaves c.args.self.now turn.new.self turn.result.0 turn.ensures.was.station.sized turn.ensures.moves).last
