use Rattle.std.proofs.Common.{ap, ◌∙◌, refl, arith}
use Rattle.like_live.specs.Calls.{between, gone, runs, last_after}
use Rattle.like_live.proofs.Calling.{LikesNow-last, LikesNow-same, LikesNow-tallies}
use Rattle.like_tables.specs.UserTable.{UserTable}
use Rattle.like_live.proofs.Moving.{same_seat_both}
use Rattle.like_live.proofs.live_seat.LiveSeat.like.Goals as goal

pub returns-in-Runs-clause-case : goal.returns-in-Runs-clause-case
returns-in-Runs-clause-case g c = runs c.turn.new.self c.in-Runs.ensures.case c.like_now.ensures.case

pub returns-in-Runs-clause-tallies : goal.returns-in-Runs-clause-tallies
returns-in-Runs-clause-tallies g c = λ other.
    let before = c.turn.ensures.tallies other in
    let more = LikesNow-tallies c.turn.new.self c.like_now.new.self c.args.user c.args.page c.like_now.result
    c.turn.ensures.keeps.station.sized c.like_now.ensures.case other in
    omega arith

pub returns-in-Between-clause-case : goal.returns-in-Between-clause-case
returns-in-Between-clause-case g c = between c.in-Between.ensures.case refl

pub returns-in-Runs-clause-same : goal.returns-in-Runs-clause-same
returns-in-Runs-clause-same g c =
    same_seat_both c.args.self.now c.turn.new.self c.like_now.new.self c.turn.ensures.same
    (LikesNow-same c.turn.new.self c.like_now.new.self c.args.user c.args.page c.like_now.result c.like_now.ensures.case)

pub returns-in-Runs-clause-last : goal.returns-in-Runs-clause-last
returns-in-Runs-clause-last g c =
    LikesNow-last c.turn.new.self c.like_now.new.self c.args.user c.args.page c.like_now.result c.like_now.ensures.case
    ∙ ap (λ (t : UserTable). last_after t c.args.user c.args.page c.like_now.result) c.turn.ensures.last

pub returns-in-Between-clause-tallies : goal.returns-in-Between-clause-tallies
returns-in-Between-clause-tallies g c = λ other. omega (arith, c.turn.ensures.tallies other)

pub returns-in-Gone-clause-tallies : goal.returns-in-Gone-clause-tallies
returns-in-Gone-clause-tallies g c = λ other. omega (arith, c.turn.ensures.tallies other)

pub returns-in-Gone-clause-case : goal.returns-in-Gone-clause-case
returns-in-Gone-clause-case g c = gone c.in-Gone.ensures.case refl

pub like_now-requires : goal.like_now-requires
like_now-requires g c = c.turn.ensures.runs c.in-Runs.is

pub returns-in-Runs-clause-keeps : goal.returns-in-Runs-clause-keeps
returns-in-Runs-clause-keeps g c = c.like_now.ensures.keeps

pub returns-in-Between-clause-keeps : goal.returns-in-Between-clause-keeps
returns-in-Between-clause-keeps g c = c.turn.ensures.keeps

pub returns-in-Between-clause-same : goal.returns-in-Between-clause-same
returns-in-Between-clause-same g c = c.turn.ensures.same

pub returns-in-Between-clause-last : goal.returns-in-Between-clause-last
returns-in-Between-clause-last g c = c.turn.ensures.last

pub returns-in-Gone-clause-keeps : goal.returns-in-Gone-clause-keeps
returns-in-Gone-clause-keeps g c = c.turn.ensures.keeps

pub returns-in-Gone-clause-same : goal.returns-in-Gone-clause-same
returns-in-Gone-clause-same g c = c.turn.ensures.same

pub returns-in-Gone-clause-last : goal.returns-in-Gone-clause-last
returns-in-Gone-clause-last g c = c.turn.ensures.last
