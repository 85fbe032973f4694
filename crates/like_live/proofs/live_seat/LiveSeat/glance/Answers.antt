use Rattle.std.proofs.Common.{refl}
use Rattle.like_live.specs.Calls.{between, gone, runs}
use Rattle.like_live.proofs.Calling.{GlancesNow-leaves, GlancesNow-tells}
use Rattle.like_live.proofs.live_seat.LiveSeat.glance.Goals as goal

pub returns-in-Runs-clause-case : goal.returns-in-Runs-clause-case
returns-in-Runs-clause-case g c = runs c.turn.new.self c.in-Runs.ensures.case c.glance_now.ensures.case

pub returns-in-Runs-clause-tells : goal.returns-in-Runs-clause-tells
returns-in-Runs-clause-tells g c =
    GlancesNow-tells c.turn.new.self c.glance_now.new.self c.args.user c.args.page c.glance_now.result
    c.glance_now.ensures.case

pub returns-in-Between-clause-case : goal.returns-in-Between-clause-case
returns-in-Between-clause-case g c = between c.in-Between.ensures.case refl

pub glance_now-requires : goal.glance_now-requires
glance_now-requires g c = c.turn.ensures.runs c.in-Runs.is

pub returns-in-Runs-clause-keeps : goal.returns-in-Runs-clause-keeps
returns-in-Runs-clause-keeps g c = c.glance_now.ensures.keeps

pub returns-in-Runs-clause-same : goal.returns-in-Runs-clause-same
returns-in-Runs-clause-same g c =
    (GlancesNow-leaves c.args.self.now c.turn.new.self c.glance_now.new.self c.args.user c.args.page c.glance_now.result
    (record { same = c.turn.ensures.same; tallies = c.turn.ensures.tallies; last = c.turn.ensures.last })
    c.glance_now.ensures.case).same

pub returns-in-Runs-clause-tallies : goal.returns-in-Runs-clause-tallies
returns-in-Runs-clause-tallies g c =
    (GlancesNow-leaves c.args.self.now c.turn.new.self c.glance_now.new.self c.args.user c.args.page c.glance_now.result
    (record { same = c.turn.ensures.same; tallies = c.turn.ensures.tallies; last = c.turn.ensures.last })
    c.glance_now.ensures.case).tallies

pub returns-in-Runs-clause-last : goal.returns-in-Runs-clause-last
returns-in-Runs-clause-last g c =
    (GlancesNow-leaves c.args.self.now c.turn.new.self c.glance_now.new.self c.args.user c.args.page c.glance_now.result
    (record { same = c.turn.ensures.same; tallies = c.turn.ensures.tallies; last = c.turn.ensures.last })
    c.glance_now.ensures.case).last

pub returns-in-Gone-clause-case : goal.returns-in-Gone-clause-case
returns-in-Gone-clause-case g c = gone c.in-Gone.ensures.case refl

pub returns-in-Between-clause-keeps : goal.returns-in-Between-clause-keeps
returns-in-Between-clause-keeps g c = c.turn.ensures.keeps

pub returns-in-Between-clause-same : goal.returns-in-Between-clause-same
returns-in-Between-clause-same g c = c.turn.ensures.same

pub returns-in-Between-clause-tallies : goal.returns-in-Between-clause-tallies
returns-in-Between-clause-tallies g c = c.turn.ensures.tallies

pub returns-in-Between-clause-last : goal.returns-in-Between-clause-last
returns-in-Between-clause-last g c = c.turn.ensures.last

pub returns-in-Gone-clause-keeps : goal.returns-in-Gone-clause-keeps
returns-in-Gone-clause-keeps g c = c.turn.ensures.keeps

pub returns-in-Gone-clause-same : goal.returns-in-Gone-clause-same
returns-in-Gone-clause-same g c = c.turn.ensures.same

pub returns-in-Gone-clause-tallies : goal.returns-in-Gone-clause-tallies
returns-in-Gone-clause-tallies g c = c.turn.ensures.tallies

pub returns-in-Gone-clause-last : goal.returns-in-Gone-clause-last
returns-in-Gone-clause-last g c = c.turn.ensures.last
