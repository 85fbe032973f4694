use Rattle.std.proofs.Common.{sym, subst}
use Rattle.like_core.specs.WorkerState.{IsRunning}
use Rattle.like_seat.specs.StationView.{StationView}
use Rattle.like_seat.proofs.Entering.{IsKept-looked, running-stays}
use Rattle.like_seat.proofs.station.Station.look_on.Goals as goal

pub invariant_of-self : goal.invariant_of-self
invariant_of-self g c =
    let p = g.P.Post.view c.self.inside.post in
    let sight = c.look.result in
    IsKept-looked p (g.P.Post.view c.look.new.self) c.self.inside.tables sight _ c.self.invariant c.look.ensures.view
    (running-stays p.state sight
    (subst (λ (v : StationView g.row.W.Denot). IsRunning v.post.state) (sym c.self.view_is) c.requires.running))
