use Rattle.std.proofs.Common.{◌<◌, length, set, sym, subst, arith, ap}
use Rattle.std.proofs.lemmas.List.{length-map}
use Rattle.like_board.specs.Own.{own_views}
use Rattle.like_crew.specs.Crew.{CrewView, GoesOn}
use Rattle.like_crew.specs.OwnCrew.{servers_of}
use Rattle.like_crew.specs.OwnServer.{OwnServerView}
use Rattle.like_crew.specs.ServerTurns.{OpensAll}
use Rattle.like_crew.specs.Steps.{AtServer}
use Rattle.like_roles.proofs.choice.Coordinating.{coordinator-same}
use Rattle.like_crew.proofs.servers.Seated.{all-go-on, at-server, seated-same, stands-at}
use Rattle.like_crew.proofs.crew.own_crew.OwnCrew.open_lists_of.Goals as goal

pub index_mut-requires : goal.index_mut-requires
index_mut-requires c =
    let servers = c.self.inside.servers.items in
    let below : c.args.worker < length (servers_of servers) =
    subst (λ (v : CrewView). c.args.worker < length v.servers) (sym c.self.view_is) c.requires in
    omega (arith, below, length-map servers (λ (x : OwnServerView). x.server), c.self.inside.servers.ok.0)

pub invariant_of-self : goal.invariant_of-self
invariant_of-self c =
    let servers = c.self.inside.servers.items in
    let k = c.args.worker in
    let s : OwnServerView = c.index_mut.result.now in
    let at = stands-at servers _ k s (ap (λ (v : CrewView). v.servers) c.self.view_is) c.requires c.index_mut.ensures.value in
    let seat = c.self.inside.coordinator.seat in
    let t : OwnServerView = c.open_all.new.self in
    let told = c.open_all.ensures in (
      seated-same (own_views c.self.inside.board) seat servers c.self.invariant.0 k s t at told.place told.post,
      c.self.invariant.1,
      c.self.invariant.2,
    )

pub returns-clause-opens : goal.returns-clause-opens
returns-clause-opens c =
    let servers = c.self.inside.servers.items in
    let k = c.args.worker in
    let s : OwnServerView = c.index_mut.result.now in
    let at = stands-at servers _ k s (ap (λ (v : CrewView). v.servers) c.self.view_is) c.requires c.index_mut.ensures.value in
    let t : OwnServerView = c.open_all.new.self in
    let told = c.open_all.ensures in
    subst (λ (v : CrewView). AtServer k OpensAll v.servers (servers_of (set servers k t)))
    c.self.view_is (at-server servers k s t at OpensAll told.opens)

pub returns-clause-goes_on : goal.returns-clause-goes_on
returns-clause-goes_on c =
    let servers = c.self.inside.servers.items in
    let k = c.args.worker in
    let s : OwnServerView = c.index_mut.result.now in
    let at = stands-at servers _ k s (ap (λ (v : CrewView). v.servers) c.self.view_is) c.requires c.index_mut.ensures.value in
    let t : OwnServerView = c.open_all.new.self in
    let v = c.self.inside.coordinator in
    subst (λ (u : CrewView). GoesOn u (record { coordinator = v; servers = servers_of (set servers k t) }))
    c.self.view_is
    (record { coordinator = coordinator-same v; servers = all-go-on servers k s t at c.open_all.ensures.goes_on })
