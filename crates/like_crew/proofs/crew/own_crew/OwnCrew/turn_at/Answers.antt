use Rattle.std.proofs.Common.{◌≡◌, ◌<◌, length, set, refl, sym, subst, arith, ap}
use Rattle.std.proofs.lemmas.List.{length-map}
use Rattle.like_core.specs.declared.worker_state.WorkerState.TheVariants.{Gone}
use Rattle.like_board.specs.Lent.{HasFound}
use Rattle.like_board.specs.Own.{own_views}
use Rattle.like_roles.specs.declared.turn.Turn.TheVariants.{Retired}
use Rattle.like_crew.specs.Crew.{CrewView, GoesOn}
use Rattle.like_crew.specs.OwnCrew.{servers_of}
use Rattle.like_crew.specs.OwnServer.{OwnServerView}
use Rattle.like_crew.specs.Server.{ServerView}
use Rattle.like_crew.specs.Steps.{AtServer, IsFreshTurn}
use Rattle.like_roles.proofs.choice.Coordinating.{coordinator-same}
use Rattle.like_crew.proofs.servers.Seated.{all-go-on, at-server, lead-known, seat-known, seated-after, stands-at}
use Rattle.like_crew.proofs.crew.own_crew.OwnCrew.turn_at.Goals as goal

pub index_mut-requires : goal.index_mut-requires
index_mut-requires c =
    let servers = c.self.inside.servers.items in
    let below : c.args.worker < length (servers_of servers) =
    subst (λ (v : CrewView). c.args.worker < length v.servers) (sym c.self.view_is) c.requires in
    omega (arith, below, length-map servers (λ (x : OwnServerView). x.server), c.self.inside.servers.ok.0)

pub turn-requires-after_bounds : goal.turn-requires-after_bounds
turn-requires-after_bounds c κs =
    let servers = c.self.inside.servers.items in
    let k = c.args.worker in
    let s : OwnServerView = c.index_mut.result.now in
    let at = stands-at servers _ k s (ap (λ (v : CrewView). v.servers) c.self.view_is) c.requires c.index_mut.ensures.value in
    seat-known (own_views c.self.inside.board) c.self.inside.coordinator.seat servers c.self.invariant.0 k s at

pub invariant_of-self : goal.invariant_of-self
invariant_of-self c =
    let servers = c.self.inside.servers.items in
    let k = c.args.worker in
    let s : OwnServerView = c.index_mut.result.now in
    let at = stands-at servers _ k s (ap (λ (v : CrewView). v.servers) c.self.view_is) c.requires c.index_mut.ensures.value in
    let seat = c.self.inside.coordinator.seat in
    let t : OwnServerView = c.turn.new.self in
    let told = c.turn.ensures in (
      seated-after (own_views c.self.inside.board) seat servers c.self.invariant.0 _ k s t at told.place
          told.views,
      c.self.invariant.1,
      c.self.invariant.2,
    )

pub returns-clause-case : goal.returns-clause-case
returns-clause-case c =
    let servers = c.self.inside.servers.items in
    let k = c.args.worker in
    let s : OwnServerView = c.index_mut.result.now in
    let at = stands-at servers _ k s (ap (λ (v : CrewView). v.servers) c.self.view_is) c.requires c.index_mut.ensures.value in
    let t : OwnServerView = c.turn.new.self in
    let told = c.turn.ensures in
    let whole : CrewView = record { coordinator = c.self.inside.coordinator; servers = servers_of servers } in
    subst (λ (v : CrewView). AtServer k (λ s t. IsFreshTurn v c.turn.result s t
    × (c.turn.result ≡ Retired → t.worker.post.state ≡ Gone)) v.servers (servers_of (set servers k t)))
    c.self.view_is (at-server servers k s t at (λ (s t : ServerView). IsFreshTurn whole c.turn.result s t
    × (c.turn.result ≡ Retired → t.worker.post.state ≡ Gone)) (
      record {
        turn = record { whole = told.case; modelled = told.modelled };
        fresh = told.fresh c.self.inside.coordinator.seat
            (lead-known (own_views c.self.inside.board) c.self.inside.coordinator.seat servers c.self.invariant.0);
        found = subst (λ views. HasFound views s.server.worker.post t.server.worker.post)
            c.self.invariant.0.views_are told.found;
        only_open = told.only_open refl;
      },
      told.retired,
    ))

pub returns-clause-goes_on : goal.returns-clause-goes_on
returns-clause-goes_on c =
    let servers = c.self.inside.servers.items in
    let k = c.args.worker in
    let s : OwnServerView = c.index_mut.result.now in
    let at = stands-at servers _ k s (ap (λ (v : CrewView). v.servers) c.self.view_is) c.requires c.index_mut.ensures.value in
    let t : OwnServerView = c.turn.new.self in
    let v = c.self.inside.coordinator in
    subst (λ (u : CrewView). GoesOn u (record { coordinator = v; servers = servers_of (set servers k t) }))
    c.self.view_is
    (record { coordinator = coordinator-same v; servers = all-go-on servers k s t at c.turn.ensures.goes_on })
