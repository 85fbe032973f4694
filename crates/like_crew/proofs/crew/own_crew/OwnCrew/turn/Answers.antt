use Rattle.std.proofs.Common.{◌≡◌, List, [], length, set, refl, sym, ap, ◌∙◌, subst}
use Rattle.like_core.specs.declared.opening.Opening.{Opening}
use Rattle.like_core.specs.declared.view.View.TheVariants.{Coord}
use Rattle.like_core.specs.declared.view.View.{View}
use Rattle.like_board.specs.Led.{BoardView, owned, shared}
use Rattle.like_board.specs.Own.{own_views}
use Rattle.like_crew.specs.Crew.{CrewView, GoesOn}
use Rattle.like_crew.specs.OwnCrew.{servers_of}
use Rattle.like_crew.specs.Steps.{LeadsFresh}
use Rattle.like_crew.proofs.servers.Later.{all-same}
use Rattle.like_crew.proofs.servers.Seated.{lead-after, lead-known, shows-servers}
use Rattle.like_crew.proofs.crew.own_crew.OwnCrew.turn.Goals as goal

-- what all seats know at a board that a coordinator led
abbrev views_told : BoardView → List View
views_told (shared board) = []
views_told (owned opening views) = views

pub turn_at-requires : goal.turn_at-requires
turn_at-requires c =
    lead-known (own_views c.self.inside.board) c.self.inside.coordinator.seat c.self.inside.servers.items
    c.self.invariant.0

pub invariant_of-self : goal.invariant_of-self
invariant_of-self c =
    let views = own_views c.self.inside.board in
    let after = c.turn_at.new.self in
    let led : own_views c.turn_at.new.board ≡ set views 0 (Coord after.seat) = ap views_told c.turn_at.ensures.led in (
      lead-after views c.self.inside.coordinator.seat c.self.inside.servers.items c.self.invariant.0 _ after.seat led,
      c.self.invariant.1 ∙ sym (ap (λ (z : Opening). length z.counts) c.turn_at.ensures.goes_on.opening),
      record {
        before_end = c.turn_at.ensures.keeps c.self.invariant.2.before_end;
        chose = c.turn_at.ensures.chose c.self.invariant.2.chose;
      },
    )

pub returns-clause-leads : goal.returns-clause-leads
returns-clause-leads c =
    let seat = c.self.inside.coordinator.seat in
    let servers = c.self.inside.servers.items in
    let told = c.turn_at.ensures.case in
    subst (λ (v : CrewView). LeadsFresh c.turn_at.result v
    (record { coordinator = c.turn_at.new.self; servers = servers_of servers })) c.self.view_is (record {
      turn = told.turn;
      fresh = shows-servers (own_views c.self.inside.board) seat servers c.self.invariant.0 seat.phase told.turn.sight
          told.fresh;
      rest = refl;
    })

pub returns-clause-goes_on : goal.returns-clause-goes_on
returns-clause-goes_on c =
    let servers = c.self.inside.servers.items in
    subst (λ (v : CrewView). GoesOn v (record { coordinator = c.turn_at.new.self; servers = servers_of servers }))
    c.self.view_is (record { coordinator = c.turn_at.ensures.goes_on; servers = all-same (servers_of servers) })

pub returns-clause-ended : goal.returns-clause-ended
returns-clause-ended c = c.turn_at.ensures.ended c.self.invariant.2.before_end
