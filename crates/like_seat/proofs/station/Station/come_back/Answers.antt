use Rattle.std.proofs.Common.{◌≡◌, true, ap, sym, subst, ◌∙◌}
use Rattle.like_core.specs.declared.worker_state.WorkerState.TheVariants.{Gone}
use Rattle.like_core.specs.OpeningLimits.{has_slots}
use Rattle.like_core.specs.Post.{number_of}
use Rattle.like_core.specs.core.Moves.{LetsReturn}
use Rattle.like_core.specs.declared.view.WorkerSeatView.{WorkerSeatView}
use Rattle.like_seat.specs.Kept.{IsKept, IsOfService, view_of}
use Rattle.like_seat.specs.StationView.{StationView}
use Rattle.like_seat.specs.Steps.{came_back, masks_entered, returned_at}
use Rattle.like_seat.proofs.Entering.{IsKept-entered, MayEnter-kept, empty-entered, idle-gone, opening-ran, ran-returned}
use Rattle.like_seat.proofs.station.Station.come_back.Goals as goal

pub invariant_of-self-2 : goal.invariant_of-self-2
invariant_of-self-2 g c =
    let p = g.P.Post.view c.self.inside.post in
    let back = g.P.Post.view c.come_back.new.post in
    let gone : p.state ≡ Gone =
    subst (λ (v : StationView g.row.W.Denot). v.post.state ≡ Gone) (sym c.self.view_is) c.requires.gone in
    IsKept-entered p back (g.P.Post.view c.enter_slots.new.post) c.self.inside.tables c.enter_slots.new.self
    c.in-Some.phase c.enter_slots.ensures.enters.0 c.self.invariant (idle-gone p.state gone)
    (ran-returned p back c.in-Some.phase _ c.in-Some.ensures.back) c.enter_slots.ensures.enters.1 c.in-Some.ensures.within

pub returns-clause-back : goal.returns-clause-back
returns-clause-back g c = λ _.
    let p = g.P.Post.view c.self.inside.post in
    let t = c.self.inside.tables in
    let back = g.P.Post.view c.come_back.new.post in
    let gone : p.state ≡ Gone =
    subst (λ (v : StationView g.row.W.Denot). v.post.state ≡ Gone) (sym c.self.view_is) c.requires.gone in
    let phase = c.in-Some.phase in
    let mask = c.enter_slots.ensures.enters.0 in
    let e = c.enter_slots.ensures.enters.1 in
    let entered : WorkerSeatView → WorkerSeatView = λ q. record q { masks = masks_entered q.masks phase mask } in
    let now = g.P.Post.view c.enter_slots.new.post in
    let same_number : number_of back ≡ number_of now = sym (ap (λ (q : WorkerSeatView). number_of q) e.at_post) in
    let after : now ≡ returned_at p phase mask (number_of now) =
    ◌∙◌ {b = entered back} e.at_post
    (ap entered c.in-Some.ensures.back ∙ ap (returned_at p phase mask) same_number) in
    let slice = empty-entered p back (g.P.Post.view c.enter_slots.new.post) t c.enter_slots.new.self phase mask
    c.self.invariant (idle-gone p.state gone) (ran-returned p back phase _ c.in-Some.ensures.back) e in (
      phase,
      (
        mask,
        ◌∙◌ {a = view_of (g.P.Post.board c.enter_slots.new.post) (g.P.Post.view c.enter_slots.new.post) c.enter_slots.new.self}
            {b = came_back (view_of (g.P.Post.board c.self.inside.post) p t) phase mask (number_of now)}
            (λ m. record (view_of (g.P.Post.board c.self.inside.post) p t) {
              board = (c.enter_slots.ensures.board ∙ c.come_back.ensures.board) m;
              post = after m;
              stash = (e.rest m).stash;
              slice = slice m;
              sliced = (e.rest m).sliced.likes;
              last = (e.rest m).last;
            })
            (ap (λ s. came_back s phase mask (number_of now)) c.self.view_is),
      ),
    )

pub returns-clause-station : goal.returns-clause-station
returns-clause-station g c = (invariant_of-self-2 g c).station

pub come_back-requires-clause-gone : goal.come_back-requires-clause-gone
come_back-requires-clause-gone g c =
    subst (λ (v : StationView g.row.W.Denot). v.post.state ≡ Gone) (sym c.self.view_is) c.requires.gone

pub come_back-requires-clause-lets : goal.come_back-requires-clause-lets
come_back-requires-clause-lets g c =
    subst (λ (v : StationView g.row.W.Denot). LetsReturn v.post.opening.limits) (sym c.self.view_is) c.requires.lets

pub invariant_of-self : goal.invariant_of-self
invariant_of-self g c =
    subst (λ (p : WorkerSeatView). IsKept p c.self.inside.tables) (sym c.in_default.ensures.none) c.self.invariant

pub returns-in_default-clause-none : goal.returns-in_default-clause-none
returns-in_default-clause-none g c = λ _.
    ◌∙◌ {b = view_of (g.P.Post.board c.self.inside.post) (g.P.Post.view c.self.inside.post) c.self.inside.tables}
    (λ m. view_of (c.come_back.ensures.board m) (c.in_default.ensures.none m) c.self.inside.tables) c.self.view_is

pub returns-in_default-clause-station : goal.returns-in_default-clause-station
returns-in_default-clause-station g c = (invariant_of-self g c).station

pub enter_slots-requires-clause-may : goal.enter_slots-requires-clause-may
enter_slots-requires-clause-may g c =
    let p = g.P.Post.view c.self.inside.post in
    let back = g.P.Post.view c.come_back.new.post in
    let gone : p.state ≡ Gone =
    subst (λ (v : StationView g.row.W.Denot). v.post.state ≡ Gone) (sym c.self.view_is) c.requires.gone in
    MayEnter-kept p back c.self.inside.tables c.in-Some.phase c.self.invariant (idle-gone p.state gone)
    (ran-returned p back c.in-Some.phase _ c.in-Some.ensures.back)

pub enter_slots-requires-clause-service : goal.enter_slots-requires-clause-service
enter_slots-requires-clause-service g c =
    let p = g.P.Post.view c.self.inside.post in
    let back = g.P.Post.view c.come_back.new.post in
    let slotted = subst (λ (v : StationView g.row.W.Denot). has_slots v.post.opening.limits ≡ true) (sym c.self.view_is)
    c.requires.slotted in
    subst IsOfService
    (sym (opening-ran p back c.in-Some.phase (ran-returned p back c.in-Some.phase _ c.in-Some.ensures.back)))
    (c.self.invariant.service slotted)
