use Rattle.std.proofs.Common.{◌≡◌, ◌≢◌, ◌+◌, true, sym, subst, ◌∙◌}
use Rattle.std.proofs.lemmas.Bool.{not-false, not-true}
use Rattle.like_core.specs.declared.opening.Opening.{Opening}
use Rattle.like_core.specs.declared.worker_state.WorkerState.TheVariants.{Gone}
use Rattle.like_core.specs.OpeningLimits.{has_slots}
use Rattle.like_seat.specs.Kept.{IsOfService, view_of}
use Rattle.like_seat.specs.StationView.{StationView}
use Rattle.like_seat.specs.Steps.{LooksAndEnters}
use Rattle.like_seat.proofs.Entering.{opening-ran, ran-looked, stays}
use Rattle.like_seat.proofs.Looking.{looks-entered, looks-stayed, may-enter, waiting-stays}
use Rattle.like_seat.proofs.station.Station.look_with_slots.Goals as goal

pub look-sight-requires : goal.look-sight-requires
look-sight-requires g c =
    subst (λ (v : StationView g.row.W.Denot). v.post.state ≢ Gone) (sym c.self.view_is) c.requires.here

pub enter_slots-requires-clause-may : goal.enter_slots-requires-clause-may
enter_slots-requires-clause-may g c =
    let told = c.look-sight.ensures in
    may-enter _ _ (g.P.Post.view c.self.inside.post) _ c.self.inside.tables c.look-sight.result c.self.invariant told.board
    told.sight told.ending told.view c.in-Answered.phase (c.self.invariant.state ∙ c.in-Answered.is)
    (not-true c.look-sight.result.waits c.if-not-sight.true)

pub enter_slots-requires-clause-service : goal.enter_slots-requires-clause-service
enter_slots-requires-clause-service g c =
    let p = g.P.Post.view c.self.inside.post in
    let looked = g.P.Post.view c.look-sight.new.self in
    let k = c.in-Answered.phase in
    let asked = subst (λ (v : StationView g.row.W.Denot). has_slots v.post.opening.limits ≡ true) (sym c.self.view_is)
    c.requires.slotted in
    subst (λ (z : Opening). IsOfService z)
    (sym (opening-ran p looked (k + 1) (ran-looked p looked c.look-sight.result k _ c.look-sight.ensures.view
    (c.self.invariant.state ∙ c.in-Answered.is) (not-true c.look-sight.result.waits c.if-not-sight.true))))
    (c.self.invariant.service asked)

pub invariant_of-self : goal.invariant_of-self
invariant_of-self g c =
    let p = g.P.Post.view c.self.inside.post in
    let told = c.look-sight.ensures in
    (looks-entered _ _ p (g.P.Post.view c.look-sight.new.self) c.self.inside.tables c.look-sight.result c.self.invariant
    told.board told.sight told.ending told.view c.in-Answered.phase (c.self.invariant.state ∙ c.in-Answered.is)
    (not-true c.look-sight.result.waits c.if-not-sight.true) _ (g.P.Post.view c.enter_slots.new.post) c.enter_slots.new.self told.within
    c.enter_slots.ensures.board c.enter_slots.ensures.enters).0

pub returns-then-not-sight : goal.returns-then-not-sight
returns-then-not-sight g c =
    let p = g.P.Post.view c.self.inside.post in
    let told = c.look-sight.ensures in
    subst (λ (v : StationView g.row.W.Denot). LooksAndEnters v c.look-sight.result
    (view_of (g.P.Post.board c.enter_slots.new.post) (g.P.Post.view c.enter_slots.new.post) c.enter_slots.new.self)) c.self.view_is
    (looks-entered _ _ p (g.P.Post.view c.look-sight.new.self) c.self.inside.tables c.look-sight.result c.self.invariant
    told.board told.sight told.ending told.view c.in-Answered.phase (c.self.invariant.state ∙ c.in-Answered.is)
    (not-true c.look-sight.result.waits c.if-not-sight.true) _ (g.P.Post.view c.enter_slots.new.post) c.enter_slots.new.self told.within
    c.enter_slots.ensures.board c.enter_slots.ensures.enters).1

pub invariant_of-self-else-not-sight : goal.invariant_of-self-else-not-sight
invariant_of-self-else-not-sight g c =
    let p = g.P.Post.view c.self.inside.post in
    let told = c.look-sight.ensures in
    (looks-stayed _ _ p (g.P.Post.view c.look-sight.new.self) c.self.inside.tables c.look-sight.result c.self.invariant
    told.board told.sight told.ending told.view
    (waiting-stays p.state c.look-sight.result (not-false c.look-sight.result.waits c.if-not-sight.false))).0

pub returns-else-not-sight : goal.returns-else-not-sight
returns-else-not-sight g c =
    let p = g.P.Post.view c.self.inside.post in
    let told = c.look-sight.ensures in
    subst (λ (v : StationView g.row.W.Denot). LooksAndEnters v c.look-sight.result
    (view_of (g.P.Post.board c.look-sight.new.self) (g.P.Post.view c.look-sight.new.self) c.self.inside.tables)) c.self.view_is
    (looks-stayed _ _ p (g.P.Post.view c.look-sight.new.self) c.self.inside.tables c.look-sight.result c.self.invariant
    told.board told.sight told.ending told.view
    (waiting-stays p.state c.look-sight.result (not-false c.look-sight.result.waits c.if-not-sight.false))).1

pub invariant_of-self-in_default : goal.invariant_of-self-in_default
invariant_of-self-in_default g c =
    let p = g.P.Post.view c.self.inside.post in
    let told = c.look-sight.ensures in
    (looks-stayed _ _ p (g.P.Post.view c.look-sight.new.self) c.self.inside.tables c.look-sight.result c.self.invariant
    told.board told.sight told.ending told.view
    (stays p.state c.look-sight.result (λ k is. c.in_default.not-Answered k (sym c.self.invariant.state ∙ is)))).0

pub returns-in_default : goal.returns-in_default
returns-in_default g c =
    let p = g.P.Post.view c.self.inside.post in
    let told = c.look-sight.ensures in
    subst (λ (v : StationView g.row.W.Denot). LooksAndEnters v c.look-sight.result
    (view_of (g.P.Post.board c.look-sight.new.self) (g.P.Post.view c.look-sight.new.self) c.self.inside.tables)) c.self.view_is
    (looks-stayed _ _ p (g.P.Post.view c.look-sight.new.self) c.self.inside.tables c.look-sight.result c.self.invariant
    told.board told.sight told.ending told.view
    (stays p.state c.look-sight.result (λ k is. c.in_default.not-Answered k (sym c.self.invariant.state ∙ is)))).1
