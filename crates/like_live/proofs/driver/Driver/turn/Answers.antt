use Rattle.std.proofs.Common.{Bool, sym, subst}
use Rattle.like_live.specs.Driver.{Acts, DriverTurns, DriverView, IsSameDriver, acts, driver_of}
use Rattle.like_live.proofs.Turning.{Keeps, acts-keeps, same-parts, same-room, same-service}
use Rattle.like_live.proofs.driver.Driver.turn.Goals as goal

pub invariant_of-self : goal.invariant_of-self
invariant_of-self g c =
    let inside = c.self.inside in
    let new = c.act-answer.new in
    let is : Keeps (driver_of inside.lead inside.splits inside.hint inside.is_over) (driver_of new.lead new.splits new.hint inside.is_over) =
    subst (λ (b : Bool). Keeps (driver_of inside.lead inside.splits inside.hint b) (driver_of new.lead new.splits new.hint b))
    (sym c.if-self.false) (acts-keeps _ _ _ _ c.act-answer.ensures) in
    (same-parts _ _ _ _ is c.self.invariant.0, same-room _ _ _ is c.self.invariant.1)

pub returns-clause-case : goal.returns-clause-case
returns-clause-case g c =
    let inside = c.self.inside in
    let new = c.act-answer.new in
    let before : Bool → DriverView = λ b. driver_of inside.lead inside.splits inside.hint b in
    let after : Bool → DriverView = λ b. driver_of new.lead new.splits new.hint b in
    subst (λ (v : DriverView). DriverTurns v c.args.end c.act-answer.result (after inside.is_over)) c.self.view_is
    (acts c.if-self.false
    (subst (λ (b : Bool). Acts (before b) c.args.end c.act-answer.result (after b)) (sym c.if-self.false)
    c.act-answer.ensures))

pub returns-clause-keeps : goal.returns-clause-keeps
returns-clause-keeps g c =
    let inside = c.self.inside in
    let new = c.act-answer.new in
    let is : Keeps (driver_of inside.lead inside.splits inside.hint inside.is_over) (driver_of new.lead new.splits new.hint inside.is_over) =
    subst (λ (b : Bool). Keeps (driver_of inside.lead inside.splits inside.hint b) (driver_of new.lead new.splits new.hint b))
    (sym c.if-self.false) (acts-keeps _ _ _ _ c.act-answer.ensures) in
    same-service _ _ is c.self.invariant.0.service

pub returns-clause-same : goal.returns-clause-same
returns-clause-same g c =
    let inside = c.self.inside in
    let new = c.act-answer.new in
    let is : Keeps (driver_of inside.lead inside.splits inside.hint inside.is_over) (driver_of new.lead new.splits new.hint inside.is_over) =
    subst (λ (b : Bool). Keeps (driver_of inside.lead inside.splits inside.hint b) (driver_of new.lead new.splits new.hint b))
    (sym c.if-self.false) (acts-keeps _ _ _ _ c.act-answer.ensures) in
    subst (λ (v : DriverView). IsSameDriver v (driver_of new.lead new.splits new.hint inside.is_over)) c.self.view_is is.same
