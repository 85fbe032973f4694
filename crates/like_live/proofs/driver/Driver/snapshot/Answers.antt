use Rattle.std.proofs.Common.{refl, subst}
use Rattle.like_live.specs.Driver.{DriverView, IsSameDriver, TakesSnapshot, driver_of, reads}
use Rattle.like_live.proofs.Turning.{boundary-still, same-parts, same-room, same-service, still-keeps}
use Rattle.like_live.proofs.driver.Driver.snapshot.Goals as goal

pub invariant_of-self : goal.invariant_of-self
invariant_of-self g c =
    let inside = c.self.inside in
    let is = still-keeps (driver_of inside.lead inside.splits inside.hint inside.is_over)
    (driver_of c.read_boundary.new.lead inside.splits inside.hint inside.is_over)
    (boundary-still _ _ _ _ _ _ c.read_boundary.ensures) refl in
    (same-parts _ _ _ _ is c.self.invariant.0, same-room _ _ _ is c.self.invariant.1)

pub returns-clause-case : goal.returns-clause-case
returns-clause-case g c =
    let inside = c.self.inside in
    subst (λ (v : DriverView). TakesSnapshot v c.args.from c.args.counts.now c.read_boundary.result
    (driver_of c.read_boundary.new.lead inside.splits inside.hint inside.is_over) c.read_boundary.new.counts) c.self.view_is
    (reads c.if-self.false c.read_boundary.ensures refl)

pub returns-clause-keeps : goal.returns-clause-keeps
returns-clause-keeps g c =
    let inside = c.self.inside in
    let before = driver_of inside.lead inside.splits inside.hint inside.is_over in
    let after = driver_of c.read_boundary.new.lead inside.splits inside.hint inside.is_over in
    same-service before after
    (still-keeps before after (boundary-still _ _ _ _ _ _ c.read_boundary.ensures) refl) c.self.invariant.0.service

pub returns-clause-same : goal.returns-clause-same
returns-clause-same g c =
    let inside = c.self.inside in
    let before = driver_of inside.lead inside.splits inside.hint inside.is_over in
    let after = driver_of c.read_boundary.new.lead inside.splits inside.hint inside.is_over in
    subst (λ (v : DriverView). IsSameDriver v after) c.self.view_is
    (still-keeps before after (boundary-still _ _ _ _ _ _ c.read_boundary.ensures) refl).same
