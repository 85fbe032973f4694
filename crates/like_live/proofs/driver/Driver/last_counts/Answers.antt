use Rattle.std.proofs.Common.{Bool, true, false, refl, subst}
use Rattle.like_live.specs.Driver.{DriverView, IsSameDriver, ReadsLast, TakesLast, driver_of}
use Rattle.like_live.proofs.Turning.{last-still, same-parts, same-room, same-service, still-keeps}
use Rattle.like_live.proofs.driver.Driver.last_counts.Goals as goal

pub returns-then-not-read_last-clause-case : goal.returns-then-not-read_last-clause-case
returns-then-not-read_last-clause-case g c =
    let inside = c.self.inside in
    let after = c.read_last.new.lead in
    let old = c.args.counts.now in
    subst (λ (v : DriverView). TakesLast v c.args.from old false (driver_of after inside.splits inside.hint inside.is_over)
    c.read_last.new.counts) c.self.view_is
    (record {
      case = subst (λ (b : Bool). ReadsLast inside.lead c.args.from old b after c.read_last.new.counts)
          c.if-not-read_last.true c.read_last.ensures;
      over = refl;
    })

pub returns-clause-case : goal.returns-clause-case
returns-clause-case g c =
    let inside = c.self.inside in
    let after = c.read_last.new.lead in
    let old = c.args.counts.now in
    subst (λ (v : DriverView). TakesLast v c.args.from old true (driver_of after inside.splits inside.hint true)
    c.read_last.new.counts) c.self.view_is
    (record {
      case = subst (λ (b : Bool). ReadsLast inside.lead c.args.from old b after c.read_last.new.counts)
          c.if-not-read_last.false c.read_last.ensures;
      over = refl;
    })

pub invariant_of-self : goal.invariant_of-self
invariant_of-self g c =
    let inside = c.self.inside in
    let is = still-keeps (driver_of inside.lead inside.splits inside.hint inside.is_over)
    (driver_of c.read_last.new.lead inside.splits inside.hint inside.is_over) (last-still _ _ _ _ _ _ c.read_last.ensures) refl in
    (same-parts _ _ _ _ is c.self.invariant.0, same-room _ _ _ is c.self.invariant.1)

pub invariant_of-self-2 : goal.invariant_of-self-2
invariant_of-self-2 g c =
    let inside = c.self.inside in
    let is = still-keeps (driver_of inside.lead inside.splits inside.hint inside.is_over)
    (driver_of c.read_last.new.lead inside.splits inside.hint true) (last-still _ _ _ _ _ _ c.read_last.ensures) refl in
    (same-parts _ _ _ _ is c.self.invariant.0, same-room _ _ _ is c.self.invariant.1)

pub returns-then-not-read_last-clause-keeps : goal.returns-then-not-read_last-clause-keeps
returns-then-not-read_last-clause-keeps g c =
    let inside = c.self.inside in
    let before = driver_of inside.lead inside.splits inside.hint inside.is_over in
    let after = driver_of c.read_last.new.lead inside.splits inside.hint inside.is_over in
    same-service before after
    (still-keeps before after (last-still _ _ _ _ _ _ c.read_last.ensures) refl) c.self.invariant.0.service

pub returns-then-not-read_last-clause-same : goal.returns-then-not-read_last-clause-same
returns-then-not-read_last-clause-same g c =
    let inside = c.self.inside in
    let before = driver_of inside.lead inside.splits inside.hint inside.is_over in
    let after = driver_of c.read_last.new.lead inside.splits inside.hint inside.is_over in
    subst (λ (v : DriverView). IsSameDriver v after) c.self.view_is
    (still-keeps before after (last-still _ _ _ _ _ _ c.read_last.ensures) refl).same

pub returns-clause-keeps : goal.returns-clause-keeps
returns-clause-keeps g c =
    let inside = c.self.inside in
    let before = driver_of inside.lead inside.splits inside.hint inside.is_over in
    let after = driver_of c.read_last.new.lead inside.splits inside.hint true in
    same-service before after
    (still-keeps before after (last-still _ _ _ _ _ _ c.read_last.ensures) refl) c.self.invariant.0.service

pub returns-clause-same : goal.returns-clause-same
returns-clause-same g c =
    let inside = c.self.inside in
    let before = driver_of inside.lead inside.splits inside.hint inside.is_over in
    let after = driver_of c.read_last.new.lead inside.splits inside.hint true in
    subst (λ (v : DriverView). IsSameDriver v after) c.self.view_is
    (still-keeps before after (last-still _ _ _ _ _ _ c.read_last.ensures) refl).same
