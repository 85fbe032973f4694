use Rattle.std.proofs.Common.{arith, length, sym, ap, ◌∙◌, subst}
use Rattle.told_lock.specs.Deeds.{deeds_in}
use Rattle.like_live.specs.Service.{AreGone}
use Rattle.like_shared.specs.Closed.{LeadsTo}
use Rattle.like_shared.specs.Shared.{first_driver}
use Rattle.like_shared.proofs.Closing.{closed-shared, leads-to}
use Rattle.like_shared.proofs.Runs.{driver-runs}
use Rattle.like_shared.proofs.service.SharedService.close.Goals as goal

pub close-requires-clause-whole : goal.close-requires-clause-whole
close-requires-clause-whole c =
    (leads-to c.calls_keep_seats.ensures c.args.self c.args.keeper c.close-driver.result c.close_all.new.back.items
    c.requires.keeper.whole c.close-driver.ensures c.close_all.ensures).whole

pub close-requires-clause-places : goal.close-requires-clause-places
close-requires-clause-places c =
    let s = c.args.self in
    let leads = c.close-driver.ensures in
    let same = driver-runs (first_driver s) c.close-driver.result (deeds_in leads.order) leads.run in
    c.requires.places ∙ sym (ap (λ z. length z.counts) same.opening)

pub returns-in-Ok-clause-closed : goal.returns-in-Ok-clause-closed
returns-in-Ok-clause-closed c =
    let s = c.args.self in
    let k = c.args.keeper in
    let driver = c.close-driver.result in
    let back = c.close_all.new.back.items in
    closed-shared c.shared_services_are_strict.ensures s k driver back c.close.new.counts (omega (arith, c.if-keeper-gt0.false))
    (leads-to c.calls_keep_seats.ensures s k driver back c.requires.keeper.whole c.close-driver.ensures
    c.close_all.ensures)
    c.in-Ok.ensures.closed c.in-Ok.ensures.gone

pub returns-clause-not : goal.returns-clause-not
returns-clause-not c =
    let s = c.args.self in
    let k = c.args.keeper in
    let driver = c.close-driver.result in
    let back = c.close_all.new.back.items in
    let service = c.in-Err.field-0.service in
    let is = c.in-Err.ensures.back in
    let seats-are = ap (λ x. x.seats.items) is in (
      omega (arith, c.if-keeper-gt0.false),
      subst (λ d. LeadsTo s k d service.seats.items) (sym (ap (λ x. x.driver) is))
          (subst (LeadsTo s k driver) (sym seats-are)
          (leads-to c.calls_keep_seats.ensures s k driver back c.requires.keeper.whole c.close-driver.ensures
          c.close_all.ensures)),
      λ gone. c.in-Err.ensures.some (subst AreGone seats-are gone),
    )
