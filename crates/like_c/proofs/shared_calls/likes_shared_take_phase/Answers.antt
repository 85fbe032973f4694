use Rattle.std.proofs.Common.{Ok, Err, refl, rules, sym}
use Rattle.like_c.specs.Asks.{at_some, fills, makes_none}
use Rattle.like_c.specs.Status.{all_taken, status}
use Rattle.like_c.proofs.shared_calls.likes_shared_take_phase.Goals as goal

pub returns-in-Some-take_phase : goal.returns-in-Some-take_phase
returns-in-Some-take_phase c =
    let taken = c.in-Some-take_phase.taken in
    let told = c.in-Some-take_phase.ensures in
    fills taken.value (search rules) (at_some _ _ c.in-Some.ensures.service
    (Ok taken.value, (((taken, refl, sym told.taken), told.left), told.hub, told.cards), refl) refl) refl c.put.ensures

pub returns-in-None : goal.returns-in-None
returns-in-None c =
    let told = c.in-None.ensures in
    makes_none (search rules) (at_some _ _ c.in-Some.ensures.service
    (Err (status all_taken), ((refl, sym told.taken, told.left), told.hub, told.cards), refl) refl) (search rules)
