use Rattle.std.proofs.Common.{Ok, Err, refl, rules, sym, ◌∙◌}
use Rattle.std.proofs.lemmas.List.{nil_from_length}
use Rattle.like_c.specs.Asks.{at_some, fills, makes_none}
use Rattle.like_c.specs.Status.{all_taken, status}
use Rattle.like_c.proofs.likes_driver_take_seat.Goals as goal

pub returns-in-Some-pop : goal.returns-in-Some-pop
returns-in-Some-pop c =
    let taken = c.in-Some-pop.taken in
    fills taken.value (search rules) (at_some _ _ c.in-Some.ensures.driver
    (Ok taken.value, ((taken, refl, c.in-Some-pop.ensures.items), refl), refl) refl) refl c.put.ensures

pub returns-in-None : goal.returns-in-None
returns-in-None c =
    makes_none (search rules) (at_some _ _ c.in-Some.ensures.driver (
      Err (status all_taken),
      (
        refl,
        nil_from_length c.in-Some.opened.now.seats.items
            (sym c.in-Some.opened.now.seats.ok.0 ∙ c.in-None.ensures.cases.0),
        nil_from_length c.pop.new.self.items (sym c.pop.new.self.ok.0 ∙ c.in-None.ensures.cases.1),
        refl,
      ),
      refl,
    ) refl) (search rules)
