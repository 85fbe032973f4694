use Rattle.std.proofs.Common.{◌≡◌, arith, length, map, vec_capacity, ap, refl, subst, sym, ◌∙◌}
use Rattle.std.proofs.lemmas.List.{length-map, length-reverse}
use Rattle.std.proofs.lemmas.Result.{IfOk-weaker}
use Rattle.std.specs.Prelude.{IsSome, reverse}
use Rattle.like_c.specs.Opened.{seat_in}
use Rattle.like_c.specs.declared.opened.Opened.{Opened}
use Rattle.like_c.proofs.opened.Opened.of_service.Goals as goal

pub returns-clause-opened : goal.returns-clause-opened
returns-clause-opened c =
    let seats = c.in_ok-seats.seats.items in
    let room : vec_capacity c.in-Ok.back ≡ length seats =
    omega (
      arith,
      c.in-Ok.ensures.exact,
      c.len.ensures,
      ap length c.in_ok-seats.ensures.boxed,
      length-reverse (map seat_in seats),
      length-map seats seat_in,
    ) in
    IfOk-weaker c.in_box.result _ _
    (λ b is. (
      ap (λ (o : Opened). o.driver) is,
      ap (λ (o : Opened). reverse (map seat_in o.seats.items)) is ∙ c.in_ok-seats.ensures.boxed,
      ap (λ (o : Opened). vec_capacity o.back) is ∙ room ∙ sym (ap (λ (o : Opened). length o.seats.items) is),
      subst (λ (o : Opened). IsSome o.phase) (sym is) refl,
    ))
    c.in_box.ensures.boxed
