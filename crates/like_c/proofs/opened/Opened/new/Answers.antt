use Rattle.std.proofs.Common.{List, inr, map, ap, rules, subst, sym, ◌∙◌, IfErr}
use Rattle.std.proofs.lemmas.Result.{IfErr-weaker, IfOk-weaker}
use Rattle.std.specs.Prelude.{reverse}
use Rattle.like_c.specs.Opened.{seat_in}
use Rattle.like_live.specs.Driver.{DriverView}
use Rattle.like_live.specs.LiveView.{LiveView}
use Rattle.like_live.specs.Service.{AreOpened}
use Rattle.like_live.specs.Opening.{Asking, IsRefusedFor}
use Rattle.like_c.proofs.opened.Opened.new.Goals as goal

pub returns-clause-opened : goal.returns-clause-opened
returns-clause-opened c =
    let o = c.in-Ok.opening in
    let service = c.in_ok-service.service in
    IfOk-weaker c.of_service.result _ _
    (λ b is. record {
      opening = o;
      asks = c.in-Ok.ensures;
      opened = subst (λ (d : DriverView). AreOpened o d (reverse (map seat_in b.value.seats.items))) (sym is.0)
          (subst (λ (s : List LiveView). AreOpened o service.driver s) (sym is.1) c.in_ok-service.ensures.opened);
      told = ap (λ (d : DriverView). d.splits.told) is.0 ∙ c.in_ok-service.ensures.told;
      finds = ap (λ (d : DriverView). d.splits.finds) is.0 ∙ c.in_ok-service.ensures.finds;
      room = is.2;
      phase = is.3;
    })
    c.of_service.ensures.opened

pub returns-clause-refused : goal.returns-clause-refused
returns-clause-refused c =
    IfErr-weaker c.of_service.result _ _ (λ e is. inr (is, c.in_ok-check.ensures)) c.of_service.ensures.refused

pub returns-in_err-service-clause-refused : goal.returns-in_err-service-clause-refused
returns-in_err-service-clause-refused c =
    subst (λ (asked : Asking). IfErr c.from_residual-in_err-service.result (IsRefusedFor asked))
    c.in-Ok.ensures (search rules)
