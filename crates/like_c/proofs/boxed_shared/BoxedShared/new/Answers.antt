use Rattle.std.proofs.Common.{◌≡◌, [], inr, rules, subst, sym, IfErr}
use Rattle.std.proofs.lemmas.Result.{IfErr-weaker, IfOk-weaker}
use Rattle.std.specs.Option.{is_some}
use Rattle.told_lock.specs.Rights.{first_of, told_of}
use Rattle.told_lock.specs.declared.keeper.Keeper.{Keeper}
use Rattle.like_live.specs.Opening.{Asking, IsRefusedFor}
use Rattle.like_live.specs.Service.{AreOpened}
use Rattle.like_shared.specs.declared.desk.DeskDeed.{DeskDeed}
use Rattle.like_shared.specs.declared.hub.Hub.{Hub}
use Rattle.like_shared.specs.declared.service.ServiceKeeper.{ServiceKeeper}
use Rattle.like_shared.specs.Shared.{IsUnused, first_driver, first_seats}
use Rattle.like_c.proofs.boxed_shared.BoxedShared.new.Goals as goal

-- what makes the cards of a desk
abbrev Cards : Type 0
Cards = Keeper ServiceKeeper DeskDeed

pub returns-clause-opened : goal.returns-clause-opened
returns-clause-opened c =
    let o = c.in-Ok.opening in
    let opened = c.in_ok-hub.ensures in
    IfOk-weaker c.of_hub.result _ _
    (λ b is. record {
      opening = o;
      asks = c.in-Ok.ensures;
      opened =
          subst (λ (h : Hub). AreOpened o (first_driver h.service) (first_seats h.service)) (sym is.0) opened.opened;
      proposed = subst (λ (h : Hub). (first_driver h.service).splits.told ≡ []) (sym is.0) opened.proposed;
      finds = subst (λ (h : Hub). (first_driver h.service).splits.finds ≡ is_some o.hot) (sym is.0) opened.finds;
      unused = subst (λ (h : Hub). IsUnused (first_of h.desk)) (sym is.0) opened.unused;
      out = subst (λ (k : Cards). k.out ≡ 0) (sym is.1) opened.out;
      told = subst (λ (k : Cards). told_of k ≡ []) (sym is.1) opened.told;
      phase = is.2;
    })
    c.of_hub.ensures.opened

pub returns-clause-refused : goal.returns-clause-refused
returns-clause-refused c =
    IfErr-weaker c.of_hub.result _ _ (λ e is. inr (is, c.in_ok-check.ensures)) c.of_hub.ensures.refused

pub returns-in_err-hub-clause-refused : goal.returns-in_err-hub-clause-refused
returns-in_err-hub-clause-refused c =
    subst (λ (asked : Asking). IfErr c.from_residual-in_err-hub.result (IsRefusedFor asked))
    c.in-Ok.ensures (search rules)
