use Rattle.std.proofs.Common.{◌≡◌, ℕ, nat_lt, Option, Some, None, refl, ap, ◌∙◌, arith}
use Rattle.std.proofs.lemmas.Bool.{lt-ltb}
use Rattle.std.proofs.lemmas.Result.{IfOk-weaker}
use Rattle.std.specs.Option.{is_some, unwrap_or}
use Rattle.like_requests.specs.Setup.{IsHotLimit}
use Rattle.like_live.proofs.service.Service+Guided.open.Goals as goal

-- a limit of hot pages, if there is one, is above 0
finds-hot : (hot : Option ℕ) → IsHotLimit hot → nat_lt 0 (unwrap_or hot 0) ≡ is_some hot
finds-hot None limit = refl
finds-hot (Some least) limit = lt-ltb 0 least (omega (arith, (limit least refl).0))

pub returns-in-Ok-clause-finds : goal.returns-in-Ok-clause-finds
returns-in-Ok-clause-finds c =
    let within = c.in_ok-check.ensures in
    IfOk-weaker c.open_with.result _ _
    (λ s finds. finds ∙ ap (nat_lt 0) (c.in-Ok.ensures.hot ∙ c.unwrap_or-hot.ensures)
    ∙ finds-hot c.args.opening.now.hot within.1.1.1.1.1.1.1.0)
    c.open_with.ensures.finds
