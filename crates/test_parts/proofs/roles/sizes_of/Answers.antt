use Rattle.std.proofs.Common.{◌≡◌, ◌≤◌, ◌∙◌, ℕ, Vec, Global, Fits, w32, length, map, ap, sym, subst, arith}
use Rattle.std.proofs.lemmas.List.{length-map, take_all}
use Rattle.like_limits.specs.Limits.{max_requests}
use Rattle.like_requests.specs.declared.request.Request.{Request}
use Rattle.test_parts.proofs.Playing.{sizes_twice, small_at}
use Rattle.test_parts.proofs.roles.sizes_of.Goals as goal

-- how many requests a plan has
abbrev size_of : Vec Request Global → ℕ
size_of plan = length plan.items

-- a number of requests is small
fits-size : (number size : ℕ) → number ≡ size → size ≤ max_requests → Fits w32 number
fits-size number size same few = omega arith

pub overflow_cast-len : goal.overflow_cast-len
overflow_cast-len c =
    fits-size c.len.result (size_of c.plan-item.result) (c.len.ensures ∙ c.plan-item.result.ok.0)
    (subst (λ (plan : Vec Request Global). size_of plan ≤ max_requests) (sym c.plan-item.is)
    (small_at c.args.plans.now c.loop-plan.plan-index c.plan-item.result c.requires c.loop-plan-test.true))

pub returns-clause-sizes : goal.returns-clause-sizes
returns-clause-sizes c =
    c.loop-plan.invariant
    ∙ ap (map size_of) (take_all c.loop-plan.plan-index c.args.plans.now c.loop-plan-test.false)
    ∙ sizes_twice c.args.plans.now

pub returns-clause-len : goal.returns-clause-len
returns-clause-len c =
    ap length c.loop-plan.invariant
    ∙ ap (λ xs. length (map size_of xs)) (take_all c.loop-plan.plan-index c.args.plans.now c.loop-plan-test.false)
    ∙ length-map c.args.plans.now size_of
