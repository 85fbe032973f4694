use Rattle.std.proofs.Common.{◌≡◌, ◌∙◌, ◌+◌, ◌<◌, ℕ, List, [], Vec, Global, ap, sym, subst, arith, length, map, slice_index_or, below_more}
use Rattle.std.proofs.lemmas.List.{get_or-map, length-map}
use Rattle.like_requests.specs.Setup.{IsPlan}
use Rattle.like_requests.specs.declared.request.Request.{Request}
use Rattle.like_requests.proofs.Planned.{first-hot, first-plan, limits-hold}
use Rattle.like_requests.proofs.setup.check_setup.Goals as goal

pub loop-submitter-preserved : goal.loop-submitter-preserved
loop-submitter-preserved c = λ k d below. kept k below d
  where
    here : (d : List Request)
        → IsPlan c.args.setup.now.pages
        (slice_index_or (map (λ plan. plan.items) c.args.plans.now) c.loop-submitter.submitter d)
    here d =
        let within : c.loop-submitter.submitter < length c.args.plans.now = omega arith in
        rw (
          get_or-map (λ plan. plan.items) c.args.plans.now c.loop-submitter.submitter c.index-plans-submitter.result d
              within,
          ← c.index-plans-submitter.is,
          ← c.deref.ensures.value,
        )
        ((c.is_plan.ensures c.args.setup.now.pages (sym c.len.ensures.len)).0 c.if-not-is_plan.false)

    kept : (k : ℕ) → k < c.loop-submitter.submitter + 1 → (d : List Request)
        → IsPlan c.args.setup.now.pages (slice_index_or (map (λ plan. plan.items) c.args.plans.now) k d)
    kept = below_more
        (λ k. (d : List Request)
        → IsPlan c.args.setup.now.pages (slice_index_or (map (λ plan. plan.items) c.args.plans.now) k d))
        c.loop-submitter.submitter (λ k below d. c.loop-submitter.invariant k d below) here

pub returns-then-not-is_plan : goal.returns-then-not-is_plan
returns-then-not-is_plan c =
    let lists = map (λ plan. plan.items) c.args.plans.now in
    let many : length lists ≡ length c.args.plans.now = length-map c.args.plans.now (λ plan. plan.items) in
    let within : c.loop-submitter.submitter < length c.args.plans.now = omega arith in
    let here : slice_index_or lists c.loop-submitter.submitter [] ≡ c.deref.result.now =
    get_or-map (λ plan. plan.items) c.args.plans.now c.loop-submitter.submitter c.index-plans-submitter.result [] within
    ∙ (ap (λ (plan : Vec Request Global). plan.items) (sym c.index-plans-submitter.is) ∙ sym c.deref.ensures.value)
    in
    first-plan c.args.setup.now lists c.loop-submitter.submitter (c.in_default.ensures.broken lists many)
    (omega (arith, within, many)) (λ k below. c.loop-submitter.invariant k [] below)
    (λ good.
    let is = (c.is_plan.ensures c.args.setup.now.pages (sym c.len.ensures.len)).1
    (subst (IsPlan c.args.setup.now.pages) here good) in
    cc (is, c.if-not-is_plan.true))

pub returns-then-not-is_hot_limit : goal.returns-then-not-is_hot_limit
returns-then-not-is_hot_limit c =
    let lists = map (λ plan. plan.items) c.args.plans.now in
    let many : length lists ≡ length c.args.plans.now = length-map c.args.plans.now (λ plan. plan.items) in
    first-hot c.args.setup.now lists (c.in_default.ensures.broken lists many)
    (λ k h. c.loop-submitter.invariant k [] (omega (arith, h, many)))
    (λ hot. let is = c.is_hot_limit.ensures.1 hot in cc (is, c.if-not-is_hot_limit.true))

pub returns : goal.returns
returns c =
    let lists = map (λ plan. plan.items) c.args.plans.now in
    let many : length lists ≡ length c.args.plans.now = length-map c.args.plans.now (λ plan. plan.items) in
    limits-hold c.args.setup.now lists
    (c.in_default.ensures.broken lists many)
    (λ k h. c.loop-submitter.invariant k [] (omega (arith, h, many)))
    (λ least is. c.is_hot_limit.ensures.0 c.if-not-is_hot_limit.false least is)
