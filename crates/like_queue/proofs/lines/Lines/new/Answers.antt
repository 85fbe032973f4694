use Rattle.std.proofs.Common.{◌≡◌, ◌≤◌, ◌∙◌, ◌++◌, ◌∷◌, [], List, Vec, Global, length, map, sym, ap, subst}
use Rattle.std.proofs.lemmas.Iterator.Adapters.{YieldsList-from_vec}
use Rattle.std.proofs.lemmas.Iterator.Consumers.{YieldsList-end, YieldsList-turn}
use Rattle.std.proofs.lemmas.List.{map-id, map_push}
use Rattle.like_limits.specs.Limits.{max_requests}
use Rattle.like_requests.specs.declared.request.Request.{Request}
use Rattle.like_queue.specs.Line.{LineId, Sender, Taker}
use Rattle.like_queue.specs.Lines.{new_ends, new_sender, new_taker}
use Rattle.like_queue.proofs.lines.Lines.new.Goals as goal

abbrev requests_of : Vec Request Global → List Request
requests_of plan = plan.items

abbrev lists_of : List (Vec Request Global) → List (List Request)
lists_of plans = map requests_of plans

abbrev plan_of : LineId → List Request
plan_of line = line.plan

-- one line more, of one plan more
plans-more : (lines now : List LineId) (line : LineId) (plans : List (Vec Request Global)) (plan : Vec Request Global)
    → now ≡ lines ++ line ∷ []
    → map plan_of lines ≡ lists_of plans
    → line.plan ≡ plan.items
    → map plan_of now ≡ lists_of (plans ++ plan ∷ [])
plans-more lines now line plans plan pushed before is =
    ap (map plan_of) pushed ∙ map_push plan_of lines line ∙ ap (λ xs. xs ++ line.plan ∷ []) before
    ∙ ap (λ requests. lists_of plans ++ requests ∷ []) is ∙ sym (map_push requests_of plans plan)

-- and the passes of its ends
passes-more : (lines now : List LineId) (line : LineId) (passes more : List (Sender × Taker)) (send : Sender)
    (take : Taker)
    → now ≡ lines ++ line ∷ []
    → more ≡ passes ++ (send, take) ∷ []
    → passes ≡ map new_ends lines
    → send ≡ new_sender line → take ≡ new_taker line → more ≡ map new_ends now
passes-more lines now line passes more send take pushed added before sends takes =
    added ∙ ap (λ xs. xs ++ (send, take) ∷ []) before ∙ ap (λ s. map new_ends lines ++ (s, take) ∷ []) sends
    ∙ ap (λ t. map new_ends lines ++ (new_sender line, t) ∷ []) takes ∙ sym (map_push new_ends lines line)
    ∙ sym (ap (map new_ends) pushed)

pub new-requires : goal.new-requires
new-requires c =
    let l = c.loop-plan in
    let from = c.into_iter-plan-iterator.ensures.into_iter_gives in
    let all = YieldsList-from_vec {s = c.into_iter-plan-iterator.result} c.args.plans.items from.0
    (from.1 ∙ c.args.plans.ok.0) in
    let turn = YieldsList-turn all l.yielded _ l.yielded_by _ c.next.new.self c.in-Some.plan c.in-Some.is
    c.next.ensures.steps in
    subst (λ (plan : Vec Request Global). length plan.items ≤ max_requests) (sym turn.1)
    (c.requires (length l.yielded) c.in-Some.plan turn.0)

pub loop-plan-preserved : goal.loop-plan-preserved
loop-plan-preserved c =
    let l = c.loop-plan in
    record {
      plans_are = plans-more l.lines.items c.push.new.self.items c.in_ok-line.line l.yielded c.in-Some.plan
          c.in_ok-push.ensures.items l.invariant.plans_are c.in_ok-line.ensures.line;
      passes = passes-more l.lines.items c.push.new.self.items c.in_ok-line.line l.passes.items _ c.in_ok-line.send
          c.in_ok-line.take c.in_ok-push.ensures.items c.in_ok-push-2.ensures.items l.invariant.passes
          c.in_ok-line.ensures.send c.in_ok-line.ensures.take;
    }

pub returns : goal.returns
returns c =
    let l = c.loop-plan in
    let from = c.into_iter-plan-iterator.ensures.into_iter_gives in
    let all = YieldsList-from_vec {s = c.into_iter-plan-iterator.result} c.args.plans.items from.0
    (from.1 ∙ c.args.plans.ok.0) in
    let end = YieldsList-end all l.yielded _ l.yielded_by _ c.next.new.self c.in-None.is c.next.ensures.steps in
    record {
      plans_are = l.invariant.plans_are ∙ ap lists_of (sym (map-id l.yielded) ∙ end.0);
      passes = l.invariant.passes;
    }
