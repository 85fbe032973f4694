use Rattle.std.proofs.Common.{◌≡◌, ℕ, ◌+◌, ◌<◌, ◌≤◌, List, length, slice_get, Some, None, sym, ap, ◌∙◌, subst, refl, arith}
use Rattle.like_requests.specs.declared.request.Request.{Request}
use Rattle.like_requests.specs.declared.request.Taken.{Taken}
use Rattle.like_requests.specs.declared.request.Taken.TheVariants as taken
use Rattle.like_queue.specs.Inbox.{HandsOver, item_count}
use Rattle.like_queue.specs.Line.{LineId, Taker, inbox_of}
use Rattle.like_queue.specs.Rule.{Item, items_of}
use Rattle.like_queue.proofs.Items.{end-of-item, request-of-item}
use Rattle.like_queue.proofs.take_end.TakeEnd.take.Goals as goal
use Rattle.like_queue.proofs.take_end.TakeEnd.take.Goals.{in-Some-item, in-None}

-- the answer for an item that was taken
abbrev answer-of : Item → Taken
answer-of (Some ask) = taken.Ask ask
answer-of None = taken.End

hands-item : (plan : List Request) (n : ℕ) (item : Item)
    → slice_get (items_of plan) n ≡ Some item
    → HandsOver (record { plan = plan; taken = n }) (answer-of item) (record { plan = plan; taken = n + 1 })
hands-item plan n (Some ask) h =
    let r = request-of-item 1 plan n ask h in
    let number : 1 + n ≡ n + 1 = omega arith in
    (r.0, r.1 ∙ number, refl)
hands-item plan n None h =
    let all : n ≡ _ = end-of-item 1 plan n h in
    (omega arith, ap (λ m. record { plan = plan; taken = m + 1 }) all)

-- who has taken more than all requests has taken the end mark
at-end : (t : Taker)
    → length t.line.plan < t.taken
    → t.taken ≤ item_count t.line.plan
    → HandsOver (inbox_of t) taken.End (inbox_of t)
at-end t past few = (omega arith, ap (λ n. record { plan = t.line.plan; taken = n }) (omega arith))

pub returns-then-taken-len-clause-taken : goal.returns-then-taken-len-clause-taken
returns-then-taken-len-clause-taken g c =
    let t : Taker = c.args.self.now in
    let took : c.taken.result ≡ t.taken = c.taken.ensures.taken ∙ ap (λ (p : Taker). p.taken) c.self.view_is in
    let plan : length c.line.inside.plan.items ≡ length t.line.plan =
    ap (λ (l : LineId). length l.plan) (c.line.view_is ∙ sym c.self.invariant)
    ∙ ap (λ (p : Taker). length p.line.plan) c.self.view_is in
    let few : t.taken ≤ item_count t.line.plan =
    subst (λ (p : Taker). p.taken ≤ item_count p.line.plan) c.self.view_is
    (rw (sym c.taken.ensures.taken) c.taken.ensures.few) in
    at-end t (omega (arith, c.if-taken-len.true, took, plan, c.len.ensures, c.line.inside.plan.ok.0)) few

pub returns-clause-taken : goal.returns-clause-taken
returns-clause-taken g c =
    let p : Taker = c.self.inside.pass in
    let answer : c.match-item.result ≡ answer-of c.in-Some.item = elim c.match-item.branch [
      | in-Some-item w ↦ w.result-is ∙ ap answer-of (sym w.in-Some-item.is)
      | in-None w ↦ w.result-is ∙ ap answer-of (sym w.in-None.is)
    ] in
    let next = c.in-Some.ensures.next in
    subst (λ (t : Taker). HandsOver (inbox_of t) c.match-item.result (inbox_of c.pop.new.self)) c.self.view_is
    (subst (λ x. HandsOver (inbox_of p) x (inbox_of c.pop.new.self)) (sym answer)
    (subst (λ (t : Taker). HandsOver (inbox_of p) (answer-of c.in-Some.item) (inbox_of t)) (sym next.1)
    (hands-item p.line.plan p.taken c.in-Some.item next.0)))
