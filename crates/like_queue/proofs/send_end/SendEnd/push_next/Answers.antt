use Rattle.std.proofs.Common.{◌≡◌, ◌∙◌, ℕ, ◌+◌, ◌≤◌, length, slice_get, Some, None, sym, subst, ap, arith}
use Rattle.like_requests.specs.declared.request.Request.{Request}
use Rattle.like_queue.specs.Line.{Sender, next_of}
use Rattle.like_queue.specs.Rule.{items_of}
use Rattle.like_queue.proofs.Items.{all-sent, item-of-end, item-of-request}
use Rattle.like_queue.proofs.send_end.SendEnd.push_next.Goals as goal
use Rattle.like_queue.proofs.send_end.SendEnd.push_next.Goals.{in-Some, in-None}

-- the next request, with the number behind that of the last, is the next item
request_next : (s : Sender) (r : Request) (sent : ℕ)
    → next_of s ≡ Some r
    → sent ≡ s.sent
    → slice_get (items_of s.line.plan) s.sent ≡ Some (Some (record { number = sent + 1; request = r }))
request_next s r sent next same =
    let number : 1 + s.sent ≡ sent + 1 = omega (arith, same) in
    item-of-request 1 s.line.plan s.sent r next
    ∙ ap (λ n. Some (Some (record { number = n; request = r }))) number

-- after the last request the end mark is
end_next : (s : Sender) → next_of s ≡ None → s.sent ≤ length s.line.plan
    → slice_get (items_of s.line.plan) s.sent ≡ Some None
end_next s none within =
    let past : length s.line.plan ≤ s.sent = all-sent s.line.plan s.sent none in
    let all : s.sent ≡ length s.line.plan = omega arith in
    ap (slice_get (items_of s.line.plan)) all ∙ item-of-end 1 s.line.plan

pub push-requires-clause-next : goal.push-requires-clause-next
push-requires-clause-next g c =
    let s : Sender = c.args.self.now in
    subst (λ (v : Sender). slice_get (items_of v.line.plan) v.sent ≡ Some c.match-next.item) (sym c.self.view_is)
    (elim c.match-next.branch [
      | in-Some w ↦ request_next s w.in-Some.request w.sent.result (sym c.next.ensures.next ∙ w.in-Some.is)
          (w.sent.ensures ∙ ap (λ (v : Sender). v.sent) c.self.view_is) ∙ ap Some (sym w.item-is)
      | in-None w ↦ end_next s (sym c.next.ensures.next ∙ w.in-None.is) c.requires ∙ ap Some (sym w.item-is)
    ])
