use Rattle.std.proofs.Common.{◌≡◌, slice_get, Some, sym, ap, subst, rules}
use Rattle.crossbeam_queue.specs.Passes.{view as known_by}
use Rattle.like_queue.specs.declared.known.Known.{Known}
use Rattle.like_queue.specs.Line.{Sender}
use Rattle.like_queue.specs.Rule.{items_of}
use Rattle.like_queue.proofs.Items.{item-within}
use Rattle.like_queue.proofs.Steps.{sends, sent-before}
use Rattle.like_queue.proofs.send_pass.SendPass.push.Goals as goal

pub push_as-requires-clause-rule : goal.push_as-requires-clause-rule
push_as-requires-clause-rule g c =
    let knows = c.self.invariant.1.0 in
    let role = ap (λ (v : Known). v.role) knows in
    let next : slice_get (items_of (known_by c.self.inside.pass).plan) c.self.inside.sent ≡ Some c.args.item =
    subst (λ (s : Sender). slice_get (items_of s.line.plan) s.sent ≡ Some c.args.item)
    (sym c.self.view_is) c.requires.next in (
      sends _ _ _ _ role
          (subst (λ (v : Known). slice_get (items_of v.plan) v.count ≡ Some c.args.item) (sym knows) next),
      sent-before _ _ role,
    )

pub invariant_of-self : goal.invariant_of-self
invariant_of-self g c =
    let next : slice_get (items_of (known_by c.self.inside.pass).plan) c.self.inside.sent ≡ Some c.args.item =
    subst (λ (s : Sender). slice_get (items_of s.line.plan) s.sent ≡ Some c.args.item)
    (sym c.self.view_is) c.requires.next in
    let within = item-within 1 (known_by c.self.inside.pass).plan c.self.inside.sent c.args.item next in
    search rules
