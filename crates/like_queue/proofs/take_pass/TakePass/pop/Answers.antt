use Rattle.std.proofs.Common.{◌≡◌, slice_get, Some, ap, subst, rules}
use Rattle.crossbeam_queue.specs.Passes.{view as known_by}
use Rattle.like_queue.specs.declared.known.Known.{Known}
use Rattle.like_queue.specs.Rule.{items_of}
use Rattle.like_queue.proofs.Items.{item-within}
use Rattle.like_queue.proofs.Steps.{takes}
use Rattle.like_queue.proofs.take_pass.TakePass.pop.Goals as goal

pub pop_as-requires-clause-rule : goal.pop_as-requires-clause-rule
pop_as-requires-clause-rule g c = (takes _ _ (ap (λ (v : Known). v.role) c.self.invariant.1.0), λ _ _ _ _. tt)

pub invariant_of-self-2 : goal.invariant_of-self-2
invariant_of-self-2 g c =
    let next : slice_get (items_of (known_by c.self.inside.pass).plan) c.self.inside.taken ≡ Some c.in_ok-item.item =
    subst (λ (v : Known). slice_get (items_of v.plan) v.count ≡ Some c.in_ok-item.item) c.self.invariant.1.0
    c.in_ok-item.ensures.rule.0 in
    let within = item-within 1 (known_by c.self.inside.pass).plan c.self.inside.taken c.in_ok-item.item next in
    search rules
