use Rattle.std.proofs.Common.{◌++◌, ap, ◌∙◌, refl, subst, sym}
use Rattle.std.specs.Option.{option_to_list}
use Rattle.like_core.specs.Post.{IsFresh}
use Rattle.test_parts.proofs.Walk.{last_fresh}
use Rattle.test_parts.proofs.board.last_post.Goals as goal

pub at-requires : goal.at-requires
at-requires g c =
    let left = c.pop.new.self.items in
    let popped = c.pop.ensures.items ∙ ap (λ o. left ++ option_to_list o) c.expect-seat.ensures in
    (last_fresh _ _ _ left c.expect-seat.result c.requires.fresh popped).0

pub returns-clause-fresh : goal.returns-clause-fresh
returns-clause-fresh g c =
    let left = c.pop.new.self.items in
    let popped = c.pop.ensures.items ∙ ap (λ o. left ++ option_to_list o) c.expect-seat.ensures in
    subst IsFresh
    (sym (c.at.ensures.view ∙ (last_fresh _ _ _ left c.expect-seat.result c.requires.fresh popped).1)) refl

pub returns-clause-limits : goal.returns-clause-limits
returns-clause-limits g c =
    let left = c.pop.new.self.items in
    let popped = c.pop.ensures.items ∙ ap (λ o. left ++ option_to_list o) c.expect-seat.ensures in
    let fresh = last_fresh _ _ _ left c.expect-seat.result c.requires.fresh popped in
    ap (λ v. v.opening.limits) (c.at.ensures.view ∙ fresh.1) ∙ c.requires.limits_are
