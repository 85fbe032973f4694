use Rattle.std.proofs.Common.{◌∷◌, ◌++◌, [], ap, sym, ◌∙◌}
use Rattle.std.proofs.lemmas.Iterator.Adapters.{YieldsList-from_vec}
use Rattle.std.proofs.lemmas.Iterator.Consumers.{YieldsList-turn}
use Rattle.like_collection.proofs.Lists.{take-more_taken}
use Rattle.like_files.proofs.plans.gather.Goals as goal

pub loop-answer-preserved : goal.loop-answer-preserved
loop-answer-preserved c =
    let l = c.loop-answer in
    let from = c.into_iter-answer-iterator.ensures.into_iter_gives in
    let all = YieldsList-from_vec {s = c.into_iter-answer-iterator.result} c.args.answers.items from.0
    (from.1 ∙ c.args.answers.ok.0) in
    let turn = YieldsList-turn all l.yielded _ l.yielded_by _ c.next.new.self c.in-Some.answer c.in-Some.is
    c.next.ensures.steps in (
      ap (λ answers. answers ++ c.in-Some.answer ∷ []) l.invariant.0 ∙ sym c.in_ok-add_plan.ensures.added,
      take-more_taken c.args.answers.items l.yielded c.in-Some.answer l.invariant.1 turn.0 turn.1,
    )
