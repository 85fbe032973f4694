use Rattle.std.proofs.Common.{[], ◌∷◌, ◌++◌, ap, ◌∙◌}
use Rattle.told_lock.specs.Deeds.{named}
use Rattle.told_lock.specs.Rights.{seens_of, told_of}
use Rattle.like_shared.proofs.service.clients.take_pass.Goals as goal

pub returns-clause-told : goal.returns-clause-told
returns-clause-told c =
    let free = c.free.ensures in
    c.take_back.ensures.told ∙ (λ i. told_of c.args.keeper.now ++ named (free.name i) (free.log i))

pub returns-clause-seen : goal.returns-clause-seen
returns-clause-seen c = c.take_back.ensures.seens ∙ ap (λ s. seens_of c.args.keeper.now ++ s ∷ []) c.free.ensures.seen
