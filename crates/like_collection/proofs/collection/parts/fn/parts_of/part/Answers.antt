use Rattle.std.proofs.Common.{◌∙◌, subst, length}
use Rattle.std.proofs.lemmas.Option.{get_or_from_slice_get}
use Rattle.std.proofs.lemmas.Result.{IfOk-weaker}
use Rattle.like_promises.specs.declared.log.WorkerLog.{WorkerLog}
use Rattle.like_collection.specs.Parts.{IsPart}
use Rattle.like_collection.proofs.collection.parts.fn.parts_of.part.Goals as goal

pub returns : goal.returns
returns c =
    IfOk-weaker c.part_of.result _ _
    (λ part is log at.
    subst (λ (log : WorkerLog). IsPart (length c.captures.logs.now) c.captures.sizes.now c.args.worker log part)
    (c.index-logs-worker.is
    ∙ get_or_from_slice_get c.captures.logs.now c.args.worker log c.index-logs-worker.result at)
    is)
    c.part_of.ensures
