use Rattle.std.proofs.Common.{List, Vec, Global, ◌∙◌}
use Rattle.std.proofs.lemmas.Iterator.Adapters.{YieldsList-from_vec}
use Rattle.std.proofs.lemmas.Iterator.Consumers.{YieldsList-turn}
use Rattle.std.proofs.lemmas.Result.{err_from_is_err_and}
use Rattle.like_requests.specs.RequestsFile.{IsRequestsFault, IsRequestsFile}
use Rattle.like_records.specs.Rows.{Record}
use Rattle.like_requests.specs.declared.request.Request.{Request}
use Rattle.like_collection.proofs.Lists.{take-more_taken}
use Rattle.like_files.proofs.FailedReads.{next-told}
use Rattle.like_files.proofs.Planned.{GivesPlans-next, RefusesPlans-next, of_records}
use Rattle.like_files.proofs.plans.read_plans.Goals as goal

pub loop-reader-preserved : goal.loop-reader-preserved
loop-reader-preserved g c =
    let from = c.into_iter-reader-iterator.ensures.into_iter_gives in
    let all = YieldsList-from_vec {s = c.into_iter-reader-iterator.result} c.args.requests.items from.0
    (from.1 ∙ c.args.requests.ok.0) in
    let turn = YieldsList-turn all c.loop-reader.yielded _ c.loop-reader.yielded_by _ c.next.new.self c.in-Some.reader
    c.in-Some.is c.next.ensures.steps in
    let reads = of_records (g.R.Read.remaining c.in-Some.reader)
    (λ (rows : List Record) (plan : Vec Request Global). IsRequestsFile c.args.pages.now rows plan.items)
    IsRequestsFault
    c.read_requests.result c.read_requests.ensures.file in (
      GivesPlans-next g.R.Read.remaining c.args.pages.now c.loop-reader.yielded c.in-Some.reader c.read_requests.result
          c.loop-reader.plans.items c.add_plan.new.plans.items c.loop-reader.invariant.0 reads
          c.in_ok-add_plan.ensures.added,
      take-more_taken c.args.requests.items c.loop-reader.yielded c.in-Some.reader c.loop-reader.invariant.1 turn.0
          turn.1,
    )

pub returns-in_err-add_plan : goal.returns-in_err-add_plan
returns-in_err-add_plan g c =
    let from = c.into_iter-reader-iterator.ensures.into_iter_gives in
    let all = YieldsList-from_vec {s = c.into_iter-reader-iterator.result} c.args.requests.items from.0
    (from.1 ∙ c.args.requests.ok.0) in
    let turn = YieldsList-turn all c.loop-reader.yielded _ c.loop-reader.yielded_by _ c.next.new.self c.in-Some.reader
    c.in-Some.is c.next.ensures.steps in
    let reads = of_records (g.R.Read.remaining c.in-Some.reader)
    (λ (rows : List Record) (plan : Vec Request Global). IsRequestsFile c.args.pages.now rows plan.items)
    IsRequestsFault
    c.read_requests.result c.read_requests.ensures.file in
    let p = err_from_is_err_and c.from_residual.result c.from_residual.ensures.1 in
    rw (p.1, p.2) (record {
      plans = RefusesPlans-next
          g.R.Read.remaining c.args.pages.now c.args.requests.items c.loop-reader.yielded c.in-Some.reader
          c.read_requests.result c.loop-reader.plans.items c.in_err-add_plan.field-0.0
          c.loop-reader.invariant.1 turn.0 turn.1 c.loop-reader.invariant.0 reads c.in_err-add_plan.ensures.stopped;
      read = next-told g.R.Read.remaining c.args.pages.now c.args.requests.items c.loop-reader.yielded c.in-Some.reader
          c.read_requests.result c.loop-reader.plans.items c.in_err-add_plan.field-0.0
          turn.0 turn.1 c.loop-reader.invariant.0 c.read_requests.ensures.read c.in_err-add_plan.ensures.stopped;
    })
