use Rattle.std.proofs.Common.{refl, inr, List}
use Rattle.std.proofs.lemmas.Result.{IfErr-weaker, IfOk-weaker, err_from_is_err_and}
use Rattle.like_requests.specs.declared.request.Request.{Request}
use Rattle.like_requests.specs.declared.script.Turned.{Turned}
use Rattle.like_promises.specs.Workload.{lists_of}
use Rattle.like_files.specs.Inputs.{GivesScript, setup_of}
use Rattle.like_files.proofs.Ended.{replay-fault}
use Rattle.like_files.proofs.FailedReads.{replay-told}
use Rattle.like_files.proofs.replay.replay_read.Goals as goal

pub returns-in_err-script-clause-replayed : goal.returns-in_err-script-clause-replayed
returns-in_err-script-clause-replayed g c inputs pages_given plans_given same =
    let p = err_from_is_err_and c.from_residual.result c.from_residual.ensures.1 in
    rw (p.1, p.2) (record {
      done = tt;
      fault = inr (record {
        pages = c.args.pages;
        plans = lists_of c.args.plans.items;
        pages_given = pages_given;
        plans_given = plans_given;
        holds = rw same c.in_err-script.ensures.given;
      });
      untouched = λ before. refl;
    })

pub returns-clause-replayed : goal.returns-clause-replayed
returns-clause-replayed g c inputs pages_given plans_given same =
    let pages = c.args.pages in
    let plans : List (List Request) = lists_of c.args.plans.items in
    let script : List Turned = c.in_ok-script.script.items in
    let given : GivesScript inputs.script script = rw same c.in_ok-script.ensures.given in
    let made = rw (c.with_pages-setup.ensures, c.deref.ensures.value) at c.replay_lists.ensures.replayed in
    record {
      done = IfOk-weaker c.replay_lists.result _ _
          (λ notice done. record {
            pages = pages;
            plans = plans;
            pages_given = pages_given;
            plans_given = plans_given;
            holds = (script, given, done);
          }) made.done;
      fault = IfErr-weaker c.replay_lists.result _ _
          (λ fault why. inr (record {
            pages = pages;
            plans = plans;
            pages_given = pages_given;
            plans_given = plans_given;
            holds = replay-fault inputs.script (setup_of c.args.options.now pages) plans script fault given why;
          })) made.fault;
      untouched = made.untouched;
    }

pub returns-clause-read : goal.returns-clause-read
returns-clause-read g c file files =
    replay-told file files c.args.script c.with_pages-setup.result
    (lists_of c.args.plans.items) c.deref.result.now c.replay_lists.result c.replay_lists.ensures.replayed.fault
