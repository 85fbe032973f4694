use Rattle.std.proofs.Common.{[]}
use Rattle.std.proofs.lemmas.Result.{IfOk-weaker}
use Rattle.like_files.specs.Inputs.{BeginsReportOf}
use Rattle.like_files.specs.Replay.{HasReplayed}
use Rattle.like_program.specs.Program.{HasServed, example_inputs}
use Rattle.like_program.proofs.Serving.{begins-at_most, files-not_replayed, of_files-ok, of_files-told}
use Rattle.like_program.proofs.example.replay_example.Goals as goal

pub returns-clause-replayed : goal.returns-clause-replayed
returns-clause-replayed g c =
    let options = c.in_ok-options.options in
    let numbers = c.in_ok-options.ensures.numbers in
    let done = c.replay_opened-done.result in
    let old = g.W.Output.held c.args.out.now in
    let new = g.W.Output.held c.replay_opened-done.new.out in
    let replayed = rw (c.as_bytes-pages.ensures.value, c.in_ok-requests.ensures)
    at c.replay_opened-done.ensures.replayed.done in
    rw c.with_options.ensures
    (of_files-ok (HasServed [] old new) options done
    (IfOk-weaker done (HasReplayed options example_inputs old new) (HasServed [] old new)
    (λ notice h. (options, numbers, h)) replayed))

pub returns-clause-fault : goal.returns-clause-fault
returns-clause-fault g c =
    let options = c.in_ok-options.options in
    let done = c.replay_opened-done.result in
    let old = c.args.out.now in
    let new = c.replay_opened-done.new.out in
    let why = rw (c.as_bytes-pages.ensures.value, c.in_ok-requests.ensures)
    at c.replay_opened-done.ensures.replayed.fault in
    let begun = rw (c.as_bytes-pages.ensures.value, c.in_ok-requests.ensures) at c.replay_opened-done.ensures.begun in
    rw c.with_options.ensures
    (files-not_replayed (g.W.Output.held old) (g.W.Output.held new) options done c.in_ok-options.ensures.numbers why
    (begins-at_most (BeginsReportOf options example_inputs) g.W.Output.held done old new begun
    c.replay_opened-done.ensures.replayed.untouched))

pub returns-clause-told : goal.returns-clause-told
returns-clause-told g c =
    rw c.with_options.ensures
    (of_files-told g.W.Output.has_failed c.in_ok-options.options c.replay_opened-done.result c.args.out.now
    c.replay_opened-done.new.out c.replay_opened-done.ensures.output.told)
