use Rattle.std.proofs.Common.{None, inl, inr, map, refl, string_bytes, ◌∙◌, sym}
use Rattle.std.proofs.lemmas.Result.{IfErr-weaker, IfOk-weaker, err_from_is_err_and}
use Rattle.like_command.specs.Asked.{Words}
use Rattle.like_command.specs.declared.asked.Asked.TheVariants.{Run, Replay, Help}
use Rattle.like_program.specs.declared.fault.ProgramFault.TheVariants as program
use Rattle.like_program.proofs.NamedFiles.{some-begun, some-replay, some-replay-fault, some-run, some-run-fault}
use Rattle.like_program.proofs.Serving.{BeginsSome, begins-at_most, files-not_served, not_served, of_files-ok, served, some-words}
use Rattle.like_program.proofs.program.serve.Goals as goal

pub returns-in_err-options-clause-fault : goal.returns-in_err-options-clause-fault
returns-in_err-options-clause-fault g c =
    let words : Words = map string_bytes c.args.words.now in
    let some = some-words string_bytes c.args.words.now (sym c.is_empty.ensures ∙ c.if-is_empty.false) in
    let p = err_from_is_err_and c.from_residual.result c.from_residual.ensures.1 in
    rw (p.1, p.2)
    (not_served words _ _ (program.Words c.in_err-options.field-0.0) some (c.in_err-options.ensures.fault, refl))

pub returns-in_err-begin-in-Run-clause-fault : goal.returns-in_err-begin-in-Run-clause-fault
returns-in_err-begin-in-Run-clause-fault g c =
    let words : Words = map string_bytes c.args.words.now in
    let some = some-words string_bytes c.args.words.now (sym c.is_empty.ensures ∙ c.if-is_empty.false) in
    let asks = rw c.in-Run.is at c.in_ok-options.ensures.asked in
    let p = err_from_is_err_and c.from_residual-in_err-begin-in-Run.result c.from_residual-in_err-begin-in-Run.ensures.1 in
    let twice = c.in_err-begin-in-Run.ensures.twice in
    rw (p.1, p.2, twice.0) (not_served words _ _ program.Inputs some (c.in-Run.options, inl asks, twice.1, refl))

pub returns-in_ok-begin-in-Run-clause-served : goal.returns-in_ok-begin-in-Run-clause-served
returns-in_ok-begin-in-Run-clause-served g c =
    let words : Words = map string_bytes c.args.words.now in
    let some = some-words string_bytes c.args.words.now (sym c.is_empty.ensures ∙ c.if-is_empty.false) in
    let asks = rw c.in-Run.is at c.in_ok-options.ensures.asked in
    rw c.with_options.ensures
    (of_files-ok _ c.in-Run.options c.run_named-done.result
    (IfOk-weaker c.run_named-done.result _ _
    (λ notice done. served words _ _ (Run c.in-Run.options) notice some asks
    (c.in_ok-begin-in-Run.ensures.once, some-run _ _ _ c.in-Run.options _ _ notice done)) c.run_named-done.ensures.run.done))

pub returns-in_ok-begin-in-Run-clause-fault : goal.returns-in_ok-begin-in-Run-clause-fault
returns-in_ok-begin-in-Run-clause-fault g c =
    let words : Words = map string_bytes c.args.words.now in
    let some = some-words string_bytes c.args.words.now (sym c.is_empty.ensures ∙ c.if-is_empty.false) in
    let asks = rw c.in-Run.is at c.in_ok-options.ensures.asked in
    let options = c.in-Run.options in
    let done = c.run_named-done.result in
    let old = c.args.out.now in
    let new = c.run_named-done.new.out in
    rw c.with_options.ensures
    (files-not_served words _ _ options done some
    (IfErr-weaker done _ _ (λ fault why. inl (asks, some-run-fault _ _ _ options fault asks.1.script why))
    c.run_named-done.ensures.run.fault)
    (begins-at_most (BeginsSome options) g.W.Output.held done old new
    (some-begun _ _ _ options g.W.Output.held old new done c.run_named-done.ensures.begun)
    c.run_named-done.ensures.run.untouched))

pub returns-in_err-begin-in-Replay-clause-fault : goal.returns-in_err-begin-in-Replay-clause-fault
returns-in_err-begin-in-Replay-clause-fault g c =
    let words : Words = map string_bytes c.args.words.now in
    let some = some-words string_bytes c.args.words.now (sym c.is_empty.ensures ∙ c.if-is_empty.false) in
    let asks = rw c.in-Replay.is at c.in_ok-options.ensures.asked in
    let p = err_from_is_err_and c.from_residual-in_err-begin-in-Replay.result c.from_residual-in_err-begin-in-Replay.ensures.1 in
    let twice = c.in_err-begin-in-Replay.ensures.twice in
    rw (p.1, p.2, twice.0) (not_served words _ _ program.Inputs some (c.in-Replay.options, inr asks, twice.1, refl))

pub returns-in_ok-begin-in-Replay-clause-served : goal.returns-in_ok-begin-in-Replay-clause-served
returns-in_ok-begin-in-Replay-clause-served g c =
    let words : Words = map string_bytes c.args.words.now in
    let some = some-words string_bytes c.args.words.now (sym c.is_empty.ensures ∙ c.if-is_empty.false) in
    let asks = rw c.in-Replay.is at c.in_ok-options.ensures.asked in
    rw c.with_options-in-Replay.ensures
    (of_files-ok _ c.in-Replay.options c.replay_named-done.result
    (IfOk-weaker c.replay_named-done.result _ _
    (λ notice done. served words _ _ (Replay c.in-Replay.options) notice some asks
    (c.in_ok-begin-in-Replay.ensures.once, some-replay _ _ _ c.in-Replay.options _ _ notice done)) c.replay_named-done.ensures.replayed.done))

pub returns-in_ok-begin-in-Replay-clause-fault : goal.returns-in_ok-begin-in-Replay-clause-fault
returns-in_ok-begin-in-Replay-clause-fault g c =
    let words : Words = map string_bytes c.args.words.now in
    let some = some-words string_bytes c.args.words.now (sym c.is_empty.ensures ∙ c.if-is_empty.false) in
    let asks = rw c.in-Replay.is at c.in_ok-options.ensures.asked in
    let options = c.in-Replay.options in
    let done = c.replay_named-done.result in
    let old = c.args.out.now in
    let new = c.replay_named-done.new.out in
    rw c.with_options-in-Replay.ensures
    (files-not_served words _ _ options done some
    (IfErr-weaker done _ _ (λ fault why. inr (asks, some-replay-fault _ _ _ options fault why))
    c.replay_named-done.ensures.replayed.fault)
    (begins-at_most (BeginsSome options) g.W.Output.held done old new
    (some-begun _ _ _ options g.W.Output.held old new done c.replay_named-done.ensures.begun)
    c.replay_named-done.ensures.replayed.untouched))

pub returns-in_ok-show-in-Help-clause-served : goal.returns-in_ok-show-in-Help-clause-served
returns-in_ok-show-in-Help-clause-served g c =
    let words : Words = map string_bytes c.args.words.now in
    let some = some-words string_bytes c.args.words.now (sym c.is_empty.ensures ∙ c.if-is_empty.false) in
    let asks = rw c.in-Help.is at c.in_ok-options.ensures.asked in
    served words _ _ (Help c.in-Help.text) None some asks
    (rw c.deref.ensures at c.in_ok-show-in-Help.ensures.shown, refl)
