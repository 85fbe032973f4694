use Rattle.std.proofs.Common.{inl, refl}
use Rattle.std.proofs.lemmas.Result.{IfOk-weaker, err_from_is_err_and}
use Rattle.like_files.specs.Inputs.{inputs_in}
use Rattle.like_files.specs.Replay.{IsReplayFilesFault}
use Rattle.like_program.proofs.NamedFiles.{files-refused, named-begun}
use Rattle.like_program.proofs.named.replay_named.Goals as goal

pub returns-in_err-files-clause-replayed : goal.returns-in_err-files-clause-replayed
returns-in_err-files-clause-replayed g c =
    let p = err_from_is_err_and c.from_residual.result c.from_residual.ensures.1 in
    rw (p.1, p.2) (record { done = tt; fault = inl c.in_err-files.ensures; untouched = λ before. refl })

pub returns-clause-replayed : goal.returns-clause-replayed
returns-clause-replayed g c = record {
  done = IfOk-weaker
      c.replay_opened.result _ _
      (λ notice done. record { opened = c.in_ok-files.files; named = c.in_ok-files.ensures; holds = done })
      c.replay_opened.ensures.replayed.done;
  fault = files-refused
      g.O.Reader.Read.remaining (g.O.Opener.tries c.args.opener.now) (g.O.Opener.tries c.open_files.new.opener)
      c.args.options.now c.in_ok-files.files c.in_ok-files.ensures
      (λ files. IsReplayFilesFault c.args.options.now (inputs_in g.O.Reader.Read.remaining files)) c.replay_opened.result
      c.replay_opened.ensures.replayed.fault c.replay_opened.ensures.read;
  untouched = c.replay_opened.ensures.replayed.untouched;
}

pub returns-clause-begun : goal.returns-clause-begun
returns-clause-begun g c =
    named-begun g.O.Reader.Read.remaining (g.O.Opener.tries c.args.opener.now) (g.O.Opener.tries c.open_files.new.opener)
    c.args.options.now c.in_ok-files.files c.in_ok-files.ensures g.W.Output.held c.args.out.now
    c.replay_opened.new.out c.replay_opened.result c.replay_opened.ensures.begun
