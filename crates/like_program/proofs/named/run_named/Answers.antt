use Rattle.std.proofs.Common.{inl, refl}
use Rattle.std.proofs.lemmas.Result.{IfOk-weaker, err_from_is_err_and}
use Rattle.like_files.specs.Inputs.{inputs_in}
use Rattle.like_files.specs.Run.{IsRunFilesFault}
use Rattle.like_program.proofs.NamedFiles.{files-refused, named-begun}
use Rattle.like_program.proofs.named.run_named.Goals as goal

pub returns-in_err-files-clause-run : goal.returns-in_err-files-clause-run
returns-in_err-files-clause-run g c =
    let p = err_from_is_err_and c.from_residual.result c.from_residual.ensures.1 in
    rw (p.1, p.2) (record { done = tt; fault = inl c.in_err-files.ensures; untouched = λ before. refl })

pub returns-clause-run : goal.returns-clause-run
returns-clause-run g c = record {
  done = IfOk-weaker
      c.run_opened.result _ _
      (λ notice done. record { opened = c.in_ok-files.files; named = c.in_ok-files.ensures; holds = done })
      c.run_opened.ensures.run.done;
  fault = files-refused
      g.O.Reader.Read.remaining (g.O.Opener.tries c.args.opener.now) (g.O.Opener.tries c.open_files.new.opener)
      c.args.options.now c.in_ok-files.files c.in_ok-files.ensures
      (λ files. IsRunFilesFault c.args.options.now (inputs_in g.O.Reader.Read.remaining files)) c.run_opened.result
      c.run_opened.ensures.run.fault c.run_opened.ensures.read;
  untouched = c.run_opened.ensures.run.untouched;
}

pub returns-clause-begun : goal.returns-clause-begun
returns-clause-begun g c =
    named-begun g.O.Reader.Read.remaining (g.O.Opener.tries c.args.opener.now) (g.O.Opener.tries c.open_files.new.opener)
    c.args.options.now c.in_ok-files.files c.in_ok-files.ensures g.W.Output.held c.args.out.now
    c.run_opened.new.out c.run_opened.result c.run_opened.ensures.begun
