use Rattle.std.proofs.Common.{◌∙◌, ap}
use Rattle.clap.specs.Simple.{app_of_fields}
use Rattle.clap.specs.Words.{App, new_app}
use Rattle.clap.specs.declared.builder.command.Command.{Command}
use Rattle.clap.specs.declared.builder.command.Command.TheOpen.{Command-F}
use Rattle.like_command.specs.Built.{IsCommand}
use Rattle.like_command.proofs.Commands.{all_added}
use Rattle.like_command.proofs.command.add_subcommand.Goals as goal

pub returns : goal.returns
returns c rules arguments =
    let app0 : App = new_app c.args.name.now in
    let s0 : IsCommand app0 c.after_help.result = record {
      app_is = ap app_of_fields c.after_help.ensures ∙ (ap app_of_fields c.about.ensures ∙ c.new.ensures.app);
      local = ap (λ (f : Command-F Command). f.has_globals) c.after_help.ensures
          ∙ (ap (λ (f : Command-F Command). f.has_globals) c.about.ensures ∙ c.new.ensures.local);
    } in (
      c.in_ok-subcommand.subcommand,
      c.in_ok-push.ensures.items,
      all_added c.after_help.result c.in_ok-subcommand.subcommand rules c.args.arguments.items app0
          c.in_ok-subcommand.ensures arguments s0,
    )
